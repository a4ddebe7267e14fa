-- The clock of a plant in memory. It counts two for each call that raises it, so that there is a moment between two of them,
-- at which a volume that was lent may stand at any of its own.
use Rattle.std.specs.Prelude.{ℕ, ◌+◌, Bool, nat_le}

abbrev pub clock_of : ℕ → ℕ
clock_of ticks = ticks + ticks + 1

abbrev pub last_tick : ℕ
last_tick = 4611686018427387904

-- whether the clock has come to its end, where each call fails that would raise it
abbrev pub is_at_end : ℕ → Bool
is_at_end ticks = nat_le last_tick ticks
