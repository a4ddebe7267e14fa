use Rattle.std.proofs.Common.{◌≡◌, ℕ, ◌<◌, get_or, Some}
use Rattle.fed_logs.specs.declared.reading.Reading.TheVariants as readings
use Rattle.mover.specs.Lanes.{last_of}
use Rattle.mover.proofs.round.is_any_lacking.Given as goal

-- no reader before lacked memory
abbrev pub invariant-loop-place : goal.invariant-loop-place
invariant-loop-place g l = (k : ℕ) (d : _) → k < l.place → ¬ (last_of (get_or l.lanes k d).reader ≡ Some readings.NoMemory)
