-- What a source in memory holds.
use Rattle.std.specs.Prelude.{ℕ, List, drop}

pub record MemoryState : Type 0 where
  -- the bytes left
  pub left : List ℕ
  -- how many of them a pull gives at most
  pub most : ℕ
  -- the marks of the calls to come, of which 1 makes its call fail; calls after the last mark do not fail
  pub fails : List ℕ
  pub faults : ℕ

-- such a source before its first call
abbrev pub fresh : (bytes : List ℕ) (most : ℕ) (fails : List ℕ) → MemoryState
fresh bytes most fails = record { left = bytes; most = most; fails = fails; faults = 0 }

-- the same source with the mark of its next call used
abbrev pub next_marked : MemoryState → MemoryState
next_marked state = record state { fails = drop 1 state.fails }
