use Rattle.std.proofs.Common.{ℕ, ◌<◌, get_or}
use Rattle.std.specs.Prelude.{IsSomeAnd}
use Rattle.mover.specs.Rounds.{IsDone}
use Rattle.mover.proofs.round.are_done.Given as goal

-- each reader before is done
abbrev pub invariant-loop-place : goal.invariant-loop-place
invariant-loop-place g l = (k : ℕ) (d : _) → k < l.place → IsSomeAnd (get_or l.lanes k d).reader IsDone
