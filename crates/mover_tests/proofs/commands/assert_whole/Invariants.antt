use Rattle.std.specs.Prelude.{◌≡◌, ◌<◌, ℕ, None, slice_index_or}
use Rattle.mover.specs.declared.lane.Lane.{Lane}
use Rattle.mover.specs.Lanes.{broken_by}
use Rattle.mover_tests.proofs.commands.assert_whole.Given as goal

-- none of those before has broken
abbrev pub invariant-loop-place : goal.invariant-loop-place
invariant-loop-place g l = (k : ℕ) (d : Lane _) → k < l.place → broken_by (slice_index_or l.lanes k d).reader ≡ None
