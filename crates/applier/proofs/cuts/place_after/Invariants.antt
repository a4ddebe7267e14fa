use Rattle.std.proofs.Common.{◌≤◌}
use Rattle.applier.proofs.cuts.place_after.Given as goal

abbrev pub invariant-loop-place : goal.invariant-loop-place
invariant-loop-place g l = l.passed ≤ l.place
