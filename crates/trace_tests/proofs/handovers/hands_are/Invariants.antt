use Rattle.std.proofs.Common.{◌≤◌}
use Rattle.trace_tests.proofs.handovers.hands_are.Given as goal

abbrev pub invariant-loop-limit : goal.invariant-loop-limit
invariant-loop-limit g l = l.side.upto ≤ l.last
