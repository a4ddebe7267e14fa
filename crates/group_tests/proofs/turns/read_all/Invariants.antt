use Rattle.std.proofs.Common.{◌≡◌}
use Rattle.group_tests.specs.Turns.{ReadsUpTo}
use Rattle.group_tests.proofs.turns.read_all.Given as goal

abbrev pub invariant-loop-before : goal.invariant-loop-before
invariant-loop-before g l = record { reads : ReadsUpTo l.group.table l.before l.seat; own : l.seat.control ≡ l.initial.seat.control }
