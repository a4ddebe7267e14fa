use Rattle.std.proofs.Common.{◌≡◌}
use Rattle.group_tests.specs.Turns.{MovesUpTo}
use Rattle.group_tests.proofs.turns.form_some.Given as goal

abbrev pub invariant-loop : goal.invariant-loop
invariant-loop g l = record { moves : MovesUpTo l.group.table 20 l.seat; room : l.out.controls ≡ l.initial.out.controls }
