use Rattle.std.proofs.Common.{◌≡◌, take}
use Rattle.mover_tests.proofs.commands.rows_of.Given as goal

abbrev pub invariant-loop-place : goal.invariant-loop-place
invariant-loop-place g l = l.rows.items ≡ take l.place l.table.rows
