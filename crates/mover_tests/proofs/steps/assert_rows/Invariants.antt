use Rattle.std.proofs.Common.{take}
use Rattle.std.specs.List.{All}
use Rattle.site_store.specs.Logging.{IsOfSomeRow}
use Rattle.mover_tests.proofs.steps.assert_rows.Given as goal

abbrev pub invariant-loop-place : goal.invariant-loop-place
invariant-loop-place g l = All (IsOfSomeRow l.table.rows) (take l.place l.formed.entries)
