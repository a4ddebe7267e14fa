use Rattle.std.proofs.Common.{◌≡◌, length}
use Rattle.pair_table.specs.Tables.{with_rows}
use Rattle.site_store.proofs.commanding.clear.Given as goal

-- only rows are taken out
abbrev pub invariant-loop-row : goal.invariant-loop-row
invariant-loop-row l = l.table ≡ with_rows l.initial.table l.table.rows

abbrev pub decreases-loop-row : goal.decreases-loop-row
decreases-loop-row l = length l.table.rows
