use Rattle.std.specs.Prelude.{◌≡◌}
use Rattle.pair_table.specs.Tables.{with_rows}
use Rattle.site_store.proofs.RowPuts.{taken}
use Rattle.site_store.specs.Hits.{with_group_and_hits}
use Rattle.site_store.proofs.group_rows.take_changed.Given as goal

-- the rows before were taken
abbrev pub invariant-loop-place : goal.invariant-loop-place
invariant-loop-place l = l.table ≡ with_rows l.fn.table (taken (with_group_and_hits l.formed l.hits) l.fn.table.rows l.place)
