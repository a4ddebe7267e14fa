use Rattle.std.specs.Prelude.{◌≡◌}
use Rattle.pair_table.specs.Tables.{with_rows}
use Rattle.site_store.proofs.RowPuts.{taken}
use Rattle.site_store.specs.Hits.{with_hits}
use Rattle.site_store.proofs.hits.take_hits.Given as goal

-- the rows before were taken
abbrev pub invariant-loop-place : goal.invariant-loop-place
invariant-loop-place l = l.table ≡ with_rows l.fn.table (taken (with_hits l.hits) l.fn.table.rows l.place)
