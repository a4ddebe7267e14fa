use Rattle.site_store.proofs.RowPuts.{Puts}
use Rattle.site_store.specs.Hits.{with_group_and_hits}
use Rattle.site_store.proofs.group_rows.put_changed.Given as goal

-- the pairs of the rows before were put
abbrev pub invariant-loop-row : goal.invariant-loop-row
invariant-loop-row l = Puts (with_group_and_hits l.formed l.hits) l.fn.body l.body l.table.rows l.row-index
