use Rattle.std.proofs.Common.{sym, ap, ◌∙◌, arith, length}
use Rattle.pair_table.specs.Tables.{Table, with_rows}
use Rattle.site_store.proofs.CopiedRows.{fewer, no_first}
use Rattle.site_store.proofs.commanding.clear.Goals as goal

pub loop-row-smaller : goal.loop-row-smaller
loop-row-smaller c = omega (arith, fewer c.loop-row.table.rows c.in-Some.row.now (sym c.in-Some.ensures.row), ap (λ (t : Table). length t.rows) c.remove.ensures)

pub returns : goal.returns
returns c = c.loop-row.invariant ∙ ap (with_rows c.args.table.now) (no_first c.row.result c.loop-row.table.rows c.row.ensures.row (λ row is. c.in_default.not-Some row is))
