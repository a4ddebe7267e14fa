use Rattle.std.proofs.Common.{◌≡◌, Some, sym, ap, subst, ◌∙◌}
use Rattle.std.specs.Prelude.{slice_get}
use Rattle.pair_table.specs.Tables.{MayPut, Table, with_row}
use Rattle.pair_table.proofs.RowRules.{row_keeps}
use Rattle.image_former.proofs.Lists.{item_there}
use Rattle.site_store.proofs.CopiedRows.{may_put_next, next_row}
use Rattle.site_store.proofs.RowPuts.{row_at_is}
use Rattle.site_store.proofs.commanding.copy_rows.Goals as goal

pub put_row-requires : goal.put_row-requires
put_row-requires c =
    let rows = c.args.from.now.rows in
    let i = c.loop-row.row-index in
    let row = c.row-item.result in
    let sound = c.rows-row-items.ensures.sound in
    let there : slice_get rows i ≡ Some row = item_there c.rows-row-items.result.now rows i row c.rows-row-items.ensures.rows c.loop-row-test.true c.row-item.is in
    subst (MayPut row) (sym c.loop-row.invariant.0) (may_put_next rows i row sound there (row_keeps row (row_at_is rows i row sound.each there)))

pub loop-row-preserved : goal.loop-row-preserved
loop-row-preserved c =
    let rows = c.args.from.now.rows in
    let i = c.loop-row.row-index in
    let row = c.row-item.result in
    let there : slice_get rows i ≡ Some row = item_there c.rows-row-items.result.now rows i row c.rows-row-items.ensures.rows c.loop-row-test.true c.row-item.is in (
      ap (λ (t : Table). t.rows) c.in_ok-put_row.ensures.ok ∙ ap (with_row row) c.loop-row.invariant.0 ∙ next_row rows i row c.rows-row-items.ensures.sound there,
      ap (λ (t : Table). t.session) c.in_ok-put_row.ensures.ok ∙ c.loop-row.invariant.1,
    )
