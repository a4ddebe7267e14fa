use Rattle.std.proofs.Common.{arith}
use Rattle.image_former.proofs.Lists.{item_there}
use Rattle.xrc_session.proofs.CopiedRows.{taken_more}
use Rattle.xrc_session.proofs.rows.RowsBefore.copy.Goals as goal

pub loop-row-preserved : goal.loop-row-preserved
loop-row-preserved c =
    let rows = c.args.table.now.rows in
    let i = c.loop-row.row-index in
    let row = c.row-item.result in
    let there = item_there c.rows-row-items.result.now rows i row c.rows-row-items.ensures.rows c.loop-row-test.true c.row-item.is in (
      taken_more rows i row c.loop-row.self.rows.items c.push_reserved.new.self.items there c.loop-row.invariant.0 c.push_reserved.ensures.items,
      omega (arith, c.push_reserved.ensures.len, c.loop-row.invariant.1),
    )
