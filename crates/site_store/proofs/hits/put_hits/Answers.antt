use Rattle.std.proofs.Common.{◌≡◌, ◌+◌, length, Some, None, sym, ap, subst, ◌∙◌, arith}
use Rattle.std.specs.Prelude.{slice_get}
use Rattle.image_former.proofs.Lists.{item_there}
use Rattle.xrc_journal.specs.Bodies.{BodyState}
use Rattle.site_store.specs.Hits.{with_hits}
use Rattle.site_store.proofs.HitRows.{row_below}
use Rattle.site_store.proofs.RowPuts.{Puts, changed_is_row, changed_length, puts_none, puts_one, row_at_is}
use Rattle.site_store.proofs.hits.put_hits.Goals as goal
use Rattle.site_store.proofs.hits.put_hits.Goals.{in-Some, in_default}

pub put_row-requires-clause-fits : goal.put_row-requires-clause-fits
put_row-requires-clause-fits c =
    let rows = c.args.table.now.rows in
    let row = c.row-item.result in
    let there : slice_get rows c.loop-row.row-index ≡ Some row = item_there c.rows-row-items.result.now rows c.loop-row.row-index row c.rows-row-items.ensures.rows c.loop-row-test.true c.row-item.is in
    let long = changed_length c.in-Some.state row c.in-Some.ensures.valid (row_at_is rows c.loop-row.row-index row c.rows-row-items.ensures.sound.each there) in
    omega (arith, long, c.loop-row.invariant.long, c.loop-row.invariant.room, c.rows-row-items.ensures.sound.few, ap length c.rows-row-items.ensures.rows, c.loop-row-test.true, c.requires.room)

pub loop-row-preserved : goal.loop-row-preserved
loop-row-preserved c =
    let next_of = with_hits c.args.hits.now in
    let rows = c.args.table.now.rows in
    let i = c.loop-row.row-index in
    let row = c.row-item.result in
    let there : slice_get rows i ≡ Some row = item_there c.rows-row-items.result.now rows i row c.rows-row-items.ensures.rows c.loop-row-test.true c.row-item.is in
    elim c.match-next_state.branch [
      | in-Some w ↦
          let state = w.in-Some.state in
          let next : next_of row ≡ Some state = sym c.next_state.ensures.state ∙ w.in-Some.is in
          let is_one = changed_is_row state row w.in-Some.ensures.valid (row_at_is rows i row c.rows-row-items.ensures.sound.each there) in
          puts_one next_of c.args.body.now c.loop-row.body rows i row there c.loop-row.invariant state c.match-next_state.body next is_one (w.body-is ∙ w.put_row.ensures)
      | in_default w ↦
          let none : next_of row ≡ None = sym c.next_state.ensures.state ∙ w.in_default.is in
          subst (λ (h : BodyState). Puts next_of c.args.body.now h rows (i + 1)) (sym w.body-is) (puts_none next_of c.args.body.now c.loop-row.body rows i row there c.loop-row.invariant none)
    ]

pub next_state-requires : goal.next_state-requires
next_state-requires c =
    let rows = c.args.table.now.rows in
    let there : slice_get rows c.loop-row.row-index ≡ Some c.row-item.result = item_there c.rows-row-items.result.now rows c.loop-row.row-index c.row-item.result c.rows-row-items.ensures.rows c.loop-row-test.true c.row-item.is in
    row_below 64 rows c.loop-row.row-index c.row-item.result c.requires.below there
