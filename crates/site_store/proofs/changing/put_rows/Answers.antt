use Rattle.std.proofs.Common.{◌≡◌, ◌+◌, get_or, Some, None, ap, subst, ◌∙◌, sym, refl, arith}
use Rattle.std.specs.Option.{option_copied}
use Rattle.pair_table.specs.Tables.{row_of}
use Rattle.site_store.specs.Changing.{pair_item}
use Rattle.xrc_journal.specs.Bodies.{BodyState}
use Rattle.xrc_journal.specs.Items.Item.{Pair}
use Rattle.site_store.proofs.DevicePuts.{Put, found_is_row, pair_length, put_none, put_one}
use Rattle.site_store.proofs.changing.put_rows.Goals as goal
use Rattle.site_store.proofs.changing.put_rows.Goals.{in-Some, in_default}

pub put_row-requires-clause-fits : goal.put_row-requires-clause-fits
put_row-requires-clause-fits c =
    let is = found_is_row _ c.args.table.now.rows c.in-Some.row.now c.requires.rules.each (sym c.in-Some.ensures.row) in
    omega (arith, c.loop-device.invariant.long, c.loop-device.invariant.room, pair_length c.in-Some.row.now is, c.requires.room, c.loop-device-test.true)

pub loop-device-preserved : goal.loop-device-preserved
loop-device-preserved c =
    let rows = c.args.table.now.rows in
    let device = get_or c.args.devices.now c.loop-device.device-index 0 in
    let found = c.row_of.ensures.row in
    elim c.match-row_of.branch [
      | in-Some w ↦
          let is : row_of device rows ≡ Some w.in-Some.row.now = sym found ∙ ap option_copied w.in-Some.is in
          let long = pair_length w.in-Some.row.now (found_is_row device rows w.in-Some.row.now c.requires.rules.each is) in
          put_one (λ d. pair_item (row_of d rows)) c.args.body.now c.loop-device.body c.args.devices.now c.loop-device.device-index device c.loop-device-test.true refl c.loop-device.invariant (Pair 2 w.in-Some.row.now) c.match-row_of.body
          (ap pair_item is) (omega (arith, long)) (w.body-is ∙ w.put_row.ensures)
      | in_default w ↦
          let is : row_of device rows ≡ None = sym found ∙ ap option_copied w.in_default.is in
          subst (λ (h : BodyState). Put (λ d. pair_item (row_of d rows)) c.args.body.now h c.args.devices.now (c.loop-device.device-index + 1)) (sym w.body-is)
          (put_none (λ d. pair_item (row_of d rows)) c.args.body.now c.loop-device.body c.args.devices.now c.loop-device.device-index device c.loop-device-test.true refl c.loop-device.invariant (ap pair_item is))
    ]
