use Rattle.std.proofs.Common.{◌≡◌, sym, ◌∙◌, arith}
use Rattle.xrc_journal.specs.Items.{form_of}
use Rattle.xrc_journal.specs.Bodies.{earlier_of}
use Rattle.xrc_journal.proofs.ItemSteps.{device_in, track_in, image_cut, barred_by, none_by, whole_by, short_image}
use Rattle.xrc_journal.proofs.item.image_length.Goals as goal

pub returns-then-fields-lt-TRACK-clause-length : goal.returns-then-fields-lt-TRACK-clause-length
returns-then-fields-lt-TRACK-clause-length g c = λ place. sym (image_cut (form_of (g.P.Plant.state c.args.plant.now)) (earlier_of c.args.body.now) place c.args.fields.now (omega (arith, c.if-fields-lt-TRACK.true)))

pub returns-then-not-may_draw-clause-length : goal.returns-then-not-may_draw-clause-length
returns-then-not-may_draw-clause-length g c = λ place.
    let device : c.read_u16-device.result ≡ device_in c.args.fields.now = omega (arith, c.read_u16-device.ensures) in
    let track : c.read_u32-track.result ≡ track_in c.args.fields.now = omega (arith, c.read_u32-track.ensures) in
    sym (barred_by (form_of (g.P.Plant.state c.args.plant.now)) (earlier_of c.args.body.now) place c.args.fields.now c.read_u16-device.result c.read_u32-track.result c.if-fields-lt-TRACK.false device track (sym c.may_draw.ensures.may ∙ c.if-not-may_draw.true))

pub overflow_add-result : goal.overflow_add-result
overflow_add-result g c = omega (arith, c.in-Ok.ensures.length, short_image c.args.fields.now _ _ (λ i. omega (arith, c.type_inv.fields i)) c.in-Ok.ensures.ok)

pub returns-in-Ok-clause-length : goal.returns-in-Ok-clause-length
returns-in-Ok-clause-length g c = λ place.
    let device : c.read_u16-device.result ≡ device_in c.args.fields.now = omega (arith, c.read_u16-device.ensures) in
    let track : c.read_u32-track.result ≡ track_in c.args.fields.now = omega (arith, c.read_u32-track.ensures) in
    sym (whole_by (form_of (g.P.Plant.state c.args.plant.now)) (earlier_of c.args.body.now) place c.args.fields.now c.read_u16-device.result c.read_u32-track.result c.if-fields-lt-TRACK.false device track (sym c.may_draw.ensures.may ∙ c.if-not-may_draw.false) _ _ c.in-Ok.length c.in-Ok.ensures.ok c.in-Ok.ensures.length)

pub returns-in-Err-clause-length : goal.returns-in-Err-clause-length
returns-in-Err-clause-length g c = λ place.
    let device : c.read_u16-device.result ≡ device_in c.args.fields.now = omega (arith, c.read_u16-device.ensures) in
    let track : c.read_u32-track.result ≡ track_in c.args.fields.now = omega (arith, c.read_u32-track.ensures) in
    sym (none_by (form_of (g.P.Plant.state c.args.plant.now)) (earlier_of c.args.body.now) place c.args.fields.now c.read_u16-device.result c.read_u32-track.result c.if-fields-lt-TRACK.false device track (sym c.may_draw.ensures.may ∙ c.if-not-may_draw.false) c.in-Err.field-0 c.in-Err.ensures.err)
