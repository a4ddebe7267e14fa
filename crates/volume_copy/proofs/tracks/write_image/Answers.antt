use Rattle.std.proofs.Common.{◌≤◌, ◌∙◌, length, ap, arith}
use Rattle.std.proofs.lemmas.Result.{on_ok_weaker}
use Rattle.ckd_track.specs.Images.{image}
use Rattle.ckd_track.specs.SlotPlaces.{slot_end, slot_place}
use Rattle.crash_plant.specs.declared.device.Device.TheVariants.{Volume}
use Rattle.crash_plant.specs.Bytes.{patched}
use Rattle.volume_copy.proofs.Targets.{copy_written, torn_at}
use Rattle.volume_copy.proofs.tracks.write_image.Goals as goal

pub returns-clause-copied : goal.returns-clause-copied
returns-clause-copied g c told =
    let plant = c.args.plant.now in
    let old = (g.P.Plant.state plant).bytes (Volume c.args.target) in
    let short : length (image c.args.slot.now) ≤ 57344 = omega (arith, c.bytes.ensures.short, ap length c.bytes.ensures.image) in
    let fits : slot_end c.args.track ≤ length old = omega (arith, c.requires.range, g.met.P.Plant.length_told plant (Volume c.args.target) told c.requires.there) in
    on_ok_weaker c.write.result (λ e. copy_written c.args.slot.now c.args.track old _ short fits (e ∙ (λ i. patched (c.slot_place.ensures i) (c.bytes.ensures.image i) old))) (c.write.ensures.written told)

pub returns-clause-short : goal.returns-clause-short
returns-clause-short g c = omega (arith, c.bytes.ensures.short, ap length c.bytes.ensures.image)

pub returns-clause-torn : goal.returns-clause-torn
returns-clause-torn g c told = torn_at c.slot_place.result (slot_place c.args.track) (length c.bytes.result.now) (length (image c.args.slot.now)) _ _ c.slot_place.ensures (ap length c.bytes.ensures.image) (c.write.ensures.torn told)

pub returns-clause-moments : goal.returns-clause-moments
returns-clause-moments g c told t from to f left =
    let start = c.write.ensures.moments told t from to f left in
    (start.0, start.1, torn_at c.slot_place.result (slot_place c.args.track) (length c.bytes.result.now) (length (image c.args.slot.now)) start.0 f c.slot_place.ensures (ap length c.bytes.ensures.image) start.2)
