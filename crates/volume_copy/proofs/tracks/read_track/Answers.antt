use Rattle.std.proofs.Common.{◌≤◌, length, arith, refl}
use Rattle.crash_plant.specs.declared.device.Device.TheVariants.{Volume}
use Rattle.ckd_track.specs.SlotPlaces.{slot_end}
use Rattle.volume_copy.proofs.Reading.{held_is, none_held}
use Rattle.volume_copy.proofs.tracks.read_track.Goals as goal

pub returns-in-Ok-clause-held : goal.returns-in-Ok-clause-held
returns-in-Ok-clause-held g c told =
    let plant = c.args.plant.now in
    let bytes = (g.P.Plant.state plant).bytes (Volume c.args.source) in
    let fits : slot_end c.args.track ≤ length bytes = omega (arith, c.requires.range, g.met.P.Plant.length_told plant (Volume c.args.source) told c.requires.there) in
    held_is c.args.track c.slot_place.result 57344 bytes c.read.new.into fits c.slot_place.ensures refl (c.in_ok-read.ensures.bytes told) c.load.new.self _ c.in-Ok.ensures.ok

pub returns-in-Err-clause-held : goal.returns-in-Err-clause-held
returns-in-Err-clause-held g c told =
    let plant = c.args.plant.now in
    let bytes = (g.P.Plant.state plant).bytes (Volume c.args.source) in
    let fits : slot_end c.args.track ≤ length bytes = omega (arith, c.requires.range, g.met.P.Plant.length_told plant (Volume c.args.source) told c.requires.there) in
    none_held c.args.track c.slot_place.result 57344 bytes c.read.new.into fits c.slot_place.ensures refl (c.in_ok-read.ensures.bytes told) _ c.load.new.self c.in-Err.ensures.err
