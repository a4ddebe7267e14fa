use Rattle.std.proofs.Common.{◌≤◌, length, arith, refl}
use Rattle.ckd_track.specs.SlotPlaces.{slot_end}
use Rattle.image_former.proofs.Reading.{loaded_slot}
use Rattle.image_former.proofs.tracks.read_whole_slot.Goals as goal

pub returns-clause-track : goal.returns-clause-track
returns-clause-track g c told =
    let disk = c.args.disk.now in
    let fits : slot_end c.args.track ≤ length (g.D.Disk.state disk).bytes = omega (arith, c.requires, g.met.D.Disk.length_told disk told) in
    loaded_slot c.args.track c.slot_place.result 57344 (g.D.Disk.state disk).bytes c.read.new.into c.load.result c.load.new.self fits c.slot_place.ensures refl (c.in_ok-read.ensures.bytes told)
    c.load.ensures.ok c.load.ensures.err c.load.ensures.empty
