use Rattle.std.proofs.Common.{◌≡◌, ◌≤◌, [], List, Option, IfOk, length, arith, sym, ap, subst}
use Rattle.std.specs.Prelude.{unwrap_or}
use Rattle.ckd_track.specs.declared.rec.Rec.{Rec}
use Rattle.ckd_track.specs.SlotPlaces.{slot_end}
use Rattle.crash_plant.specs.declared.device.Device.TheVariants.{Volume}
use Rattle.crash_plant.specs.PlainLaws.{plain_length_told}
use Rattle.crash_plant.specs.PlainPlant.{plain_state}
use Rattle.workload.proofs.Holding.{slot_was_read}
use Rattle.workload.proofs.Leaving.{leaves_one, never_rises}
use Rattle.workload.proofs.tracks.read_track.Goals as goal

pub unreachable-requires : goal.unreachable-requires
unreachable-requires c = never_rises c.args.plant.now c.read.new.self (Volume c.args.device) c.in-Err.ensures.cause.failed

pub returns-clause-track : goal.returns-clause-track
returns-clause-track c =
    let volume = (plain_state c.args.plant.now).bytes (Volume c.args.device) in
    let fits : slot_end c.args.track ≤ length volume = omega (arith, c.requires.room, plain_length_told c.args.plant.now (Volume c.args.device) c.requires.there) in
    let is = slot_was_read c.args.track c.slot_place.result volume c.read.new.into fits c.slot_place.ensures (c.in-Ok.ensures.bytes tt) in
    subst (λ (recs : List Rec). IfOk c.decoded.result (λ (held : List Rec). held ≡ recs)) (sym (ap (λ (t : Option (List Rec)). unwrap_or t []) is)) c.decoded.ensures

pub returns-clause-leaves : goal.returns-clause-leaves
returns-clause-leaves c = leaves_one c.args.plant.now c.read.new.self (Volume c.args.device) (c.read.ensures.same tt) c.read.ensures.only
