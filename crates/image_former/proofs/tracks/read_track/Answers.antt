use Rattle.std.proofs.Common.{◌≡◌, ℕ, List, [], Option, sym, ap, subst}
use Rattle.std.specs.Prelude.{unwrap_or, OnOk}
use Rattle.ckd_track.specs.declared.rec.Rec.{Rec}
use Rattle.ckd_track.specs.SlotPlaces.{slot_track}
use Rattle.image_former.proofs.Reading.{front_is, reads_again}
use Rattle.image_former.proofs.tracks.read_track.Goals as goal

pub returns-in-Ok-clause-track : goal.returns-in-Ok-clause-track
returns-in-Ok-clause-track g c told =
    let volume = (g.D.Disk.state c.args.disk.now).bytes in
    ap (λ (t : Option (List Rec)). unwrap_or t []) (sym (front_is c.args.track c.slot_place.result _ volume c.read.new.into _ c.load.new.self c.slot_place.ensures (c.in_ok-read.ensures.bytes told) c.in-Ok.ensures.ok))

pub returns-in-Err-clause-track : goal.returns-in-Err-clause-track
returns-in-Err-clause-track g c told =
    subst (λ (volume : List ℕ). OnOk c.read_whole_slot.result (c.read_whole_slot.new.slot ≡ unwrap_or (slot_track volume c.args.track) [])) (c.in_ok-read.ensures.same told) (c.read_whole_slot.ensures.track told)

pub returns-in-Err-clause-reads : goal.returns-in-Err-clause-reads
returns-in-Err-clause-reads g c = reads_again g.D.Disk.state g.D.Disk.tells c.args.disk.now c.read.new.self c.read_whole_slot.new.disk c.read_whole_slot.result (record {
  length_is = c.in_ok-read.ensures.length;
  bytes = c.in_ok-read.ensures.same;
  past = c.in_ok-read.ensures.past;
  moments = c.in_ok-read.ensures.moments;
  cause = c.in_ok-read.ensures.cause;
}) c.read_whole_slot.ensures.reads
