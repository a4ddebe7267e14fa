use Rattle.std.proofs.Common.{◌≡◌, ℕ, ◌∷◌, [], List, length, drop, Ok, Err, sym, ap, ◌∙◌, arith}
use Rattle.ckd_track.specs.declared.rec.Rec.{Rec}
use Rattle.ckd_image.specs.declared.fault.TrackFault.{TrackFault}
use Rattle.ckd_image.specs.ImageTracks.{placed_in_track, track_fault_at}
use Rattle.ckd_image.proofs.CountedReads.{none_read, one_is_there, same_first}
use Rattle.ckd_image.proofs.reading.record_after_place.Goals as goal

pub split_at-requires : goal.split_at-requires
split_at-requires c = (one_is_there c.args.last c.in-Ok.length c.args.bytes.now c.in-Ok.recs (λ i. omega (arith, c.type_inv.bytes i)) c.in-Ok.ensures.ok c.in-Ok.ensures.length).within

pub only_record-requires : goal.only_record-requires
only_record-requires c = ap length (one_is_there c.args.last c.in-Ok.length c.args.bytes.now c.in-Ok.recs (λ i. omega (arith, c.type_inv.bytes i)) c.in-Ok.ensures.ok c.in-Ok.ensures.length).row

pub returns-in-Ok : goal.returns-in-Ok
returns-in-Ok c =
    let one = one_is_there c.args.last c.in-Ok.length c.args.bytes.now c.in-Ok.recs (λ i. omega (arith, c.type_inv.bytes i)) c.in-Ok.ensures.ok c.in-Ok.ensures.length in
    let same : one.rec ≡ c.only_record.result = same_first one.rec c.only_record.result (sym one.row ∙ c.only_record.ensures) in
    ap (placed_in_track c.args.place) one.read ∙ ap (λ (r : Rec). Ok (r, drop c.in-Ok.length c.args.bytes.now)) same
    ∙ ap (λ (t : List ℕ). Ok (c.only_record.result, t)) (sym c.split_at.ensures.back)

pub returns-in-Err : goal.returns-in-Err
returns-in-Err c = λ some.
    ap (placed_in_track c.args.place) (none_read c.args.last c.args.bytes.now c.in-Err.error (c.in-Err.ensures.err (λ is. some (c.fault_at.ensures ∙ ap (track_fault_at c.args.place) is))))
    ∙ ap (λ (f : TrackFault). Err f) (sym c.fault_at.ensures)
