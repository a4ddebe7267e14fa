use Rattle.std.proofs.Common.{◌≡◌, ℕ, true, List, drop, sym, ap, subst, ◌∙◌, Bor, arith}
use Rattle.std.proofs.lemmas.Bool.{le-ltb}
use Rattle.ckd_track.specs.declared.rec.Rec.{Rec}
use Rattle.ckd_track.specs.Tracks.{capacity}
use Rattle.ckd_track.specs.Images.{record_at}
use Rattle.ckd_image.specs.ImageTracks.{GivesTrack, begins_with, count_place, counted_at, placed_in_track}
use Rattle.ckd_image.proofs.CountedReads.{counted_is}
use Rattle.ckd_image.proofs.Steps.{length_read}
use Rattle.ckd_image.proofs.reading.counted_record.Goals as goal

pub returns-clause-length : goal.returns-clause-length
returns-clause-length c =
    let bytes = c.args.bytes.now in
    let view : Rec × Bor (List ℕ) → Rec × List ℕ = λ x. (x.0, x.1.now) in
    let begins : begins_with (count_place c.args.number) bytes ≡ true = ap (λ (f : List ℕ). begins_with f bytes) (sym c.count_place.ensures) ∙ sym c.begins_with.ensures ∙ c.if-not-begins_with.false in
    let is = counted_is c.args.number c.args.place c.args.last bytes (le-ltb _ _ c.if-bytes-lt-COUNT_LENGTH.false) begins in
    let read = ap (λ (t : List ℕ). placed_in_track c.args.place (record_at 0 c.args.last capacity t)) c.split_at.ensures.back ∙ sym is in
    length_read {X = Rec × Bor (List ℕ)} (λ x. x.0) (λ x. x.1.now) c.args.number c.args.place c.args.last bytes c.record_after_place.result (λ i. omega (arith, c.type_inv.bytes i))
    (subst (λ r. GivesTrack view c.record_after_place.result r) read c.record_after_place.ensures)
