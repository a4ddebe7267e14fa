use Rattle.std.proofs.Common.{◌≡◌, true, List, ℕ, take, sym, ap, subst, ◌∙◌}
use Rattle.ckd_track.specs.declared.rec.Rec.{Rec}
use Rattle.ckd_image.specs.ImageTracks.{GivesTrack, begins_with, home_address, track_front}
use Rattle.ckd_image.proofs.TrackReads.{track_is}
use Rattle.ckd_image.proofs.reading.read_track.Goals as goal

pub returns : goal.returns
returns c =
    let bytes = c.args.bytes.now in
    let same_home : take 5 c.track_front-front.result ≡ home_address c.args.number = ap (λ (t : List ℕ). take 5 t) c.track_front-front.ensures in
    let home : begins_with (home_address c.args.number) bytes ≡ true = ap (λ (f : List ℕ). begins_with f bytes) (sym same_home) ∙ sym c.begins_with.ensures ∙ c.if-not-begins_with.false in
    let front : begins_with (track_front c.args.number) bytes ≡ true = ap (λ (f : List ℕ). begins_with f bytes) (sym c.track_front-front.ensures) ∙ sym c.begins_with-2.ensures ∙ c.if-not-begins_with-2.false in
    subst (λ r. GivesTrack (λ (track : List Rec). track) c.records_to_end.result r) (track_is c.args.number bytes c.split_at.result.1.now home front (sym c.split_at.ensures.back)) c.records_to_end.ensures
