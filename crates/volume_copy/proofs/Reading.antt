-- A track that is read from its slot.
use Rattle.std.proofs.Common.{◌≡◌, ◌≤◌, ◌+◌, ◌-◌, ℕ, true, false, List, [], length, drop, Result, Ok, Err, sym, ◌∙◌, ap, arith, append-nil, length-take, length-drop}
use Rattle.std.specs.Prelude.{slice_range}
use Rattle.ckd_track.specs.declared.fault.ImageError.{ImageError}
use Rattle.ckd_track.specs.declared.rec.Rec.{Rec}
use Rattle.ckd_track.specs.Images.{image_at}
use Rattle.ckd_track.specs.SlotPlaces.{slot_place, slot_end, slot_track, track_read}
use Rattle.ckd_track.proofs.SlotTracks.{after_is, image_same}
use Rattle.volume_copy.specs.Targets.{IsHeld}

-- The bytes of a slot tell its track.
slot_is : (x : ℕ) (volume : List ℕ) → slot_end x ≤ length volume → slot_track volume x ≡ track_read (image_at (slice_range volume (slot_place x) (slot_end x)))
slot_is x volume fits =
    let p = slot_place x in
    let q = slot_end x in
    let t = slice_range volume p q in
    let long : 56670 ≤ length t = omega (arith, fits, length-take (q - p) (drop p volume), length-drop p volume) in
    ap (λ (l : List ℕ). track_read (image_at l)) (after_is p q volume) ∙ image_same t (drop (q - p) (drop p volume)) [] long ∙ ap (λ (l : List ℕ). track_read (image_at l)) (append-nil t)

module _ (x place n : ℕ) (volume bytes : List ℕ) (fits : slot_end x ≤ length volume) (at : place ≡ slot_place x) (size : n ≡ 57344) (are : bytes ≡ slice_range volume place (place + n)) where
  read_is : slot_track volume x ≡ track_read (image_at bytes)
  read_is =
      let end : place + n ≡ slot_end x = omega (arith, at, size) in
      slot_is x volume fits
      ∙ ap (λ (l : List ℕ). track_read (image_at l)) (sym (are ∙ ap (λ (q : ℕ). slice_range volume place q) end ∙ ap (λ (p : ℕ). slice_range volume p (slot_end x)) at))

  pub held_is : (track : List Rec) (rest : List ℕ) → image_at bytes ≡ Ok (track, rest) → IsHeld (slot_track volume x) true track
  held_is track rest is = read_is ∙ ap (λ (r : Result (List Rec × List ℕ) ImageError). track_read r) is

  pub none_held : (e : ImageError) (track : List Rec) → image_at bytes ≡ Err e → IsHeld (slot_track volume x) false track
  none_held e track is = read_is ∙ ap (λ (r : Result (List Rec × List ℕ) ImageError). track_read r) is
