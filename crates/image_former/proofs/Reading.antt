-- A track that is read from its slot: from all bytes of it, or from the front where its image lies whole.
use Rattle.std.proofs.Common.{◌≡◌, ◌≤◌, ◌+◌, ◌-◌, ℕ, List, [], ◌++◌, length, drop, Option, Some, Result, Ok, Err, sym, ◌∙◌, ap, subst, arith, append-nil, length-take, length-drop}
use Rattle.std.specs.Prelude.{slice_range, unwrap_or, IfOk, IfErr, OnErr}
use Rattle.ckd_track.specs.declared.fault.ImageError.{ImageError}
use Rattle.ckd_track.specs.declared.rec.Rec.{Rec}
use Rattle.ckd_track.specs.Images.{image_at}
use Rattle.ckd_track.specs.SlotPlaces.{slot_place, slot_end, slot_track, track_read}
use Rattle.ckd_track.proofs.SlotTracks.{after_is, image_same}
use Rattle.xrc_edge.specs.Causes.{HasCause}
use Rattle.xrc_edge.specs.declared.outcome.Failed.{Failed}
use Rattle.crash_plant.specs.Moments.{Standing, Same}
use Rattle.crash_plant.proofs.Steps.{kept_trans, follows_then}
use Rattle.image_former.specs.Steps.{Reads}
use Rattle.image_former.proofs.SlotFronts.{image_in_front}

-- The bytes of a slot tell its track.
pub slot_is : (x : ℕ) (volume : List ℕ) → slot_end x ≤ length volume → slot_track volume x ≡ track_read (image_at (slice_range volume (slot_place x) (slot_end x)))
slot_is x volume fits =
    let p = slot_place x in
    let q = slot_end x in
    let t = slice_range volume p q in
    let long : 56670 ≤ length t = omega (arith, fits, length-take (q - p) (drop p volume), length-drop p volume) in
    ap (λ (l : List ℕ). track_read (image_at l)) (after_is p q volume) ∙ image_same t (drop (q - p) (drop p volume)) [] long ∙ ap (λ (l : List ℕ). track_read (image_at l)) (append-nil t)

-- A slot that was loaded has the track that its bytes tell, or the empty one.
loaded : (bytes : List ℕ) (result : Result ℕ ImageError) (new : List Rec) → IfOk result (λ count. image_at bytes ≡ Ok (new, drop count bytes)) → IfErr result (λ error. image_at bytes ≡ Err error) → OnErr result (new ≡ [])
    → new ≡ unwrap_or (track_read (image_at bytes)) []
loaded bytes (Ok count) new ok err empty = ap (λ (r : Result (List Rec × List ℕ) ImageError). unwrap_or (track_read r) []) (sym ok)
loaded bytes (Err error) new ok err empty = empty ∙ ap (λ (r : Result (List Rec × List ℕ) ImageError). unwrap_or (track_read r) []) (sym err)

pub loaded_slot : (x place n : ℕ) (volume bytes : List ℕ) (result : Result ℕ ImageError) (new : List Rec) → slot_end x ≤ length volume → place ≡ slot_place x → n ≡ 57344 → bytes ≡ slice_range volume place (place + n)
    → IfOk result (λ count. image_at bytes ≡ Ok (new, drop count bytes)) → IfErr result (λ error. image_at bytes ≡ Err error) → OnErr result (new ≡ [])
    → new ≡ unwrap_or (slot_track volume x) []
loaded_slot x place n volume bytes result new fits at size are ok err empty =
    let end : place + n ≡ slot_end x = omega (arith, at, size) in
    loaded bytes result new ok err empty
    ∙ ap (λ (l : List ℕ). unwrap_or (track_read (image_at l)) []) (are ∙ ap (λ (q : ℕ). slice_range volume place q) end ∙ ap (λ (p : ℕ). slice_range volume p (slot_end x)) at)
    ∙ ap (λ (t : Option (List Rec)). unwrap_or t []) (sym (slot_is x volume fits))

-- ---- from the front

-- The track whose image lies whole in the front of a slot is the slot's.
pub front_is : (x place q : ℕ) (volume bytes rest : List ℕ) (track : List Rec) → place ≡ slot_place x → bytes ≡ slice_range volume place q → image_at bytes ≡ Ok (track, rest)
    → slot_track volume x ≡ Some track
front_is x place q volume bytes rest track at are is =
    let p = slot_place x in
    let after = drop (q - p) (drop p volume) in
    let found : slice_range volume p q ≡ bytes = ap (λ (s : ℕ). slice_range volume s q) (sym at) ∙ sym are in
    ap (λ (l : List ℕ). track_read (image_at l)) (after_is p q volume)
    ∙ ap (λ (l : List ℕ). track_read (image_at (l ++ after))) found
    ∙ ap track_read (image_in_front bytes after rest track is)

-- ---- two reads

-- A read after one that succeeded: both only read.
pub reads_again : {D : Type 0} (state : D → Standing) (tells : Type 0) (a b c : D) (result : Result (Unit {0}) Failed) → Reads state tells a b (Ok tt) → Reads state tells b c result → Reads state tells a c result
reads_again state tells a b c result x y = record {
  length_is = y.length_is ∙ x.length_is;
  bytes = λ told. y.bytes told ∙ x.bytes told;
  past = λ told. kept_trans (state a) (state b) (state c) (x.past told) (y.past told);
  moments = λ told. follows_then (state a) (state b) (state c) Same Same Same (x.past told).later (x.moments told) (y.past told) (y.moments told) (λ p q here e. e) (λ p q r here there e e2. e2 ∙ e);
  cause = subst (λ (n : ℕ). HasCause n (state c).faults result) x.cause.ok y.cause;
}
