-- Each track of an exported image is the one of the volume's slot.
use Rattle.std.proofs.Common.{◌≡◌, ℕ, zero, suc, ◌+◌, ◌-◌, ◌*◌, ◌<◌, ◌≤◌, Bool, true, false, cond, List, [], ◌++◌, length, take, drop, Option, Some, None, Result, Ok, Err, refl, sym, ap, subst, ◌∙◌, append_assoc, add-one, inl, inr, arith, length-append, length-drop, nat_lt}
use Rattle.std.specs.Prelude.{IsOk, slice_range, replicate}
use Rattle.std.proofs.lemmas.Bool.{ltb-false}
use Rattle.std.proofs.lemmas.List.{drop-append-le, take-append-le, take_at, drop_at, append-nil, length-replicate}
use Rattle.tod_stamp.specs.Fields.{◌>>=◌, IsBytes}
use Rattle.ckd_track.specs.declared.rec.Rec.{Rec}
use Rattle.ckd_track.specs.declared.fault.ImageError.{ImageError}
use Rattle.ckd_track.specs.Tracks.{IsTrack}
use Rattle.ckd_track.specs.Images.{image_at}
use Rattle.ckd_track.specs.SlotPlaces.{slot_end, slot_place, track_read}
use Rattle.ckd_track.proofs.ImageLaws.{image_taken}
use Rattle.ckd_image.specs.declared.layout.TheConstants.{HEADER_LENGTH}
use Rattle.ckd_image.specs.declared.shape.DeviceType.{DeviceType}
use Rattle.ckd_image.specs.declared.shape.DeviceType.TheVariants.{Ibm3380, Ibm3390, Ibm9345}
use Rattle.ckd_image.specs.Shapes.{header_bytes, track_bytes, track_place}
use Rattle.ckd_image.specs.ImageTracks.{device_track_at, fitted_image_track, image_track}
use Rattle.ckd_image.proofs.TrackReads.{tracks_read_back}
use Rattle.ckd_bridge.specs.declared.stop.ImageFile.TheVariants.{First}
use Rattle.ckd_bridge.specs.declared.stop.Refusal.{Refusal}
use Rattle.ckd_bridge.specs.declared.stop.Refusal.TheVariants.{NoRoom, NoTrack}
use Rattle.ckd_bridge.specs.Pieces.{AreGood, bytes_of_piece, pieces_up_to}
use Rattle.ckd_bridge.specs.Jobs.{exported_piece}
use Rattle.ckd_bridge.specs.Tracks.{named_track, there_or, track_of_slot}
use Rattle.ckd_bridge.specs.Commands.{exported_bytes, tracks_of_shape}
use Rattle.ckd_bridge.proofs.Standings.{IsBytes-slice}
use Rattle.ckd_bridge.specs.Laws.{ExportsReadBack}
use Rattle.ckd_bridge.proofs.Runs.{Pieces, below_or_last}

-- ---- pieces in a row

-- a part of a front stays where it is
part_of_front : (a n : ℕ) (xs ys : List ℕ) → a + n ≤ length xs → take n (drop a (xs ++ ys)) ≡ take n (drop a xs)
part_of_front a n xs ys within =
    ap (take n) (drop-append-le a xs ys (omega (arith, within))) ∙ take-append-le n (drop a xs) ys (omega (arith, within, length-drop a xs))

-- rows of pieces get longer
row_grows : (piece : Pieces) (k n : ℕ) → k ≤ n → length (pieces_up_to piece k) ≤ length (pieces_up_to piece n)
row_grows piece k zero le = subst (λ j. length (pieces_up_to piece j) ≤ length (pieces_up_to piece 0)) (none k le) (omega arith)
  where
    none : (k : ℕ) → k ≤ 0 → 0 ≡ k
    none k le = omega (arith, le)
row_grows piece k (suc n) le = elim (below_or_last k (suc n) (omega (arith, le))) [
  | inl before ↦ omega (arith, row_grows piece k n (omega (arith, before)), length-append (pieces_up_to piece n) (bytes_of_piece (piece n)))
  | inr here ↦ subst (λ j. length (pieces_up_to piece j) ≤ length (pieces_up_to piece (suc n))) (sym here) (omega arith)
]

-- a piece stands after those before it
pub piece_there : (piece : Pieces) (front : List ℕ) (k n : ℕ) → k < n
    → take (length (bytes_of_piece (piece k))) (drop (length front + length (pieces_up_to piece k)) (front ++ pieces_up_to piece n)) ≡ bytes_of_piece (piece k)
piece_there piece front k zero lt = absurd (omega (arith, lt))
piece_there piece front k (suc n) lt =
    let row = pieces_up_to piece n in
    let at = length front + length (pieces_up_to piece k) in
    let size = length (bytes_of_piece (piece k)) in
    let regrouped : front ++ (row ++ bytes_of_piece (piece n)) ≡ (front ++ row) ++ bytes_of_piece (piece n) = sym (append_assoc front row (bytes_of_piece (piece n))) in
    ap (λ (t : List ℕ). take size (drop at t)) regrouped ∙ elim (below_or_last k n (omega (arith, lt))) [
      | inr here ↦ subst (λ j. take (length (bytes_of_piece (piece j))) (drop (length front + length (pieces_up_to piece j)) ((front ++ row) ++ bytes_of_piece (piece n))) ≡ bytes_of_piece (piece j)) (sym here) at_end
      | inl before ↦
          let longer = row_grows piece (k + 1) n (omega (arith, before)) in
          let next : length (pieces_up_to piece (k + 1)) ≡ length (pieces_up_to piece k) + size = length_next piece k in
          part_of_front at size (front ++ row) (bytes_of_piece (piece n)) (omega (arith, longer, next, length-append front row))
          ∙ piece_there piece front k n before
    ]
  where
    length_next : (piece : Pieces) (k : ℕ) → length (pieces_up_to piece (k + 1)) ≡ length (pieces_up_to piece k) + length (bytes_of_piece (piece k))
    length_next piece k = ap (λ j. length (pieces_up_to piece j)) (add-one k) ∙ length-append (pieces_up_to piece k) (bytes_of_piece (piece k))

    at_end : take (length (bytes_of_piece (piece n))) (drop (length front + length (pieces_up_to piece n)) ((front ++ pieces_up_to piece n) ++ bytes_of_piece (piece n))) ≡ bytes_of_piece (piece n)
    at_end =
        let here = drop_at (front ++ pieces_up_to piece n) (bytes_of_piece (piece n)) (length front + length (pieces_up_to piece n)) (length-append front (pieces_up_to piece n)) in
        ap (take (length (bytes_of_piece (piece n)))) (here ∙ sym (append-nil (bytes_of_piece (piece n)))) ∙ take_at (bytes_of_piece (piece n)) [] (length (bytes_of_piece (piece n))) refl

-- ---- the piece of a track of an image

pub record IsExported (size : ℕ) (volume : List ℕ) (track : ℕ) (bytes : List ℕ) : Type 0 where
  pub recs : List Rec
  pub rest : List ℕ
  pub held : track_of_slot volume track ≡ Ok recs
  pub spelled : bytes ≡ image_track track recs ++ rest
  pub sized : length bytes ≡ size

fitted : (size track : ℕ) (volume : List ℕ) (recs : List Rec) → track_of_slot volume track ≡ Ok recs → (b : Bool) → nat_lt size (length (image_track track recs)) ≡ b
    → (let r = there_or (NoRoom track) (cond b None (Some (image_track track recs ++ replicate (size - length (image_track track recs)) 0))) in IsOk r → IsExported size volume track (bytes_of_piece r))
fitted size track volume recs held true e ok = absurd cc
fitted size track volume recs held false e ok = record {
  recs = recs;
  rest = replicate (size - length (image_track track recs)) 0;
  held = held;
  spelled = refl;
  sized = omega (arith, ltb-false size (length (image_track track recs)) e, length-append (image_track track recs) (replicate (size - length (image_track track recs)) 0), length-replicate {A = ℕ} (size - length (image_track track recs)) 0);
}

exported_track : (size track : ℕ) (volume : List ℕ) (read : Result (List Rec) Refusal) → track_of_slot volume track ≡ read
    → (let r = read >>= λ recs. there_or (NoRoom track) (fitted_image_track size track recs) in IsOk r → IsExported size volume track (bytes_of_piece r))
exported_track size track volume (Ok recs) held ok = fitted size track volume recs held (nat_lt size (length (image_track track recs))) refl ok
exported_track size track volume (Err refusal) held ok = absurd cc

is_exported : (device_type : DeviceType) (volume : List ℕ) (track : ℕ) → IsOk (exported_piece device_type volume track) → IsExported (track_bytes device_type) volume track (bytes_of_piece (exported_piece device_type volume track))
is_exported device_type volume track ok = exported_track (track_bytes device_type) track volume (track_of_slot volume track) refl ok

-- so many pieces have so many times the bytes of a track
next_bytes : (device_type : DeviceType) (n sum one : ℕ) → sum ≡ n * track_bytes device_type → one ≡ track_bytes device_type → sum + one ≡ suc n * track_bytes device_type
next_bytes Ibm3380 n sum one e f = omega (arith, e, f)
next_bytes Ibm3390 n sum one e f = omega (arith, e, f)
next_bytes Ibm9345 n sum one e f = omega (arith, e, f)

all_bytes : (device_type : DeviceType) (volume : List ℕ) (n : ℕ) → AreGood (exported_piece device_type volume) n → length (pieces_up_to (exported_piece device_type volume) n) ≡ n * track_bytes device_type
all_bytes device_type volume zero good = omega arith
all_bytes device_type volume (suc n) good =
    let piece = exported_piece device_type volume in
    length-append (pieces_up_to piece n) (bytes_of_piece (piece n))
    ∙ next_bytes device_type n (length (pieces_up_to piece n)) (length (bytes_of_piece (piece n))) (all_bytes device_type volume n (λ k lt. good k (omega (arith, lt)))) (is_exported device_type volume n (good n (omega arith))).sized

header_sized : (device_type : DeviceType) → length (header_bytes device_type) ≡ HEADER_LENGTH
header_sized Ibm3380 = refl
header_sized Ibm3390 = refl
header_sized Ibm9345 = refl

-- ---- the track of a slot is a track

there_ok : (refusal : Refusal) (read : Option (List Rec)) (recs : List Rec) → there_or refusal read ≡ Ok recs → read ≡ Some recs
there_ok refusal (Some x) recs e = cc
there_ok refusal None recs e = absurd cc

read_ok : (read : Result (List Rec × List ℕ) ImageError) (recs : List Rec) → track_read read ≡ Some recs → (rest : List ℕ) × (read ≡ Ok (recs, rest))
read_ok (Ok p) recs e = (p.1, ap (λ (r : List Rec). Ok (r, p.1)) (same p.0 recs e))
  where
    same : (a b : List Rec) → Some a ≡ Some b → a ≡ b
    same a b e = cc
read_ok (Err bad) recs e = absurd cc

slot_is_track : (volume : List ℕ) (track : ℕ) (recs : List Rec) → IsBytes volume → track_of_slot volume track ≡ Ok recs → IsTrack recs
slot_is_track volume track recs fits held =
    let slot = slice_range volume (slot_place track) (slot_end track) in
    let read = read_ok (image_at slot) recs (there_ok (NoTrack track) (track_read (image_at slot)) recs held) in
    (image_taken slot read.0 recs (IsBytes-slice (slot_place track) (slot_end track) volume fits) read.1).0

-- ---- the image

pub tracks_are_exported : ExportsReadBack
tracks_are_exported volume shape fits good track lt =
    let device_type = shape.device_type in
    let n = tracks_of_shape shape in
    let piece = exported_piece device_type volume in
    let size = track_bytes device_type in
    let image = exported_bytes shape volume in
    let is = is_exported device_type volume track (good track lt) in
    let before = all_bytes device_type volume track (λ k less. good k (omega (arith, less, lt))) in
    let place : length (header_bytes device_type) + length (pieces_up_to piece track) ≡ track_place device_type track = omega (arith, header_sized device_type, before) in
    let there : take size (drop (track_place device_type track) image) ≡ bytes_of_piece (piece track) =
    ap (λ k. take size (drop k image)) (sym place) ∙ ap (λ k. take k (drop (length (header_bytes device_type) + length (pieces_up_to piece track)) image)) (sym is.sized)
    ∙ piece_there piece (header_bytes device_type) track n lt in
    let width : (track_place device_type track + size) - track_place device_type track ≡ size = omega arith in
    let slice : slice_range image (track_place device_type track) (track_place device_type track + size) ≡ image_track track is.recs ++ is.rest =
    ap (λ k. take k (drop (track_place device_type track) image)) width ∙ there ∙ is.spelled in
    ap (λ (t : List ℕ). named_track First track (device_track_at track t)) slice
    ∙ ap (named_track First track) (tracks_read_back track is.recs is.rest (slot_is_track volume track is.recs fits is.held))
    ∙ sym is.held
