-- Images as lists: how long they are, and that they are seen as their tracks.
use Rattle.std.proofs.Common.{◌≡◌, ℕ, ◌-◌, ◌+◌, ◌*◌, ◌≤◌, List, [], ◌∷◌, ◌++◌, Result, Ok, Err, nat_le, refl, sym, ap, subst, ◌∙◌, length, take, drop, arith, length-append, length-drop}
use Rattle.std.specs.List.{flat_map}
use Rattle.std.proofs.lemmas.Bool.{leb-true}
use Rattle.std.proofs.lemmas.List.{append-nil, take_at, drop_at}
use Rattle.std.proofs.lemmas.List.Sums.{sum_by-cons}
use Rattle.tod_stamp.specs.Fields.{IsBytes}
use Rattle.ckd_track.specs.declared.fault.ImageError.{ImageError}
use Rattle.ckd_track.specs.declared.rec.Rec.{Rec}
use Rattle.ckd_track.specs.Tracks.{record_size, track_size, capacity, rises_above, IsTrack}
use Rattle.ckd_track.specs.Images.{record_spelling, image, records_at, image_at, longest_image}
use Rattle.ckd_track.proofs.ImageLaws.{both_true, records_take, image_again, image_taken}
use Rattle.ckd_track.specs.Reading.{rest_of_read}
use Rattle.ckd_track.specs.Slots.{records_of, track_of_image, IsImage, HoldsImage, slot_size}

-- a record's spelling is four bytes shorter than its size
pub length-spelling : (r : Rec) → length (record_spelling r) ≡ 4 + length r.key + length r.content
length-spelling r = omega (arith, length-append r.key r.content)

-- the spellings of some records are four bytes for each shorter than their sizes
pub length-spellings : (recs : List Rec) → length (flat_map record_spelling recs) + 4 * length recs ≡ track_size recs
length-spellings [] = refl
length-spellings (rec ∷ recs) = omega (arith, sum_by-cons record_size rec recs, length-append (record_spelling rec) (flat_map record_spelling recs), length-spelling rec, length-spellings recs)

-- the longest image is that of one record
pub length-image : (track : List Rec) → IsTrack track → length (image track) ≤ longest_image
length-image [] is = omega arith
length-image (rec ∷ recs) is =
    let parts = both_true (rises_above 0 (rec ∷ recs)) (nat_le (track_size (rec ∷ recs)) capacity) is in
    omega (arith, leb-true (track_size (rec ∷ recs)) capacity parts.1, length-spellings (rec ∷ recs))

-- the image of a track is seen as that track
pub track_of-image : (track : List Rec) → IsTrack track → track_of_image (image track) ≡ track
track_of-image track is = ap track_of_image (sym (append-nil (image track))) ∙ ap records_of (image_again track [] is)

pub image_is_image : (track : List Rec) → IsTrack track → IsImage (image track)
image_is_image track is =
    let e = track_of-image track is in
    record { is_track = subst (λ (t : List Rec). IsTrack t) (sym e) is; spelled = ap image (sym e) }

pub length-of_image : (bytes : List ℕ) → IsImage bytes → length bytes ≤ longest_image
length-of_image bytes is = omega (arith, length-image (track_of_image bytes) is.is_track, ap length is.spelled)

-- no record
pub none_is_image : IsImage (0 ∷ 0 ∷ [])
none_is_image = image_is_image [] refl

pub none_is : track_of_image (0 ∷ 0 ∷ []) ≡ []
none_is = track_of-image [] refl

-- ---- what was read

left_ok : (read : Result (List Rec × List ℕ) ImageError) (rest : List ℕ) → rest_of_read read ≡ Ok rest → read ≡ Ok (records_of read, rest)
left_ok (Ok p) rest e = ap (λ (t : List ℕ). Ok (p.0, t)) (rest_is p.1 rest e)
  where
    rest_is : (a b : List ℕ) → (let x : Result (List ℕ) ImageError = Ok a in let y : Result (List ℕ) ImageError = Ok b in x ≡ y) → a ≡ b
    rest_is a b e = cc
left_ok (Err e) rest f = absurd cc

-- A track was read from the front of the bytes, and the rest follows its image.
pub record IsRead (bytes rest : List ℕ) (track : List Rec) : Type 0 where
  pub is_track : IsTrack track
  pub shorter : length rest ≤ length bytes
  pub size_is : length bytes - length rest ≡ length (image track)
  pub front : take (length bytes - length rest) bytes ≡ image track
  pub found : image_at bytes ≡ Ok (track, drop (length bytes - length rest) bytes)

pub read_track : (bytes rest : List ℕ) (track : List Rec) → IsBytes bytes → image_at bytes ≡ Ok (track, rest) → IsRead bytes rest track
read_track bytes rest track fits read =
    let taken = image_taken bytes rest track fits read in
    let both = ap length taken.1 ∙ length-append (image track) rest in
    let n : length bytes - length rest ≡ length (image track) = omega (arith, both) in
    let back : drop (length (image track)) bytes ≡ rest = ap (drop (length (image track))) taken.1 ∙ drop_at (image track) rest _ refl in
    record {
      is_track = taken.0;
      shorter = omega (arith, both);
      size_is = n;
      front = ap (λ k. take k bytes) n ∙ ap (take (length (image track))) taken.1 ∙ take_at (image track) rest _ refl;
      found = read ∙ ap (λ (t : List ℕ). Ok (track, t)) (sym back ∙ ap (λ k. drop k bytes) (sym n));
    }

-- the same where only the rest is known
-- Records were read from the front of the bytes, and the rest follows their spellings.
pub record AreRead (bytes rest : List ℕ) (recs : List Rec) : Type 0 where
  pub shorter : length rest ≤ length bytes
  pub size_is : length bytes - length rest ≡ length (flat_map record_spelling recs)
  pub rest_is : rest ≡ drop (length bytes - length rest) bytes

pub read_records : (count low : ℕ) (bytes rest : List ℕ) (recs : List Rec) → IsBytes bytes → records_at count 0 low capacity bytes ≡ Ok (recs, rest) → AreRead bytes rest recs
read_records count low bytes rest recs fits read =
    let taken = records_take count 0 low capacity bytes recs rest fits read in
    let spelled = flat_map record_spelling recs in
    let both = ap length taken.parts ∙ length-append spelled rest in
    let n : length bytes - length rest ≡ length spelled = omega (arith, both) in
    let back : drop (length spelled) bytes ≡ rest = ap (drop (length spelled)) taken.parts ∙ drop_at spelled rest _ refl in
    record { shorter = omega (arith, both); size_is = n; rest_is = sym back ∙ ap (λ k. drop k bytes) (sym n) }

pub read_image : (bytes rest : List ℕ) → IsBytes bytes → rest_of_read (image_at bytes) ≡ Ok rest → IsRead bytes rest (track_of_image bytes)
read_image bytes rest fits e = read_track bytes rest (track_of_image bytes) fits (left_ok (image_at bytes) rest e)

-- The first n bytes are the image that was read.
pub record BeginsImage (bytes : List ℕ) (n : ℕ) : Type 0 where
  pub within : n ≤ length bytes
  pub is_image : IsImage (take n bytes)
  pub same : track_of_image (take n bytes) ≡ track_of_image bytes

pub begins_image : (bytes : List ℕ) (n : ℕ) → IsBytes bytes → image_at bytes ≡ Ok (track_of_image bytes, drop n bytes) → n ≡ length (image (track_of_image bytes)) → BeginsImage bytes n
begins_image bytes n fits found size =
    let track = track_of_image bytes in
    let is = read_track bytes (drop n bytes) track fits found in
    let len : length bytes - length (drop n bytes) ≡ n = is.size_is ∙ sym size in
    let front : take n bytes ≡ image track = ap (λ k. take k bytes) (sym len) ∙ is.front in
    record {
      within = omega (arith, len, length-drop n bytes);
      is_image = subst IsImage (sym front) (image_is_image track is.is_track);
      same = ap track_of_image front ∙ track_of-image track is.is_track;
    }

-- ---- a slot's buffer

pub holds_none : (buffer : List ℕ) → length buffer ≡ slot_size → take 2 buffer ≡ 0 ∷ 0 ∷ [] → HoldsImage 2 buffer
holds_none buffer len front = record { sized = len; within = omega (arith, len); begins = subst IsImage (sym front) none_is_image }

pub holds_image : (image old new : List ℕ) → length old ≡ slot_size → IsImage image → new ≡ image ++ drop (length image) old → HoldsImage (length image) new
holds_image image old new len is e =
    let short = length-of_image image is in
    let size : length new ≡ slot_size = omega (arith, ap length e, length-append image (drop (length image) old), length-drop (length image) old) in
    record { sized = size; within = omega arith; begins = subst IsImage (sym (ap (take (length image)) e ∙ take_at image _ _ refl)) is }

-- the buffer of a slot that took a track
pub record IsSet (used : ℕ) (buffer : List ℕ) (track : List Rec) : Type 0 where
  pub holds : HoldsImage used buffer
  pub seen : track_of_image (take used buffer) ≡ track

set_holds : (track : List Rec) (old new : List ℕ) → length old ≡ slot_size → IsTrack track → new ≡ image track ++ drop (length (image track)) old → IsSet (length (image track)) new track
set_holds track old new len is e = record {
  holds = holds_image (image track) old new len (image_is_image track is) e;
  seen = ap (λ (t : List ℕ). track_of_image (take (length (image track)) t)) e ∙ ap track_of_image (take_at (image track) _ _ refl) ∙ track_of-image track is;
}

pub set_track : (recs track : List Rec) (used : ℕ) (given old new : List ℕ) → recs ≡ track → given ≡ old → length old ≡ slot_size → IsTrack track
    → new ≡ image recs ++ drop (length (image recs)) given → used ≡ length (image recs) → IsSet used new track
set_track recs track used given old new same_recs same_bytes len is written used_is =
    let full = set_holds track old new len is
    (written ∙ ap (λ (r : List Rec). image r ++ drop (length (image r)) given) same_recs ∙ ap (λ (t : List ℕ). image track ++ drop (length (image track)) t) same_bytes) in
    let size : length (image track) ≡ used = sym (used_is ∙ ap (λ (r : List Rec). length (image r)) same_recs) in
    subst (λ n. IsSet n new track) size full
