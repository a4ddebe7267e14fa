-- Bytes that are put one after another, into a buffer or after other bytes.
use Rattle.std.proofs.Common.{◌≡◌, ℕ, zero, suc, ◌+◌, ◌<◌, ◌≤◌, nat_le, ◌&&◌, true, List, [], ◌∷◌, ◌++◌, refl, sym, ap, subst, ◌∙◌, append_assoc, length, take, drop, get_or, arith, length-append, length-take}
use Rattle.std.specs.Int.{w16, to_be_bytes}
use Rattle.std.specs.List.{flat_map}
use Rattle.std.proofs.lemmas.Bool.{leb-true}
use Rattle.std.proofs.lemmas.Grind.{flat_map-append}
use Rattle.std.proofs.lemmas.List.{append-nil, take_at, drop_at, drop-drop, take_more, take-append-drop}
use Rattle.std.proofs.lemmas.List.Folds.{length-flat_map-take}
use Rattle.std.proofs.lemmas.List.Sums.{sum_by-cons}
use Rattle.tod_stamp.specs.Fields.{within}
use Rattle.ckd_track.specs.declared.rec.Rec.{Rec}
use Rattle.ckd_track.specs.Tracks.{record_size, track_size, capacity, rises_above, IsTrack}
use Rattle.ckd_track.specs.Images.{record_spelling}
use Rattle.ckd_track.specs.Heads.{FitsHead}
use Rattle.ckd_track.specs.Slots.{with_bytes}
use Rattle.ckd_track.proofs.ImageLaws.{both_true, count_of}

-- bytes put after those that were put before
pub put_next : (place end : ℕ) (x y buffer : List ℕ) → end ≡ place + length x → end ≤ length buffer → with_bytes end y (with_bytes place x buffer) ≡ with_bytes place (x ++ y) buffer
put_next place end x y buffer is room =
    let front = take place buffer in
    let rest = drop (place + length x) buffer in
    let long : length (front ++ x) ≡ end = omega (arith, length-append front x, length-take place buffer) in
    let before : take end (front ++ (x ++ rest)) ≡ front ++ x = rw (← append_assoc front x rest) (take_at (front ++ x) rest end long) in
    let middle : drop end (front ++ (x ++ rest)) ≡ rest = rw (← append_assoc front x rest) (drop_at (front ++ x) rest end long) in
    let there : place + length x + length y ≡ place + length (x ++ y) = omega (arith, length-append x y) in
    let after : drop (end + length y) (front ++ (x ++ rest)) ≡ drop (place + length (x ++ y)) buffer =
    sym (drop-drop (length y) end (front ++ (x ++ rest))) ∙ ap (drop (length y)) middle ∙ drop-drop (length y) (place + length x) buffer ∙ ap (λ n. drop n buffer) there in
    rw (before, after) (append_assoc front x (y ++ drop (place + length (x ++ y)) buffer) ∙ ap (λ (t : List ℕ). front ++ t) (sym (append_assoc x y (drop (place + length (x ++ y)) buffer))))

-- two of them
pub put_two : (place second : ℕ) (x y buffer one two : List ℕ) → second ≡ place + length x → second ≤ length buffer → one ≡ with_bytes place x buffer → two ≡ with_bytes second y one → two ≡ with_bytes place (x ++ y) buffer
put_two place second x y buffer one two at_second room a b = b ∙ ap (with_bytes second y) a ∙ put_next place second x y buffer at_second room

-- three of them
pub put_three : (place second third : ℕ) (x y z buffer one two three : List ℕ) → second ≡ place + length x → third ≡ second + length y → third ≤ length buffer
    → one ≡ with_bytes place x buffer → two ≡ with_bytes second y one → three ≡ with_bytes third z two → three ≡ with_bytes place (x ++ (y ++ z)) buffer
put_three place second third x y z buffer one two three at_second at_third room a b c =
    let first : two ≡ with_bytes place (x ++ y) buffer = b ∙ ap (with_bytes second y) a ∙ put_next place second x y buffer at_second (omega (arith, room)) in
    let end : third ≡ place + length (x ++ y) = omega (arith, length-append x y) in
    c ∙ ap (with_bytes third z) first ∙ put_next place third (x ++ y) z buffer end room ∙ ap (λ (t : List ℕ). with_bytes place t buffer) (append_assoc x y z)

-- ---- the records of a track

-- a track has at most 255 records
pub few : (recs : List Rec) → IsTrack recs → length recs ≤ 255
few recs is =
    let parts = both_true (rises_above 0 recs) (nat_le (track_size recs) capacity) is in
    omega (arith, count_of 0 recs parts.0)

fits_at : (low : ℕ) (recs : List Rec) (i : ℕ) (none : Rec) → rises_above low recs ≡ true → track_size recs ≤ capacity → i < length recs → FitsHead (get_or recs i none)
fits_at low [] i none rises small lt = absurd (omega (arith, lt))
fits_at low (rec ∷ recs) zero none rises small lt =
    let outer = both_true (within (low + 1) 255 rec.number && nat_le (length rec.key) 255) (rises_above rec.number recs) rises in
    let inner = both_true (within (low + 1) 255 rec.number) (nat_le (length rec.key) 255) outer.0 in
    record { key_fits = leb-true (length rec.key) 255 inner.1; content_fits = omega (arith, small, sum_by-cons record_size rec recs) }
fits_at low (rec ∷ recs) (suc i) none rises small lt =
    let outer = both_true (within (low + 1) 255 rec.number && nat_le (length rec.key) 255) (rises_above rec.number recs) rises in
    fits_at rec.number recs i none outer.1 (omega (arith, small, sum_by-cons record_size rec recs)) (omega (arith, lt))

-- the lengths of a record of a track fit their fields
pub record_fits : (recs : List Rec) (i : ℕ) (rec : Rec) → IsTrack recs → i < length recs → rec ≡ get_or recs i rec → FitsHead rec
record_fits recs i rec is lt at =
    let parts = both_true (rises_above 0 recs) (nat_le (track_size recs) capacity) is in
    subst FitsHead (sym at) (fits_at 0 recs i rec parts.0 (leb-true (track_size recs) capacity parts.1) lt)

-- the spellings of the first records, with one more
pub spelled_more : (recs : List Rec) (i : ℕ) (rec : Rec) → i < length recs → rec ≡ get_or recs i rec
    → flat_map record_spelling (take i recs) ++ record_spelling rec ≡ flat_map record_spelling (take (i + 1) recs)
spelled_more recs i rec lt at =
    let longer : take (i + 1) recs ≡ take i recs ++ rec ∷ [] = take_more recs i rec lt ∙ ap (λ (r : Rec). take i recs ++ r ∷ []) (sym at) in
    sym (ap (flat_map record_spelling) longer ∙ flat_map-append record_spelling (take i recs) (rec ∷ []) ∙ ap (λ (t : List ℕ). flat_map record_spelling (take i recs) ++ t) (append-nil (record_spelling rec)))

-- with one more they are no longer than those of all records
pub spelled_room : (recs : List Rec) (i : ℕ) (rec : Rec) → i < length recs → rec ≡ get_or recs i rec
    → length (flat_map record_spelling (take i recs)) + length (record_spelling rec) ≤ length (flat_map record_spelling recs)
spelled_room recs i rec lt at =
    let le : length (flat_map record_spelling (take i recs)) + length (record_spelling (get_or recs i rec)) ≤ length (flat_map record_spelling recs) = length-flat_map-take record_spelling recs i rec lt in
    let same : length (record_spelling (get_or recs i rec)) ≡ length (record_spelling rec) = ap (λ (r : Rec). length (record_spelling r)) (sym at) in
    let long = le in
    omega (arith, long, same)

-- the front of an image: the count of all records, and the spellings of the first ones
abbrev pub image_front : (recs : List Rec) (i : ℕ) → List ℕ
image_front recs i = to_be_bytes w16 (length recs) ++ flat_map record_spelling (take i recs)

-- bytes put at the front
pub at_front : (bytes buffer : List ℕ) → with_bytes 0 bytes buffer ≡ bytes ++ drop (length bytes) buffer
at_front bytes buffer =
    let zero_on : 0 + length bytes ≡ length bytes = omega arith in
    ap (λ n. bytes ++ drop n buffer) zero_on

-- what stood before a longer front stands there still
pub kept_through : (before more front out : List ℕ) → front ≡ before ++ more → take (length front) out ≡ front → take (length before) out ≡ before
kept_through before more front out is kept =
    let parts : out ≡ before ++ (more ++ drop (length front) out) =
    sym (take-append-drop (length front) out) ∙ ap (λ (t : List ℕ). t ++ drop (length front) out) (kept ∙ is) ∙ append_assoc before more (drop (length front) out) in
    ap (take (length before)) parts ∙ take_at before (more ++ drop (length front) out) (length before) refl
