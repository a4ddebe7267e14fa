-- Reading record after record, up to the end mark.
use Rattle.std.proofs.Common.{◌≡◌, ℕ, suc, ◌+◌, ◌-◌, ◌<◌, ◌≤◌, Bool, true, false, IfOk, List, [], ◌∷◌, ◌++◌, length, Result, Ok, Err, refl, sym, ap, ◌∙◌, arith, length-append}
use Rattle.tod_stamp.specs.Fields.{IsBytes}
use Rattle.ckd_track.specs.declared.rec.Rec.{Rec}
use Rattle.ckd_track.specs.Tracks.{is_track, last_number}
use Rattle.ckd_image.specs.declared.fault.TrackFault.{TrackFault}
use Rattle.ckd_image.specs.declared.fault.TrackFault.TheVariants.{TooLong, Unended}
use Rattle.ckd_image.specs.ImageTracks.{GivesTrack, begins_with, counted_at, counted_record, end_mark, records_to_end}
use Rattle.ckd_image.proofs.CountedReads.{counted_taken}

pub at_end : (turns i track place : ℕ) (before : List Rec) (bytes : List ℕ) → i < turns → begins_with end_mark bytes ≡ true → records_to_end (turns - i) track place before bytes ≡ Ok before
unfolding records_to_end
at_end turns i track place before bytes lt end =
    let k : turns - i ≡ suc (turns - (i + 1)) = omega arith in
    rw (k, end) refl

pub at_fault : (turns i track place : ℕ) (before : List Rec) (bytes : List ℕ) (fault : TrackFault) → i < turns → begins_with end_mark bytes ≡ false
    → counted_at track place (last_number 0 before) bytes ≡ Err fault → records_to_end (turns - i) track place before bytes ≡ Err fault
unfolding records_to_end
at_fault turns i track place before bytes fault lt goes_on read =
    let k : turns - i ≡ suc (turns - (i + 1)) = omega arith in
    rw (k, goes_on, read) refl

pub at_too_long : (turns i track place : ℕ) (before : List Rec) (bytes : List ℕ) (rec : Rec) (rest : List ℕ) → i < turns → begins_with end_mark bytes ≡ false
    → counted_at track place (last_number 0 before) bytes ≡ Ok (rec, rest) → is_track (before ++ rec ∷ []) ≡ false → records_to_end (turns - i) track place before bytes ≡ Err (TooLong place)
unfolding records_to_end
at_too_long turns i track place before bytes rec rest lt goes_on read no_track =
    let k : turns - i ≡ suc (turns - (i + 1)) = omega arith in
    rw (k, goes_on, read, no_track) refl

pub at_next : (turns i track place : ℕ) (before : List Rec) (bytes : List ℕ) (rec : Rec) (rest : List ℕ) → i < turns → begins_with end_mark bytes ≡ false
    → counted_at track place (last_number 0 before) bytes ≡ Ok (rec, rest) → is_track (before ++ rec ∷ []) ≡ true
    → records_to_end (turns - i) track place before bytes ≡ records_to_end (turns - (i + 1)) track (place + length (counted_record track rec)) (before ++ rec ∷ []) rest
unfolding records_to_end
at_next turns i track place before bytes rec rest lt goes_on read is =
    let k : turns - i ≡ suc (turns - (i + 1)) = omega arith in
    rw (k, goes_on, read, is) refl

pub after_all : (turns i track place : ℕ) (before : List Rec) (bytes : List ℕ) → turns ≤ i → records_to_end (turns - i) track place before bytes ≡ Err (Unended place)
unfolding records_to_end
after_all turns i track place before bytes le =
    let k : turns - i ≡ 0 = omega arith in
    rw k refl

-- a record that was read leaves so many bytes less
pub left_after : (track place last : ℕ) (bytes : List ℕ) (rec : Rec) (rest : List ℕ) → IsBytes bytes → counted_at track place last bytes ≡ Ok (rec, rest) → length bytes ≡ length (counted_record track rec) + length rest
left_after track place last bytes rec rest fits read = ap length (counted_taken track place last bytes rec rest fits read).parts ∙ length-append (counted_record track rec) rest

-- the last record has the last number
pub last_of_more : (low : ℕ) (recs : List Rec) (rec : Rec) → last_number low (recs ++ rec ∷ []) ≡ rec.number
last_of_more low [] rec = refl
last_of_more low (first ∷ recs) rec = last_of_more first.number recs rec

pub length_read : {X : Type 0} (rec_of : X → Rec) (rest_of : X → List ℕ) (track place last : ℕ) (bytes : List ℕ) (result : Result X TrackFault) → IsBytes bytes
    → GivesTrack (λ x. (rec_of x, rest_of x)) result (counted_at track place last bytes) → IfOk result (λ x. length bytes ≡ length (counted_record track (rec_of x)) + length (rest_of x))
length_read rec_of rest_of track place last bytes (Ok x) fits gives = left_after track place last bytes (rec_of x) (rest_of x) fits gives
length_read rec_of rest_of track place last bytes (Err e) fits gives = tt

-- what is read at a place after a number, however these are told
pub read_here : (track p q l m : ℕ) (bytes : List ℕ) (read : Result (Rec × List ℕ) TrackFault) → p ≡ q → l ≡ m → counted_at track p l bytes ≡ read → counted_at track q m bytes ≡ read
read_here track p q l m bytes read same_place same_last is = ap (λ k. counted_at track k m bytes) (sym same_place) ∙ ap (λ k. counted_at track p k bytes) (sym same_last) ∙ is

-- records that do not fit are no track
pub no_track : (fits : Bool) (recs : List Rec) → (is_track recs ≡ true → fits ≡ true) → fits ≡ false → is_track recs ≡ false
no_track fits recs only e = is_false (is_track recs) (λ t. cross fits (only t) e)
  where
    is_false : (b : Bool) → (b ≡ true → ⊥) → b ≡ false
    is_false true f = absurd (f refl)
    is_false false f = refl

    cross : (b : Bool) → b ≡ true → b ≡ false → ⊥
    cross b e f = cc
