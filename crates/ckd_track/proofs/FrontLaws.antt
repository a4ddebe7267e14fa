-- The fronts that the passes find are those of the definitions, and what they make is a track.
use Rattle.std.proofs.Common.{◌≡◌, ℕ, ◌-◌, ◌+◌, ◌≤◌, ◌<◌, List, [], ◌∷◌, ◌++◌, Bool, true, false, ◌&&◌, ◌||◌, cond, nat_le, nat_lt, refl, ap, length, arith, length-append}
use Rattle.std.specs.Prelude.{◌==◌}
use Rattle.std.specs.List.{flat_map}
use Rattle.std.proofs.lemmas.Bool.{leb-true, leb-false, le-leb, lt-leb, ltb-true, ltb-false, ne_eqb}
use Rattle.std.proofs.lemmas.List.Sums.{sum_by-cons}
use Rattle.tod_stamp.specs.Fields.{within}
use Rattle.ckd_track.specs.declared.rec.Rec.{Rec}
use Rattle.ckd_track.specs.Tracks.{record_size, track_size, rises_above}
use Rattle.ckd_track.specs.Effects.{has_record, up_to, fitting}
use Rattle.ckd_track.specs.Images.{record_spelling}
use Rattle.ckd_track.proofs.ImageLaws.{both_true}
use Rattle.ckd_track.proofs.TrackLaws.{and_true}
use Rattle.ckd_track.specs.declared.fronts.Front.{Front}
use Rattle.ckd_track.specs.Places.{front_up_to, front_fitting, front_with}
use Rattle.ckd_track.proofs.Walks.{rises_first}
use Rattle.ckd_track.proofs.Parts.{length-spelling}

-- From a front on, a pass over records has taken some of them, and others stand after them.
pub record IsFront (front done : Front) (taken all : List Rec) : Type 0 where
  pub after : List Rec
  pub split : all ≡ taken ++ after
  pub end : done.end ≡ front.end + length (flat_map record_spelling taken)
  pub count : done.count ≡ front.count + length taken
  pub room : done.room + track_size taken ≡ front.room

none_taken : (front : Front) (all : List Rec) → IsFront front front [] all
none_taken front all = record { after = all; split = refl; end = omega arith; count = omega arith; room = omega arith }

one_more : (front done : Front) (r : Rec) (taken all : List Rec) → record_size r ≤ front.room → IsFront (front_with front r) done taken all → IsFront front done (r ∷ taken) (r ∷ all)
one_more front done r taken all fits is = record {
  after = is.after;
  split = ap (λ (t : List Rec). r ∷ t) is.split;
  end = omega (arith, is.end, length-append (record_spelling r) (flat_map record_spelling taken), length-spelling r);
  count = omega (arith, is.count);
  room = omega (arith, is.room, sum_by-cons record_size r taken);
}

-- ---- up to a number

pub none_up_to : (after low : ℕ) (recs : List Rec) → after ≤ low → rises_above low recs ≡ true → up_to after recs ≡ []
none_up_to after low [] le rises = refl
none_up_to after low (r ∷ recs) le rises =
    let first = rises_first low r recs rises in
    let test : nat_le r.number after ≡ false = lt-leb r.number after (omega (arith, first.0)) in
    rw test (none_up_to after r.number recs (omega (arith, first.0)) first.2)

pub none_has : (after low : ℕ) (recs : List Rec) → after ≤ low → rises_above low recs ≡ true → has_record after recs ≡ false
none_has after low [] le rises = refl
none_has after low (r ∷ recs) le rises =
    let first = rises_first low r recs rises in
    let test : (r.number == after) ≡ false = ne_eqb r.number after (λ e. omega (arith, e, first.0)) in
    rw test (none_has after r.number recs (omega (arith, first.0)) first.2)

pub up_to_is : (after low : ℕ) (front : Front) (recs : List Rec) → rises_above low recs ≡ true → track_size recs ≤ front.room → IsFront front (front_up_to after front recs) (up_to after recs) recs
up_to_is after low front [] rises fits = none_taken front []
up_to_is after low front (r ∷ recs) rises fits =
    let first = rises_first low r recs rises in
    let sizes = sum_by-cons record_size r recs in
    choose (nat_lt after r.number) refl first.2 (omega (arith, sizes)) (up_to_is after r.number (front_with front r) recs first.2 (omega (arith, sizes)))
  where
    choose : (t : Bool) → nat_lt after r.number ≡ t → rises_above r.number recs ≡ true → record_size r ≤ front.room
        → IsFront (front_with front r) (front_up_to after (front_with front r) recs) (up_to after recs) recs
        → IsFront front (cond t front (front_up_to after (front_with front r) recs)) (up_to after (r ∷ recs)) (r ∷ recs)
    choose true is rises fits more =
        let above = ltb-true after r.number is in
        let test : nat_le r.number after ≡ false = lt-leb r.number after above in
        let none : up_to after recs ≡ [] = none_up_to after r.number recs (omega (arith, above)) rises in
        rw (test, none) (none_taken front (r ∷ recs))
    choose false is rises fits more =
        let test : nat_le r.number after ≡ true = le-leb r.number after (ltb-false after r.number is) in
        rw test (one_more front (front_up_to after (front_with front r) recs) r (up_to after recs) recs fits more)

-- the last number tells whether `after` was found
pub last_found : (after low : ℕ) (front : Front) (recs : List Rec) → rises_above low recs ≡ true → front.last ≡ low → low ≤ after
    → ((front_up_to after front recs).last == after) ≡ ((low == after) || has_record after recs)
last_found after low front [] rises last le = rw last (no_more (low == after))
  where
    no_more : (t : Bool) → t ≡ (t || false)
    no_more true = refl
    no_more false = refl
last_found after low front (r ∷ recs) rises last le =
    let first = rises_first low r recs rises in
    choose (nat_lt after r.number) refl first.0 first.2 (λ up. last_found after r.number (front_with front r) recs first.2 refl up)
  where
    no_more : (t : Bool) → t ≡ (t || false)
    no_more true = refl
    no_more false = refl

    choose : (t : Bool) → nat_lt after r.number ≡ t → low < r.number → rises_above r.number recs ≡ true
        → (r.number ≤ after → ((front_up_to after (front_with front r) recs).last == after) ≡ ((r.number == after) || has_record after recs))
        → ((cond t front (front_up_to after (front_with front r) recs)).last == after) ≡ ((low == after) || has_record after (r ∷ recs))
    choose true is above rises more =
        let past = ltb-true after r.number is in
        let test : (r.number == after) ≡ false = ne_eqb r.number after (λ e. omega (arith, e, past)) in
        let none : has_record after recs ≡ false = none_has after r.number recs (omega (arith, past)) rises in
        rw (test, none, last) (no_more (low == after))
    choose false is above rises more =
        let up = ltb-false after r.number is in
        let test : (low == after) ≡ false = ne_eqb low after (λ e. omega (arith, e, above, up)) in
        rw test (more up)

-- ---- what fits

pub fitting_is : (front : Front) (recs : List Rec) → IsFront front (front_fitting front recs) (fitting front.room recs) recs
fitting_is front [] = none_taken front []
fitting_is front (r ∷ recs) = choose (nat_lt front.room (record_size r)) refl (fitting_is (front_with front r) recs)
  where
    choose : (t : Bool) → nat_lt front.room (record_size r) ≡ t
        → IsFront (front_with front r) (front_fitting (front_with front r) recs) (fitting (front.room - record_size r) recs) recs
        → IsFront front (cond t front (front_fitting (front_with front r) recs)) (fitting front.room (r ∷ recs)) (r ∷ recs)
    choose true is more =
        let test : nat_le (record_size r) front.room ≡ false = lt-leb (record_size r) front.room (ltb-true front.room (record_size r) is) in
        rw test (none_taken front (r ∷ recs))
    choose false is more =
        let fits = ltb-false front.room (record_size r) is in
        let test : nat_le (record_size r) front.room ≡ true = le-leb (record_size r) front.room fits in
        rw test (one_more front (front_fitting (front_with front r) recs) r (fitting (front.room - record_size r) recs) recs fits more)

-- ---- the formatted track is a track

pub rises_lower : (low after : ℕ) (recs : List Rec) → low ≤ after → rises_above after recs ≡ true → rises_above low recs ≡ true
rises_lower low after [] le rises = refl
rises_lower low after (r ∷ recs) le rises =
    let outer = both_true (within (after + 1) 255 r.number && nat_le (length r.key) 255) (rises_above r.number recs) rises in
    let inner = both_true (within (after + 1) 255 r.number) (nat_le (length r.key) 255) outer.0 in
    let number = both_true (nat_le (after + 1) r.number) (nat_le r.number 255) inner.0 in
    let above : nat_le (low + 1) r.number ≡ true = le-leb (low + 1) r.number (omega (arith, leb-true (after + 1) r.number number.0)) in
    rw (above, number.1, inner.1) outer.1

rises_with : (low : ℕ) (r : Rec) (recs others : List Rec) → rises_above low (r ∷ recs) ≡ true → rises_above r.number others ≡ true → rises_above low (r ∷ others) ≡ true
rises_with low r recs others rises more =
    let outer = both_true (within (low + 1) 255 r.number && nat_le (length r.key) 255) (rises_above r.number recs) rises in
    and_true (within (low + 1) 255 r.number && nat_le (length r.key) 255) (rises_above r.number others) outer.0 more

pub rises_fitting : (low room : ℕ) (recs : List Rec) → rises_above low recs ≡ true → rises_above low (fitting room recs) ≡ true
rises_fitting low room [] rises = refl
rises_fitting low room (r ∷ recs) rises =
    choose (nat_le (record_size r) room) (rises_with low r recs (fitting (room - record_size r) recs) rises (rises_fitting r.number (room - record_size r) recs (rises_first low r recs rises).2))
  where
    choose : (t : Bool) → rises_above low (r ∷ fitting (room - record_size r) recs) ≡ true → rises_above low (cond t (r ∷ fitting (room - record_size r) recs) []) ≡ true
    choose true h = h
    choose false h = refl

pub rises_after : (low after : ℕ) (recs others : List Rec) → low ≤ after → rises_above low recs ≡ true → rises_above after others ≡ true → rises_above low (up_to after recs ++ others) ≡ true
rises_after low after [] others le rises more = rises_lower low after others le more
rises_after low after (r ∷ recs) others le rises more =
    let first = rises_first low r recs rises in
    choose (nat_le r.number after) refl first.2 (λ up. rises_after r.number after recs others up first.2 more)
  where
    choose : (t : Bool) → nat_le r.number after ≡ t → rises_above r.number recs ≡ true → (r.number ≤ after → rises_above r.number (up_to after recs ++ others) ≡ true)
        → rises_above low (cond t (r ∷ up_to after recs) (up_to after recs) ++ others) ≡ true
    choose true is above h = rises_with low r recs (up_to after recs ++ others) rises (h (leb-true r.number after is))
    choose false is above h =
        let none : up_to after recs ≡ [] = none_up_to after r.number recs (omega (arith, leb-false r.number after is)) above in
        rw none (rises_lower low after others le more)
