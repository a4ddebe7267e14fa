-- Records in a row, taken one after another.
use Rattle.std.proofs.Common.{◌≡◌, ℕ, zero, suc, ◌+◌, ◌-◌, ◌<◌, ◌≤◌, Bool, true, false, cond, ◌||◌, nat_le, List, [], ◌∷◌, ◌++◌, refl, sym, ap, subst, ◌∙◌, length, take, drop, get_or, append_assoc, add-one, drop-cons, Some, None, arith}
use Rattle.std.specs.Prelude.{◌==◌, nat_lt}
use Rattle.std.specs.List.{position, position_or_len}
use Rattle.std.proofs.Math.ListN.{set}
use Rattle.std.proofs.lemmas.Bool.{leb-true, leb-false, le-leb, lt-leb, ne_eqb, eqb-true, ltb-false}
use Rattle.std.proofs.lemmas.Grind.{common_steps}
use Rattle.std.proofs.lemmas.List.{append-nil, take_more, take-append-drop, drop_all}
use Rattle.std.proofs.lemmas.List.Sums.{sum_by-cons, sum_by-append, fails_before_first}
use Rattle.std.proofs.lemmas.List.Quantifiers.{position-Some}
use Rattle.ckd_track.specs.declared.rec.Rec.{Rec}
use Rattle.ckd_track.specs.Tracks.{record_size, track_size, capacity, rises_above, are_records_above, IsTrack, last_number}
use Rattle.ckd_track.specs.Effects.{has_record, up_to, fitting, fitted, updated}
use Rattle.ckd_track.proofs.ImageLaws.{both_true}
use Rattle.ckd_track.proofs.TrackLaws.{and_true}
use Rattle.ckd_track.proofs.Walks.{rises_first}
use Rattle.ckd_track.proofs.Updates.{none_found}
use Rattle.ckd_track.proofs.FrontLaws.{none_up_to, none_has, rises_lower}

-- the records that are left begin with the one at their place
pub left_at : (recs : List Rec) (i : ℕ) (rec : Rec) → i < length recs → rec ≡ get_or recs i rec → drop i recs ≡ rec ∷ drop (i + 1) recs
left_at recs i rec lt at = drop-cons recs i rec lt ∙ rw (add-one, ← at) refl

-- one more is taken
pub taken_more : (recs : List Rec) (i : ℕ) (rec : Rec) → i < length recs → rec ≡ get_or recs i rec → take (i + 1) recs ≡ take i recs ++ rec ∷ []
taken_more recs i rec lt at = take_more recs i rec lt ∙ ap (λ (r : Rec). take i recs ++ r ∷ []) (sym at)

-- sizes of what is taken and of what is left
pub sizes_split : (recs : List Rec) (i : ℕ) → track_size (take i recs) + track_size (drop i recs) ≡ track_size recs
sizes_split recs i = sym (sum_by-append record_size (take i recs) (drop i recs)) ∙ ap track_size (take-append-drop i recs)

pub sizes_left_at : (recs : List Rec) (i : ℕ) (rec : Rec) → i < length recs → rec ≡ get_or recs i rec → track_size (drop i recs) ≡ record_size rec + track_size (drop (i + 1) recs)
sizes_left_at recs i rec lt at = ap track_size (left_at recs i rec lt at) ∙ sum_by-cons record_size rec (drop (i + 1) recs)

pub sizes_taken : (recs : List Rec) (i : ℕ) (rec : Rec) → i < length recs → rec ≡ get_or recs i rec → track_size (take (i + 1) recs) ≡ track_size (take i recs) + record_size rec
sizes_taken recs i rec lt at = omega (arith, sizes_split recs i, sizes_split recs (i + 1), sizes_left_at recs i rec lt at)

pub track_sizes : (recs : List Rec) → IsTrack recs → track_size recs ≤ capacity
track_sizes recs is = leb-true (track_size recs) capacity (both_true (rises_above 0 recs) (nat_le (track_size recs) capacity) is).1

pub track_rises : (recs : List Rec) → IsTrack recs → rises_above 0 recs ≡ true
track_rises recs is = (both_true (rises_above 0 recs) (nat_le (track_size recs) capacity) is).0

-- records above a number are a track
pub above_is_track : (after : ℕ) (recs : List Rec) → are_records_above after recs ≡ true → IsTrack recs
above_is_track after recs are =
    let parts = both_true (rises_above after recs) (nat_le (track_size recs) capacity) are in
    and_true (rises_above 0 recs) (nat_le (track_size recs) capacity) (rises_lower 0 after recs (omega arith) parts.0) parts.1

-- ---- the records that fit

pub fits_no_more : (recs : List Rec) (i room left : ℕ) (rec : Rec) → i < length recs → rec ≡ get_or recs i rec → fitting room recs ≡ take i recs ++ fitting left (drop i recs) → left < record_size rec
    → take i recs ≡ fitting room recs
fits_no_more recs i room left rec lt at so_far above =
    let test : nat_le (record_size rec) left ≡ false = lt-leb (record_size rec) left above in
    let none : fitting left (drop i recs) ≡ [] = ap (fitting left) (left_at recs i rec lt at) ∙ rw test refl in
    sym (so_far ∙ ap (λ (t : List Rec). take i recs ++ t) none ∙ append-nil (take i recs))

pub fits_more : (recs : List Rec) (i room left : ℕ) (rec : Rec) → i < length recs → rec ≡ get_or recs i rec → fitting room recs ≡ take i recs ++ fitting left (drop i recs) → record_size rec ≤ left
    → fitting room recs ≡ take (i + 1) recs ++ fitting (left - record_size rec) (drop (i + 1) recs)
fits_more recs i room left rec lt at so_far fits =
    let test : nat_le (record_size rec) left ≡ true = le-leb (record_size rec) left fits in
    let rest = fitting (left - record_size rec) (drop (i + 1) recs) in
    let one : fitting left (drop i recs) ≡ rec ∷ rest = ap (fitting left) (left_at recs i rec lt at) ∙ rw test refl in
    so_far ∙ ap (λ (t : List Rec). take i recs ++ t) one ∙ sym (append_assoc (take i recs) (rec ∷ []) rest) ∙ ap (λ (t : List Rec). t ++ rest) (sym (taken_more recs i rec lt at))

-- all records were gone through
pub take_every : (recs : List Rec) (i : ℕ) → length recs ≤ i → take i recs ≡ recs
take_every recs i le = grind (arith, common_steps)

pub all_fit : (recs : List Rec) (i room left : ℕ) → length recs ≤ i → fitting room recs ≡ take i recs ++ fitting left (drop i recs) → recs ≡ fitting room recs
all_fit recs i room left le so_far =
    sym (so_far ∙ ap (λ (t : List Rec). take i recs ++ fitting left t) (drop_all i recs le) ∙ append-nil (take i recs) ∙ take_every recs i le)

-- ---- the records up to a number

rises_after_first : (low i : ℕ) (recs others : List Rec) (rec : Rec) → rises_above low recs ≡ true → drop i recs ≡ rec ∷ others → rises_above rec.number others ≡ true
rises_after_first low i [] others rec rises is =
    let none : List Rec = [] in
    absurd (none_left (sym (drop_all i none (omega arith)) ∙ is))
  where
    none_left : (let none : List Rec = [] in none ≡ rec ∷ others) → ⊥
    none_left e = cc
rises_after_first low zero (first ∷ recs) others rec rises is =
    subst (λ (r : Rec). rises_above r.number others ≡ true) (same_first is) (subst (λ (t : List Rec). rises_above first.number t ≡ true) (same_rest is) (rises_first low first recs rises).2)
  where
    same_first : first ∷ recs ≡ rec ∷ others → first ≡ rec
    same_first e = cc

    same_rest : first ∷ recs ≡ rec ∷ others → recs ≡ others
    same_rest e = cc
rises_after_first low (suc i) (first ∷ recs) others rec rises is = rises_after_first first.number i recs others rec (rises_first low first recs rises).2 is

pub up_to_no_more : (recs : List Rec) (i after : ℕ) (rec : Rec) → IsTrack recs → i < length recs → rec ≡ get_or recs i rec → up_to after recs ≡ take i recs ++ up_to after (drop i recs) → after < rec.number
    → take i recs ≡ up_to after recs
up_to_no_more recs i after rec is lt at so_far above =
    let here = left_at recs i rec lt at in
    let rises = rises_after_first 0 i recs (drop (i + 1) recs) rec (track_rises recs is) here in
    let test : nat_le rec.number after ≡ false = lt-leb rec.number after above in
    let later_none : up_to after (drop (i + 1) recs) ≡ [] = none_up_to after rec.number (drop (i + 1) recs) (omega (arith, above)) rises in
    let none : up_to after (drop i recs) ≡ [] = ap (up_to after) here ∙ rw test later_none in
    sym (so_far ∙ ap (λ (t : List Rec). take i recs ++ t) none ∙ append-nil (take i recs))

pub up_to_more : (recs : List Rec) (i after : ℕ) (rec : Rec) → i < length recs → rec ≡ get_or recs i rec → up_to after recs ≡ take i recs ++ up_to after (drop i recs) → rec.number ≤ after
    → up_to after recs ≡ take (i + 1) recs ++ up_to after (drop (i + 1) recs)
up_to_more recs i after rec lt at so_far le =
    let test : nat_le rec.number after ≡ true = le-leb rec.number after le in
    let rest = up_to after (drop (i + 1) recs) in
    let one : up_to after (drop i recs) ≡ rec ∷ rest = ap (up_to after) (left_at recs i rec lt at) ∙ rw test refl in
    so_far ∙ ap (λ (t : List Rec). take i recs ++ t) one ∙ sym (append_assoc (take i recs) (rec ∷ []) rest) ∙ ap (λ (t : List Rec). t ++ rest) (sym (taken_more recs i rec lt at))

pub all_up_to : (recs : List Rec) (i after : ℕ) → length recs ≤ i → up_to after recs ≡ take i recs ++ up_to after (drop i recs) → take (length recs) recs ≡ up_to after recs
all_up_to recs i after le so_far =
    take_every recs (length recs) (omega arith) ∙ sym (so_far ∙ ap (λ (t : List Rec). take i recs ++ up_to after t) (drop_all i recs le) ∙ append-nil (take i recs) ∙ take_every recs i le)

-- the last number of those up to `after` tells whether it was found
pub last_up_to : (after low : ℕ) (recs : List Rec) → rises_above low recs ≡ true → low ≤ after → (last_number low (up_to after recs) == after) ≡ ((low == after) || has_record after recs)
last_up_to after low [] rises le = no_more (low == after)
  where
    no_more : (t : Bool) → t ≡ (t || false)
    no_more true = refl
    no_more false = refl
last_up_to after low (rec ∷ recs) rises le =
    let first = rises_first low rec recs rises in
    choose (nat_le rec.number after) refl first.0 first.2 (λ up. last_up_to after rec.number recs first.2 up)
  where
    no_more : (t : Bool) → t ≡ (t || false)
    no_more true = refl
    no_more false = refl

    choose : (t : Bool) → nat_le rec.number after ≡ t → low < rec.number → rises_above rec.number recs ≡ true
        → (rec.number ≤ after → (last_number rec.number (up_to after recs) == after) ≡ ((rec.number == after) || has_record after recs))
        → (last_number low (cond t (rec ∷ up_to after recs) (up_to after recs)) == after) ≡ ((low == after) || has_record after (rec ∷ recs))
    choose true is above rises more =
        let up = leb-true rec.number after is in
        let test : (low == after) ≡ false = ne_eqb low after (λ e. omega (arith, e, above, up)) in
        rw test (more up)
    choose false is above rises more =
        let past = leb-false rec.number after is in
        let test : (rec.number == after) ≡ false = ne_eqb rec.number after (λ e. omega (arith, e, past)) in
        let none : has_record after recs ≡ false = none_has after rec.number recs (omega (arith, past)) rises in
        let erased : up_to after recs ≡ [] = none_up_to after rec.number recs (omega (arith, past)) rises in
        rw (test, none, erased) (no_more (low == after))

-- ---- the record with a number

-- Where the first record with the number stands at a place, an update changes that one.
pub updated_at : (number low i : ℕ) (bytes : List ℕ) (recs : List Rec) (rec none : Rec) → rises_above low recs ≡ true → i < length recs → rec ≡ get_or recs i rec
    → (rec.number == number) ≡ true → ((k : ℕ) → k < i → ((get_or recs k none).number == number) ≡ false)
    → set recs i (record rec { content = fitted (length rec.content) bytes }) ≡ updated number bytes recs
updated_at number low i bytes [] rec none rises lt at is before = absurd (omega (arith, lt))
updated_at number low zero bytes (first ∷ recs) rec none rises lt at is before =
    let here : (first.number == number) ≡ true = subst (λ (r : Rec). (r.number == number) ≡ true) at is in
    let others = none_found number first.number bytes recs (omega (arith, eqb-true first.number number here)) (rises_first low first recs rises).2 in
    let changed : List Rec = record first { content = fitted (length first.content) bytes } ∷ recs in
    let done : changed ≡ updated number bytes (first ∷ recs) = rw (here, others) refl in
    subst (λ (r : Rec). record r { content = fitted (length r.content) bytes } ∷ recs ≡ updated number bytes (first ∷ recs)) (sym at) done
updated_at number low (suc i) bytes (first ∷ recs) rec none rises lt at is before =
    let other : (first.number == number) ≡ false = before 0 (omega arith) in
    rw other (ap (λ (t : List Rec). first ∷ t) (updated_at number first.number i bytes recs rec none (rises_first low first recs rises).2 (omega (arith, lt)) at is (λ k less. before (suc k) (omega (arith, less)))))

-- Where no record has the number an update changes none.
pub updated_none : (number : ℕ) (bytes : List ℕ) (recs : List Rec) → ((k : ℕ) (none : Rec) → k < length recs → ((get_or recs k none).number == number) ≡ false) → updated number bytes recs ≡ recs
updated_none number bytes [] each = refl
updated_none number bytes (first ∷ recs) each =
    let other : (first.number == number) ≡ false = each 0 first (omega arith) in
    rw other (ap (λ (t : List Rec). first ∷ t) (updated_none number bytes recs (λ k none less. each (suc k) none (omega (arith, less)))))

-- A record that keeps the rules leaves the same to be decided of those after it.
pub rises_next : (last : ℕ) (recs : List Rec) (i : ℕ) (rec : Rec) → i < length recs → rec ≡ get_or recs i rec → last < rec.number → rec.number ≤ 255 → length rec.key ≤ 255
    → rises_above rec.number (drop (i + 1) recs) ≡ rises_above last (drop i recs)
rises_next last recs i rec lt at above number key =
    let low : nat_le (last + 1) rec.number ≡ true = le-leb (last + 1) rec.number (omega (arith, above)) in
    let high : nat_le rec.number 255 ≡ true = le-leb rec.number 255 number in
    let short : nat_le (length rec.key) 255 ≡ true = le-leb (length rec.key) 255 key in
    sym (ap (rises_above last) (left_at recs i rec lt at) ∙ rw (low, high, short) refl)

pub above_rises : (after : ℕ) (recs : List Rec) → are_records_above after recs ≡ true → rises_above after recs ≡ true
above_rises after recs are = (both_true (rises_above after recs) (nat_le (track_size recs) capacity) are).0

-- the record with the number, in its place
pub update_one : (number place : ℕ) (bytes content : List ℕ) (recs : List Rec) (rec : Rec) → IsTrack recs → position (λ (r : Rec). r.number == number) recs ≡ Some place → rec ≡ get_or recs place rec
    → content ≡ fitted (length rec.content) bytes → set recs place (record rec { content = content }) ≡ updated number bytes recs
update_one number place bytes content recs rec is found at filled =
    let first = position-Some (λ (r : Rec). r.number == number) recs place rec found in
    let hit : (rec.number == number) ≡ true = ap (λ (r : Rec). r.number == number) at ∙ first.1 in
    ap (λ (t : List ℕ). set recs place (record rec { content = t })) filled ∙ updated_at number 0 place bytes recs rec rec (track_rises recs is) first.0 at hit first.2

pub update_absent : (number : ℕ) (bytes : List ℕ) (recs : List Rec) → position (λ (r : Rec). r.number == number) recs ≡ None → updated number bytes recs ≡ recs
update_absent number bytes recs absent = choose (nat_lt (position_or_len (λ (r : Rec). r.number == number) recs) (length recs)) refl absent
  where
    choose : (t : Bool) → nat_lt (position_or_len (λ (r : Rec). r.number == number) recs) (length recs) ≡ t
        → cond t (Some (position_or_len (λ (r : Rec). r.number == number) recs)) None ≡ None → updated number bytes recs ≡ recs
    choose true is e = absurd cc
    choose false is e =
        let every = ltb-false (position_or_len (λ (r : Rec). r.number == number) recs) (length recs) is in
        updated_none number bytes recs (λ k none lt. fails_before_first (λ (r : Rec). r.number == number) recs k none (omega (arith, lt, every)))
