-- What seats of a table of three controllers may do, and what they know afterwards.
use Rattle.std.proofs.Common.{◌≡◌, ℕ, zero, suc, ◌+◌, ◌<◌, true, nat_lt, nat_le, ◌&&◌, List, [], ◌∷◌, length, get_or, set, Option, Some, None, refl, sym, ap, ◌∙◌, subst, arith}
use Rattle.std.specs.Prelude.{All}
use Rattle.std.specs.List.{slice_get}
use Rattle.std.proofs.lemmas.Bool.Decides.{nat_tests}
use Rattle.std.proofs.lemmas.List.FromFn.{length-map-range_with_len, get_or-map-range_with_len}
use Rattle.ckd_track.specs.declared.write.Batch.{Batch}
use Rattle.group_state.specs.Groups.{Group, control_at}
use Rattle.group_state.specs.SoundStates.{are_within}
use Rattle.turn_group.specs.Seats.{ReaderSeatState, SeatMayJoin, IsSeated, new_reader, new_readers}
use Rattle.atomic_table.specs.Seated.{TableId}
use Rattle.group_tests.specs.CutVectors.{whole_on}
use Rattle.group_tests.specs.StateVectors.{batch}
use Rattle.group_tests.specs.Turns.{started, ReadsUpTo}

-- a write of the next time, on a track of the volume
within_started : (k : ℕ) → k < 3 → (time : ℕ) → are_within (control_at started k).volumes (whole_on 1 time ∷ []) ≡ true
within_started zero lt time = refl
within_started (suc zero) lt time = refl
within_started (suc (suc zero)) lt time = refl
within_started (suc (suc (suc k))) lt time = absurd (omega arith)

in_next : (before time : ℕ) → time ≡ before + 1 → (nat_lt before time && nat_le time time && true) ≡ true
in_next before time is = grind (arith, nat_tests)

pub may_join_next : (table : TableId) (before : ℕ) (seat : ReaderSeatState) (control : ℕ) (b : Batch) → ReadsUpTo table before seat → control ≡ seat.control → b ≡ batch control (whole_on 1 (before + 1) ∷ []) (before + 1) → SeatMayJoin seat b
may_join_next table before seat control b reads own is =
    let told = reads.told in
    subst (SeatMayJoin seat) (sym is)
    (record {
      control = own;
      rules = refl;
      tells = record { reporting = reads.tells; up = omega arith };
      within = in_next seat.floor.0 (before + 1) (omega arith);
      order = refl;
      tracks = subst (λ (s : Group). are_within (control_at s seat.control).volumes (whole_on 1 (before + 1) ∷ []) ≡ true) (sym reads.begun) (within_started seat.control reads.known (before + 1));
    })

-- ---- a seat that was taken and put back

set_again : {A : Type 0} (l : List A) (k : ℕ) (x y : A) → set (set l k x) k y ≡ set l k y
set_again [] k x y = refl
set_again (z ∷ l) zero x y = refl
set_again (z ∷ l) (suc k) x y = ap (λ t. z ∷ t) (set_again l k x y)

set_same : {A : Type 0} (l : List A) (k : ℕ) (x d : A) → k < length l → get_or l k d ≡ x → set l k x ≡ l
set_same [] k x d lt is = refl
set_same (z ∷ l) zero x d lt is = ap (λ y. y ∷ l) (sym is)
set_same (z ∷ l) (suc k) x d lt is = ap (λ t. z ∷ t) (set_same l k x d (omega arith) is)

get_set : {A : Type 0} (l : List A) (k : ℕ) (x : A) → k < length l → slice_get (set l k x) k ≡ Some x
get_set [] k x lt = absurd (omega arith)
get_set (z ∷ l) zero x lt = refl
get_set (z ∷ l) (suc k) x lt = get_set l k x (omega arith)

module _ (table : TableId) (s : Group) (n k : ℕ) (seats taken put : List (Option ReaderSeatState)) (seat : ReaderSeatState) (are : seats ≡ new_readers table s n) (lt : k < n) (left : taken ≡ set seats k None) (was : Some seat ≡ get_or seats k None) where
  as_many : length seats ≡ n
  as_many = ap length are ∙ length-map-range_with_len (λ j. Some (new_reader table s j)) 0 n

  its_control : seat.control ≡ k
  its_control =
      let is : Some seat ≡ Some (new_reader table s k) = was ∙ (ap (λ l. get_or l k None) are ∙ get_or-map-range_with_len (λ j. Some (new_reader table s j)) 0 n k k None lt (omega arith)) in
      let same : seat ≡ new_reader table s k = cc in ap (λ (r : ReaderSeatState). r.control) same

  pub place_empty : slice_get taken seat.control ≡ Some None
  place_empty = ap (λ l. slice_get l seat.control) left ∙ (ap (λ j. slice_get (set seats k None) j) its_control ∙ get_set seats k None (omega (arith, lt, as_many)))

  pub home_again : put ≡ set taken seat.control (Some seat) → put ≡ new_readers table s n
  home_again is =
      is ∙ ((λ i. set (left i) (its_control i) (Some seat)) ∙ (set_again seats k None (Some seat) ∙ (set_same seats k (Some seat) None (omega (arith, lt, as_many)) (sym was) ∙ are)))

pub all_seated : (table : TableId) (s : Group) (n : ℕ) (seats : List (Option ReaderSeatState)) → seats ≡ new_readers table s n → All (IsSeated table) seats
all_seated table s n seats is = subst (All (IsSeated table)) (sym is)
    (λ k d low.
    let lt : k < n = subst (λ m. k < m) (length-map-range_with_len (λ j. Some (new_reader table s j)) 0 n) low in
    subst (IsSeated table) (sym (get_or-map-range_with_len (λ j. Some (new_reader table s j)) 0 n k k d lt (omega arith))) refl)

pub as_many_seats : (table : TableId) (s : Group) (n : ℕ) (seats : List (Option ReaderSeatState)) → seats ≡ new_readers table s n → length seats ≡ n
as_many_seats table s n seats is = ap length is ∙ length-map-range_with_len (λ j. Some (new_reader table s j)) 0 n
