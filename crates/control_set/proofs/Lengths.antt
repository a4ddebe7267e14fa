-- The lengths of the journals as a list.
use Rattle.std.proofs.Common.{◌≡◌, ℕ, zero, suc, ◌+◌, ◌<◌, ◌≤◌, Bool, true, false, nat_lt, nat_le, ◌&&◌, List, ◌∷◌, length, slice_index, refl, ◌∙◌, ap, arith}
use Rattle.std.proofs.lemmas.Bool.{le-ltb, lt-ltb, ltb-true, leb-true}
use Rattle.tod_stamp.proofs.NameLaws.{both_true}
use Rattle.crash_plant.specs.declared.device.Device.TheVariants.{Journal}
use Rattle.crash_plant.specs.Moments.{PlantState}
use Rattle.crash_plant.specs.Calls.{SameSite}
use Rattle.control_set.specs.Marks.{has_spot}
use Rattle.control_set.specs.Slots.{lengths_from, lengths_of}

pub count_is : (f : ℕ → ℕ) (i n : ℕ) → length (lengths_from f i n) ≡ n
count_is f i zero = refl
count_is f i (suc n) = ap suc (count_is f (suc i) n)

pub at_is : (f : ℕ → ℕ) (i n k : ℕ) → k < n → slice_index (lengths_from f i n) k ≡ f (i + k)
at_is f i zero k lt = absurd (omega (arith, lt))
at_is f i (suc n) zero lt = ap f (omega arith)
at_is f i (suc n) (suc k) lt = at_is f (suc i) n k (omega (arith, lt)) ∙ ap f (omega arith)

pub same_from : (f g : ℕ → ℕ) (i n : ℕ) → ((k : ℕ) → f k ≡ g k) → lengths_from f i n ≡ lengths_from g i n
same_from f g i zero same = refl
same_from f g i (suc n) same = λ j. same i j ∷ same_from f g (suc i) n same j

pub same_lengths : (old new : PlantState) → SameSite old new → lengths_of new ≡ lengths_of old
same_lengths old new same = ap (λ (n : ℕ). lengths_from (λ j. new.lengths (Journal j)) 0 n) same.journals ∙ same_from (λ j. new.lengths (Journal j)) (λ j. old.lengths (Journal j)) 0 old.journals (λ k. same.lengths (Journal k))

module _ (plant : PlantState) (set place : ℕ) where
  pub is_set : nat_lt set (length (lengths_of plant)) ≡ nat_lt set plant.journals
  is_set = ap (λ (n : ℕ). nat_lt set n) (count_is (λ j. plant.lengths (Journal j)) 0 plant.journals)

  pub no_set : plant.journals ≤ set → has_spot (lengths_of plant) set place ≡ false
  no_set past = ap (λ (b : Bool). b && nat_le (place + 24) (slice_index (lengths_of plant) set)) (is_set ∙ le-ltb set plant.journals past)

  pub a_set : set < plant.journals → has_spot (lengths_of plant) set place ≡ nat_le (place + 24) (plant.lengths (Journal set))
  a_set lt = ap (λ (b : Bool). b && nat_le (place + 24) (slice_index (lengths_of plant) set)) (is_set ∙ lt-ltb set plant.journals lt)
      ∙ ap (λ (n : ℕ). nat_le (place + 24) n) (at_is (λ j. plant.lengths (Journal j)) 0 plant.journals set lt ∙ ap (λ (k : ℕ). plant.lengths (Journal k)) (omega arith))

-- room in a journal
pub room_is : (lengths : List ℕ) (set place : ℕ) → has_spot lengths set place ≡ true → (set < length lengths) × (place + 24 ≤ slice_index lengths set)
room_is lengths set place e =
    let parts = both_true (nat_lt set (length lengths)) (nat_le (place + 24) (slice_index lengths set)) e in
    (ltb-true set (length lengths) parts.0, leb-true (place + 24) (slice_index lengths set) parts.1)
