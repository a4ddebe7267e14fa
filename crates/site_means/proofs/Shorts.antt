-- The lengths of the journals one after another.
use Rattle.std.proofs.Common.{◌≡◌, ℕ, zero, suc, ◌+◌, ◌-◌, ◌<◌, ◌≤◌, Bool, true, false, cond, Option, Some, None, refl, ap, subst, ◌∙◌, arith}
use Rattle.std.specs.Prelude.{find}
use Rattle.std.proofs.lemmas.Bool.{ltb-false}
use Rattle.crash_plant.specs.declared.device.Device.{Device}
use Rattle.crash_plant.specs.declared.device.Device.TheVariants.{Control, State, Journal}
use Rattle.crash_plant.specs.Moments.{PlantState}
use Rattle.site_means.specs.Answers.{first_short, is_short, journals_from}

module _ (plant : PlantState) where
  -- the first short one of the journals from a number on
  abbrev pub short_from : ℕ → Option Device
  short_from n = find (is_short plant) (journals_from n (plant.journals - n))

  one_more : (n : ℕ) → n < plant.journals → short_from n ≡ cond (is_short plant (Journal n)) (Some (Journal n)) (short_from (suc n))
  one_more n lt = ap (λ (k : ℕ). find (is_short plant) (journals_from n k)) left
    where
      left : plant.journals - n ≡ suc (plant.journals - suc n)
      left = omega (arith, lt)

  pub next_long : (n : ℕ) → n < plant.journals → is_short plant (Journal n) ≡ false → short_from n ≡ short_from (n + 1)
  next_long n lt is = one_more n lt ∙ ap (λ (b : Bool). cond b (Some (Journal n)) (short_from (suc n))) is ∙ ap short_from (omega arith)

  -- ---- no device is short

  none_first : (b : Bool) (d : Device) (rest : Option Device) → cond b (Some d) rest ≡ None → (b ≡ false) × (rest ≡ None)
  none_first true d rest e = absurd cc
  none_first false d rest e = (refl, e)

  none_among : (first count k : ℕ) → find (is_short plant) (journals_from first count) ≡ None → k < count → is_short plant (Journal (first + k)) ≡ false
  none_among first zero k none lt = absurd (omega (arith, lt))
  none_among first (suc count) zero none lt = ap (λ (j : ℕ). is_short plant (Journal j)) (omega arith) ∙ (none_first (is_short plant (Journal first)) (Journal first) _ none).0
  none_among first (suc count) (suc k) none lt =
      ap (λ (j : ℕ). is_short plant (Journal j)) (omega arith)
      ∙ none_among (suc first) count k (none_first (is_short plant (Journal first)) (Journal first) _ none).1 (omega (arith, lt))

-- what the devices have where none is short
pub record AreLong (plant : PlantState) : Type 0 where
  pub control : 1024 ≤ plant.lengths Control
  pub state : 16384 ≤ plant.lengths State
  pub journals : (j : ℕ) → j < plant.journals → 1826816 ≤ plant.lengths (Journal j)

pub are_long : (plant : PlantState) → first_short plant ≡ None → AreLong plant
are_long plant none =
    let first = none_first plant (is_short plant Control) Control _ none in
    let second = none_first plant (is_short plant State) State _ first.1 in
    record {
      control = ltb-false (plant.lengths Control) 1024 first.0;
      state = ltb-false (plant.lengths State) 16384 second.0;
      journals = λ j lt. ltb-false (plant.lengths (Journal j)) 1826816 (subst (λ (k : ℕ). is_short plant (Journal k) ≡ false) (omega arith) (none_among plant 0 plant.journals j second.1 lt));
    }
