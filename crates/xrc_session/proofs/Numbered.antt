-- The first device that is too short, the journals one after another. A stop is given on as it was.
use Rattle.std.proofs.Common.{◌≡◌, ◌↔◌, ℕ, zero, suc, ◌+◌, ◌-◌, ◌<◌, ◌≤◌, Bool, true, false, cond, nat_eq, nat_le, ◌&&◌, Option, Some, None, Result, Ok, Err, refl, sym, ap, subst, ◌∙◌, arith}
use Rattle.std.specs.Prelude.{find, IsErr, IsErrAnd, IsErrOf, OnOk}
use Rattle.std.proofs.lemmas.Bool.{and_parts, eqb-true, le-ltb, leb-true, lt-ltb, ltb-false}
use Rattle.crash_plant.specs.declared.device.Device.{Device}
use Rattle.crash_plant.specs.declared.device.Device.TheVariants.{Control, State, Journal}
use Rattle.crash_plant.specs.Moments.{PlantState}
use Rattle.site_means.specs.Answers.{journals_from}
use Rattle.site_store.specs.Standing.{HasLengths}
use Rattle.xrc_journal.specs.Lengths.{journal_length}
use Rattle.xrc_status.specs.declared.stop.Stop.{Stop}
use Rattle.xrc_status.specs.declared.stop.Stop.TheVariants.{BadSite, TooSmall}
use Rattle.xrc_session.specs.Openings.{first_too_short, has_site_numbers, is_too_short, session_need, stop_of_length, stop_of_site}

-- An error that was given on as it was.
pub given_on : {T E : Type 0} (result : Result T E) (e : E) → IsErr result × IsErrAnd result (λ x. x ≡ e) → result ≡ Err e
given_on (Ok x) e is = absurd cc
given_on (Err x) e is = ap (λ y. Err y) is.1

module _ (controls : ℕ) (plant : PlantState) where
  abbrev short : Device → Bool
  short = is_too_short controls plant

  -- the first of the journals from a number on that is too short
  abbrev pub short_from : ℕ → Option Device
  short_from n = find (is_too_short controls plant) (journals_from n (plant.journals - n))

  one_more : (n : ℕ) → n < plant.journals → short_from n ≡ cond (short (Journal n)) (Some (Journal n)) (short_from (suc n))
  one_more n lt = ap (λ (k : ℕ). find short (journals_from n k)) left
    where
      left : plant.journals - n ≡ suc (plant.journals - suc n)
      left = omega (arith, lt)

  is_long : (d : Device) → session_need controls d ≤ plant.lengths d → short d ≡ false
  is_long d long = le-ltb (plant.lengths d) (session_need controls d) long

  pub next_short : (n : ℕ) → n < plant.journals → ¬ (session_need controls (Journal n) ≤ plant.lengths (Journal n)) → short_from n ≡ Some (Journal n)
  next_short n lt is = one_more n lt ∙ ap (λ (b : Bool). cond b (Some (Journal n)) (short_from (suc n))) (lt-ltb _ _ (omega arith))

  pub next_long : (n : ℕ) → n < plant.journals → session_need controls (Journal n) ≤ plant.lengths (Journal n) → short_from n ≡ short_from (n + 1)
  next_long n lt long = one_more n lt ∙ ap (λ (b : Bool). cond b (Some (Journal n)) (short_from (suc n))) (is_long (Journal n) long) ∙ ap short_from (omega arith)

  -- A stop is that of a device exactly if it is the first that is too short.
  pub stops_by : {T : Type 0} (result : Result T Stop) (d : Device) (e : Stop) → first_too_short controls plant ≡ Some d → e ≡ TooSmall d (session_need controls d) → result ≡ Err e
      → (stop : Stop) → IsErrOf result stop ↔ (stop_of_length controls (first_too_short controls plant) ≡ Some stop)
  stops_by result d e is same was stop =
      let due : stop_of_length controls (first_too_short controls plant) ≡ Some e = ap (stop_of_length controls) is ∙ ap (λ (s : Stop). Some s) (sym same) in
      (λ stopped. cc (due, stopped, was), λ wanted. cc (due, wanted, was))

  -- So it is of a journal that is too short, after devices that are not.
  pub stops_by_journal : {T : Type 0} (result : Result T Stop) (n needed : ℕ) (e : Stop) → n < plant.journals → first_too_short controls plant ≡ short_from n → needed ≡ journal_length controls
      → (e ≡ TooSmall (Journal n) needed) × ¬ (needed ≤ plant.lengths (Journal n)) → result ≡ Err e → (stop : Stop) → IsErrOf result stop ↔ (stop_of_length controls (first_too_short controls plant) ≡ Some stop)
  stops_by_journal result n needed e within from need is was =
      let long = subst (λ m. ¬ (m ≤ plant.lengths (Journal n))) need is.1 in
      stops_by result (Journal n) e (from ∙ next_short n within long) (is.0 ∙ ap (TooSmall (Journal n)) need) was

-- ---- no device is too short

none_first : {A : Type 0} (b : Bool) (x : A) (rest : Option A) → cond b (Some x) rest ≡ None → (b ≡ false) × (rest ≡ None)
none_first true x rest e = absurd cc
none_first false x rest e = (refl, e)

none_among : (p : Device → Bool) (first count k : ℕ) → find p (journals_from first count) ≡ None → k < count → p (Journal (first + k)) ≡ false
none_among p first zero k none lt = absurd (omega (arith, lt))
none_among p first (suc count) zero none lt = ap (λ (j : ℕ). p (Journal j)) (omega arith) ∙ (none_first (p (Journal first)) (Journal first) _ none).0
none_among p first (suc count) (suc k) none lt = ap (λ (j : ℕ). p (Journal j)) (omega arith) ∙ none_among p (suc first) count k (none_first (p (Journal first)) (Journal first) _ none).1 (omega (arith, lt))

-- With the right numbers the stop is that of the first device that is too short.
pub stop_by_lengths : (controls traces : ℕ) (plant : PlantState) → true ≡ has_site_numbers controls traces plant → stop_of_site controls traces plant ≡ stop_of_length controls (first_too_short controls plant)
stop_by_lengths controls traces plant good = ap (λ (b : Bool). cond b (stop_of_length controls (first_too_short controls plant)) (Some BadSite)) (sym good)

-- Then the devices have the lengths that a session needs, and as many lanes as controllers.
has_lengths : (controls traces : ℕ) (plant : PlantState) → true ≡ has_site_numbers controls traces plant → first_too_short controls plant ≡ None → HasLengths controls plant × (traces ≡ controls) × (1 ≤ plant.volumes)
has_lengths controls traces plant good none =
    let all = and_parts (nat_eq traces controls && (nat_le 2 plant.journals && nat_le plant.journals 16)) (nat_le 1 plant.volumes && nat_le plant.volumes 64) (sym good) in
    let two = and_parts (nat_eq traces controls) (nat_le 2 plant.journals && nat_le plant.journals 16) all.0 in
    let journals = and_parts (nat_le 2 plant.journals) (nat_le plant.journals 16) two.1 in
    let volumes = and_parts (nat_le 1 plant.volumes) (nat_le plant.volumes 64) all.1 in
    let first = none_first (is_too_short controls plant Control) Control _ none in
    let second = none_first (is_too_short controls plant State) State _ first.1 in (
      record {
        control = ltb-false (plant.lengths Control) 1024 first.0;
        state = ltb-false (plant.lengths State) 16384 second.0;
        journals = (leb-true 2 plant.journals journals.0, leb-true plant.journals 16 journals.1);
        journal = λ j lt. ltb-false (plant.lengths (Journal j)) (journal_length controls) (subst (λ (k : ℕ). is_too_short controls plant (Journal k) ≡ false) (omega arith) (none_among (is_too_short controls plant) 0 plant.journals j second.1 lt));
        volumes = leb-true plant.volumes 64 volumes.1;
      },
      eqb-true traces controls two.0,
      leb-true 1 plant.volumes volumes.0,
    )

pub has_lengths_on_ok : {T E : Type 0} (result : Result T E) (controls traces : ℕ) (plant : PlantState) → true ≡ has_site_numbers controls traces plant → OnOk result (first_too_short controls plant ≡ None)
    → OnOk result (HasLengths controls plant × (traces ≡ controls) × (1 ≤ plant.volumes))
has_lengths_on_ok (Ok x) controls traces plant good none = has_lengths controls traces plant good none
has_lengths_on_ok (Err e) controls traces plant good none = tt
