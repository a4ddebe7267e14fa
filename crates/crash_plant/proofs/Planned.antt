-- Failures counted one after another.
use Rattle.std.proofs.Common.{◌≡◌, ℕ, zero, suc, ◌+◌, ◌-◌, ◌<◌, Bool, true, false, ◌||◌, ◌&&◌, List, [], ◌∷◌, ◌++◌, length, take, drop, get_or, map, slice_set, inl, inr, refl, sym, ◌∙◌, ap, subst, arith, length-append, length-drop, length-take}
use Rattle.std.specs.Prelude.{Option, Some, None}
use Rattle.std.specs.List.{list_any}
use Rattle.crash_plant.specs.declared.device.Device.{Device}
use Rattle.crash_plant.specs.declared.device.Device.TheVariants.{Control, State, Journal, Volume}
use Rattle.crash_plant.specs.declared.fail.Fail.{Fail}
use Rattle.crash_plant.specs.declared.fail_plan.Planned.{Planned}
use Rattle.crash_plant.specs.Failures.{after_call, fails_now, is_stopping, is_same, planned_at}
use Rattle.std.proofs.lemmas.Bool.{cases_Bool, false_from_ne_true}
use Rattle.std.proofs.lemmas.Bool.Decides.{nat_tests}
use Rattle.std.proofs.Math.Seq.{get_or-append_right}
use Rattle.std.proofs.Math.Bool.{or_assoc}
use Rattle.std.proofs.lemmas.List.{get_or-drop, length-map, take_more, append-nil}
use Rattle.std.proofs.lemmas.List.Edits.{map_over_more}
use Rattle.std.proofs.lemmas.List.Folds.{list_any_more}

any_default : {A : Type 0} (xs : List A) (i : ℕ) (d e : A) → i < length xs → get_or xs i d ≡ get_or xs i e
any_default [] i d e less = absurd (omega (arith, less))
any_default (x ∷ xs) zero d e less = refl
any_default (x ∷ xs) (suc i) d e less = any_default xs i d e (omega (arith, less))

-- The items from this place on are as they were.
module _ {A : Type 0} (step : A → A) (xs ys : List A) (i : ℕ) (d : A) (less : i < length xs) (so_far : ys ≡ map step (take i xs) ++ drop i xs) where
  same_size : length (map step (take i xs)) ≡ i
  same_size = omega (arith, length-map (take i xs) step, length-take i xs)

  pub still_to_come : get_or ys i d ≡ get_or xs i d
  still_to_come = ap (λ (zs : List A). get_or zs i d) so_far ∙ get_or-append_right (map step (take i xs)) (drop i xs) i d (omega (arith, same_size)) ∙ get_or-drop i xs (i - length (map step (take i xs))) d ∙ ap (λ (k : ℕ). get_or xs k d) (omega (arith, same_size))

  long : length ys ≡ length xs
  long = omega (arith, ap length so_far, length-append (map step (take i xs)) (drop i xs), length-drop i xs, same_size)

  pub one_more : (y : A) → y ≡ step (get_or ys i d) → slice_set ys i y ≡ map step (take (i + 1) xs) ++ drop (i + 1) xs
  one_more y is = ap (λ (z : A). slice_set ys i z) is ∙ map_over_more step xs ys i (get_or ys i d) less so_far (any_default ys i d (get_or ys i d) (omega (arith, less, long)))

  -- A test of the items so far, and of this one.
  pub any_one_more : (test : A → Bool) (before answer now : Bool) → answer ≡ (before || list_any test (take i xs)) → now ≡ test (get_or ys i d) → (answer || now) ≡ (before || list_any test (take (i + 1) xs))
  any_one_more test before answer now was is =
      ap (λ (b : Bool). b || now) was ∙ ap (λ (b : Bool). (before || list_any test (take i xs)) || b) (is ∙ ap test still_to_come) ∙ or_assoc before (list_any test (take i xs)) (test (get_or xs i d)) ∙ ap (λ (b : Bool). before || b) (sym (list_any_more test xs i d less))

-- A call that is due stops the plant where its failure says so.
pub stops_at : (said : ℕ) (x y : Planned) (due : Bool) → due ≡ fails_now said x → y ≡ after_call said x → (due && y.stop) ≡ is_stopping said x
stops_at said x y due is counted = ap (λ (b : Bool). b && y.stop) is ∙ ap (λ (p : Planned). fails_now said x && p.stop) counted

same_here : (at : Option Device) → is_same at at ≡ true
same_here None = refl
same_here (Some Control) = refl
same_here (Some State) = refl
same_here (Some (Journal j)) = grind (arith, nat_tests)
same_here (Some (Volume v)) = grind (arith, nat_tests)

same_is : (a b : Option Device) → is_same a b ≡ true → a ≡ b
same_is None None same = refl
same_is None (Some d) same = absurd (cc same)
same_is (Some d) None same = absurd (cc same)
same_is (Some Control) (Some Control) same = refl
same_is (Some Control) (Some State) same = absurd (cc same)
same_is (Some Control) (Some (Journal j)) same = absurd (cc same)
same_is (Some Control) (Some (Volume v)) same = absurd (cc same)
same_is (Some State) (Some Control) same = absurd (cc same)
same_is (Some State) (Some State) same = refl
same_is (Some State) (Some (Journal j)) same = absurd (cc same)
same_is (Some State) (Some (Volume v)) same = absurd (cc same)
same_is (Some (Journal i)) (Some Control) same = absurd (cc same)
same_is (Some (Journal i)) (Some State) same = absurd (cc same)
same_is (Some (Journal i)) (Some (Journal j)) same = let is : i ≡ j = grind (arith, nat_tests) in ap (λ (k : ℕ). Some (Journal k)) is
same_is (Some (Journal i)) (Some (Volume v)) same = absurd (cc same)
same_is (Some (Volume v)) (Some Control) same = absurd (cc same)
same_is (Some (Volume v)) (Some State) same = absurd (cc same)
same_is (Some (Volume v)) (Some (Journal j)) same = absurd (cc same)
same_is (Some (Volume v)) (Some (Volume w)) same = let is : v ≡ w = grind (arith, nat_tests) in ap (λ (k : ℕ). Some (Volume k)) is

-- One failure more is planned for this device, or isn't.
planned_push : (at : Option Device) (fails : List Fail) (fail : Fail) → planned_at at (fails ++ fail ∷ []) ≡ planned_at at fails ++ planned_at at (fail ∷ [])
planned_push at [] fail = refl
planned_push at (other ∷ fails) fail = elim (cases_Bool (is_same other.at at)) [
  | inl is ↦ rw is (ap (λ (l : List Planned). record { said = other.said; left = Some other.call; stop = other.stop } ∷ l) (planned_push at fails fail))
  | inr differ ↦ rw differ (planned_push at fails fail)
]

module _ (at : Option Device) (fails : List Fail) (i : ℕ) (d : Fail) (less : i < length fails) (so_far : List Planned) (is : so_far ≡ planned_at at (take i fails)) where
  next : planned_at at (take (i + 1) fails) ≡ so_far ++ planned_at at (get_or fails i d ∷ [])
  next = ap (λ (l : List Fail). planned_at at l) (take_more fails i d less) ∙ planned_push at (take i fails) (get_or fails i d) ∙ ap (λ (l : List Planned). l ++ planned_at at (get_or fails i d ∷ [])) (sym is)

  pub taken_up : (get_or fails i d).at ≡ at → so_far ++ record { said = (get_or fails i d).said; left = Some (get_or fails i d).call; stop = (get_or fails i d).stop } ∷ [] ≡ planned_at at (take (i + 1) fails)
  taken_up here =
      let same : is_same (get_or fails i d).at at ≡ true = subst (λ (e : Option Device). is_same (get_or fails i d).at e ≡ true) here (same_here (get_or fails i d).at) in
      sym (next ∙ rw same refl)

  pub left_out : (found : Bool) → found ≡ false → ((get_or fails i d).at ≡ at → found ≡ true) → so_far ≡ planned_at at (take (i + 1) fails)
  left_out found not shows =
      let differ : is_same (get_or fails i d).at at ≡ false = false_from_ne_true _ (λ same. let is = shows (same_is (get_or fails i d).at at same) in absurd (cc)) in
      sym (next ∙ rw differ (append-nil so_far))
