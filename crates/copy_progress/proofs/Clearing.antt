-- The chosen progress while gates are closed.
use Rattle.std.proofs.Common.{◌≡◌, ◌≢◌, ◌⊎◌, inl, inr, ℕ, Bool, true, false, not, List, length, take, drop, slice_index, Option, None, refl, sym, ap, subst, ◌∙◌, arith, get_or-take}
use Rattle.std.specs.Prelude.{slice_range, OnOk, Result, Ok, Err}
use Rattle.std.proofs.lemmas.List.{take-take, drop-drop, drop-take, get_or-drop}
use Rattle.crash_plant.specs.Bytes.{Torn}
use Rattle.crash_plant.proofs.Patches.{torn_more}
use Rattle.crash_plant.specs.Gates.{Shuts}
use Rattle.copy_progress.specs.declared.progress.Progress.{Progress}
use Rattle.copy_progress.specs.Slots.{Clears, IsCleared, greater_of, chosen_progress, free_progress_place, progress_place, leading_progress}
use Rattle.copy_progress.proofs.Reading.{closed_is}
use Rattle.copy_progress.proofs.Chosen.{gate_at, shut_is}

-- What stays beside the gates where one of them may have changed.
beside : (b : Bool) (x c : List ℕ) → Torn (progress_place b) 1 x c → (take 16 c ≡ take 16 x) × (slice_range c 17 80 ≡ slice_range x 17 80) × (drop 81 c ≡ drop 81 x)
beside true x c torn = (
  sym (take-take 16 80 c (omega arith)) ∙ ap (λ (l : List ℕ). take 16 l) torn.before ∙ take-take 16 80 x (omega arith),
  sym (drop-take 17 63 c) ∙ ap (λ (l : List ℕ). drop 17 l) torn.before ∙ drop-take 17 63 x,
  torn.after,
)
beside false x c torn = (
  torn.before,
  ap (λ (l : List ℕ). take 63 l) torn.after,
  sym (drop-drop 64 17 c) ∙ ap (λ (l : List ℕ). drop 64 l) torn.after ∙ drop-drop 64 17 x,
)

pub clears_by : (b : Bool) (x y c : List ℕ) → Clears x y → Torn (progress_place b) 1 y c → (chosen_progress c ≡ chosen_progress x) ⊎ (chosen_progress c ≡ None) → Clears x c
clears_by b x y c so_far torn chosen =
    let parts = beside b y c torn in
    record {
      chosen = chosen;
      before = parts.0 ∙ so_far.before;
      between = parts.1 ∙ so_far.between;
      behind = parts.2 ∙ so_far.behind;
      size = torn.size ∙ so_far.size;
    }

pub clears_here : (x c : List ℕ) → c ≡ x → Clears x c
clears_here x c is = record { chosen = inl (ap chosen_progress is); before = ap (λ (l : List ℕ). take 16 l) is; between = ap (λ (l : List ℕ). slice_range l 17 80) is; behind = ap (λ (l : List ℕ). drop 81 l) is; size = ap (λ (l : List ℕ). length l) is }

-- Closing the free slot's gate leaves the chosen progress.
pub clears_free : (b : Bool) (x c : List ℕ) → progress_place b ≡ free_progress_place x → Shuts (progress_place b) x c → Clears x c
clears_free b x c is shuts = clears_by b x x c (clears_here x x refl) shuts.torn (inl (elim shuts.gate [
  | inl same ↦ ap chosen_progress same
  | inr shut ↦ shut_is x c (subst (λ (p : ℕ). Torn p 43 x c) is (torn_more (progress_place b) 1 42 x c shuts.torn)) (subst (λ (p : ℕ). slice_index c p ≢ 1) is shut)
]))

-- the other gate
pub other_gate : (s : Bool) (y c : List ℕ) → Torn (progress_place (not s)) 1 y c → slice_index c (progress_place s) ≡ slice_index y (progress_place s)
other_gate true y c torn = sym (get_or-drop 17 c 63 0) ∙ ap (λ (l : List ℕ). slice_index l 63) torn.after ∙ get_or-drop 17 y 63 0
other_gate false y c torn = sym (get_or-take 80 c 16 0 (omega arith)) ∙ ap (λ (l : List ℕ). slice_index l 16) torn.before ∙ get_or-take 80 y 16 0 (omega arith)

pub both_shut : (s : Bool) (c : List ℕ) → slice_index c (progress_place s) ≢ 1 → slice_index c (progress_place (not s)) ≢ 1 → IsCleared c
both_shut true c one other = record { first = other; second = one }
both_shut false c one other = record { first = one; second = other }

pub none_chosen : (c : List ℕ) → IsCleared c → chosen_progress c ≡ None
none_chosen c none =
    ap (λ (s : Option Progress). greater_of s (leading_progress (drop 80 c))) (closed_is (drop 16 c) (λ is. none.first (gate_at false c ∙ is)))
    ∙ closed_is (drop 80 c) (λ is. none.second (gate_at true c ∙ is))

-- Closing the other one then leaves it or leaves none.
pub clears_then : (s : Bool) (x y c : List ℕ) → Clears x y → slice_index y (progress_place s) ≢ 1 → Shuts (progress_place (not s)) y c → Clears x c
clears_then s x y c so_far shut shuts = clears_by (not s) x y c so_far shuts.torn (elim shuts.gate [
  | inl same ↦ elim so_far.chosen [ inl is ↦ inl (ap chosen_progress same ∙ is) | inr none ↦ inr (ap chosen_progress same ∙ none) ]
  | inr other ↦ inr (none_chosen c (both_shut s c (λ is. shut (sym (other_gate s y c shuts.torn) ∙ is)) other))
])

pub beside_gate : (s : Bool) (x y : List ℕ) → Torn (progress_place s) 1 x y → slice_index y (progress_place (not s)) ≡ slice_index x (progress_place (not s))
beside_gate true x y torn = other_gate false x y torn
beside_gate false x y torn = other_gate true x y torn

pub on_ok_both : {T E P Q R : Type 0} (r : Result T E) → (P → Q → R) → OnOk r P → OnOk r Q → OnOk r R
on_ok_both (Ok x) f p q = f p q
on_ok_both (Err e) f p q = tt
