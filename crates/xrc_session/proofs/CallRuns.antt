-- Calls in a row, one part after the other.
use Rattle.std.proofs.Common.{◌≡◌, ℕ, ◌+◌, ◌<◌, List, [], ◌∷◌, ◌++◌, drop, get_or, length, refl, sym, ap, subst, ◌∙◌}
use Rattle.std.specs.List.{flat_map}
use Rattle.std.proofs.lemmas.List.{at_drop_more}
use Rattle.group_state.specs.Groups.{Group}
use Rattle.group_state.specs.Machine.{Call, group_after}
use Rattle.xrc_session.specs.Taking.{AllMay, after_calls}

pub first_may : (first second : List Call) (s : Group) → AllMay (first ++ second) s → AllMay first s
first_may [] second s may = tt
first_may (call ∷ first) second s may = (may.0, first_may first second (group_after s call) may.1)

pub second_may : (first second : List Call) (s : Group) → AllMay (first ++ second) s → AllMay second (after_calls first s)
second_may [] second s may = may
second_may (call ∷ first) second s may = second_may first second (group_after s call) may.1

pub after_both : (first second : List Call) (s : Group) → after_calls (first ++ second) s ≡ after_calls second (after_calls first s)
after_both [] second s = refl
after_both (call ∷ first) second s = after_both first second (group_after s call)

-- the calls of one item, and those that are left after it
pub record IsNext {X : Type 0} (f : X → List Call) (items : List X) (i : ℕ) (x : X) (s : Group) : Type 0 where
  pub may : AllMay (f x) s
  pub later : AllMay (flat_map f (drop (i + 1) items)) (after_calls (f x) s)

pub next_may : {X : Type 0} (f : X → List Call) (items : List X) (i : ℕ) (x : X) (s : Group) → i < length items → get_or items i x ≡ x → AllMay (flat_map f (drop i items)) s → IsNext f items i x s
next_may f items i x s low is may =
    let all : AllMay (f x ++ flat_map f (drop (i + 1) items)) s =
    subst (λ (calls : List Call). AllMay calls s) (at_drop_more (flat_map f) items i x low ∙ ap (λ y. f y ++ flat_map f (drop (i + 1) items)) is) may in
    record { may = first_may (f x) (flat_map f (drop (i + 1) items)) s all; later = second_may (f x) (flat_map f (drop (i + 1) items)) s all }

pub next_leads : {X : Type 0} (f : X → List Call) (items : List X) (i : ℕ) (x : X) (s : Group) → i < length items → get_or items i x ≡ x
    → after_calls (flat_map f (drop (i + 1) items)) (after_calls (f x) s) ≡ after_calls (flat_map f (drop i items)) s
next_leads f items i x s low is =
    sym (after_both (f x) (flat_map f (drop (i + 1) items)) s)
    ∙ ap (λ (calls : List Call). after_calls calls s) (sym (at_drop_more (flat_map f) items i x low ∙ ap (λ y. f y ++ flat_map f (drop (i + 1) items)) is))
