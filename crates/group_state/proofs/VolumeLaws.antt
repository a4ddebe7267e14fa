-- Look-ups of volumes by their numbers, after a change, a removal and an addition.
use Rattle.std.proofs.Common.{◌≡◌, ℕ, zero, suc, ◌<◌, Bool, true, false, not, cond, nat_eq, ◌&&◌, ◌||◌, List, [], ◌∷◌, ◌++◌, length, get_or, take, Option, Some, None, refl, sym, ap, ◌∙◌, arith, true≢false}
use Rattle.std.specs.Option.{option_map}
use Rattle.std.specs.List.{list_all}
use Rattle.std.proofs.lemmas.Bool.{and_parts, and_from, or_parts, eqb-true, eq-eqb}
use Rattle.group_state.specs.declared.volume.Volume.{Volume}
use Rattle.group_state.specs.Volumes.{is_numbered, volume_of, has_volume, with_volume, without_number, passes, IsPlaceOf}
use Rattle.group_state.specs.SoundStates.{passes_or_none, are_distinct}

-- a change that keeps the number
abbrev pub Keeps : (Volume → Volume) → Type 0
Keeps change = (u : Volume) → (change u).number ≡ u.number

-- ---- numbers

same_number : (v w : ℕ) (u : Volume) → is_numbered v u ≡ true → nat_eq v w ≡ is_numbered w u
same_number v w u e = ap (λ n. nat_eq n w) (sym (eqb-true u.number v e))

other_number : (v w : ℕ) (u : Volume) → is_numbered v u ≡ false → is_numbered w u ≡ true → nat_eq v w ≡ false
other_number v w u e f = choose (nat_eq v w) refl
  where
    choose : (t : Bool) → nat_eq v w ≡ t → t ≡ false
    choose true is = absurd (true≢false (sym f ∙ ap (λ n. is_numbered n u) (sym (eqb-true v w is)) ∙ e))
    choose false is = refl

-- ---- a place

pub place_at : (v : ℕ) (volumes : List Volume) (k : ℕ) (d : Volume) → has_volume v (take k volumes) ≡ false → k < length volumes → (get_or volumes k d).number ≡ v → IsPlaceOf v volumes k
place_at v [] k d none lt is = absurd (omega arith)
place_at v (u ∷ volumes) zero d none lt is =
    let here = eq-eqb u.number v is in
    record { within = lt; found = λ d. rw here refl; changes = λ change d. rw here refl; removes = rw here refl }
place_at v (u ∷ volumes) (suc k) d none lt is =
    let parts = or_parts (is_numbered v u) (has_volume v (take k volumes)) none in
    let rest = place_at v volumes k d parts.1 (omega arith) is in
    record {
      within = lt;
      found = λ d. rw parts.0 (rest.found d);
      changes = λ change d. rw parts.0 (ap (λ (us : List Volume). u ∷ us) (rest.changes change d));
      removes = rw parts.0 (ap (λ (us : List Volume). u ∷ us) rest.removes);
    }

pub none_found : (v : ℕ) (volumes : List Volume) → has_volume v volumes ≡ false → volume_of v volumes ≡ None
none_found v [] none = refl
none_found v (u ∷ volumes) none =
    let parts = or_parts (is_numbered v u) (has_volume v volumes) none in
    rw parts.0 (none_found v volumes parts.1)

pub found_number : (v : ℕ) (volumes : List Volume) (u : Volume) → volume_of v volumes ≡ Some u → u.number ≡ v
found_number v [] u e = absurd cc
found_number v (w ∷ volumes) u e = choose (is_numbered v w) refl (found_number v volumes u) e
  where
    some_is : (a b : Volume) → (let x : Option Volume = Some a in let y : Option Volume = Some b in x ≡ y) → a ≡ b
    some_is a b e = cc

    choose : (t : Bool) → is_numbered v w ≡ t → (volume_of v volumes ≡ Some u → u.number ≡ v) → cond t (Some w) (volume_of v volumes) ≡ Some u → u.number ≡ v
    choose true is rest e = ap (λ (a : Volume). a.number) (sym (some_is w u e)) ∙ eqb-true w.number v is
    choose false is rest e = rest e

pub has_found : (v : ℕ) (volumes : List Volume) (u : Volume) → volume_of v volumes ≡ Some u → has_volume v volumes ≡ true
has_found v [] u e = absurd cc
has_found v (w ∷ volumes) u e = choose (is_numbered v w) (has_found v volumes u) e
  where
    choose : (t : Bool) → (volume_of v volumes ≡ Some u → has_volume v volumes ≡ true) → cond t (Some w) (volume_of v volumes) ≡ Some u → (t || has_volume v volumes) ≡ true
    choose true rest e = refl
    choose false rest e = rest e

pub has_none : (v : ℕ) (volumes : List Volume) → volume_of v volumes ≡ None → has_volume v volumes ≡ false
has_none v [] e = refl
has_none v (w ∷ volumes) e = choose (is_numbered v w) (has_none v volumes) e
  where
    choose : (t : Bool) → (volume_of v volumes ≡ None → has_volume v volumes ≡ false) → cond t (Some w) (volume_of v volumes) ≡ None → (t || has_volume v volumes) ≡ false
    choose true rest e = absurd cc
    choose false rest e = rest e

-- a change of a volume that isn't there
pub none_changed : (v : ℕ) (change : Volume → Volume) (volumes : List Volume) → volume_of v volumes ≡ None → with_volume v change volumes ≡ volumes
none_changed v change [] e = refl
none_changed v change (u ∷ volumes) e = choose (is_numbered v u) (none_changed v change volumes) e
  where
    choose : (t : Bool) → (volume_of v volumes ≡ None → with_volume v change volumes ≡ volumes) → cond t (Some u) (volume_of v volumes) ≡ None → cond t (change u ∷ volumes) (u ∷ with_volume v change volumes) ≡ u ∷ volumes
    choose true rest e = absurd cc
    choose false rest e = ap (λ (us : List Volume). u ∷ us) (rest e)

-- ---- after a change

pub found_with : (v w : ℕ) (change : Volume → Volume) (keeps : Keeps change) (volumes : List Volume)
    → volume_of w (with_volume v change volumes) ≡ cond (nat_eq v w) (option_map change (volume_of w volumes)) (volume_of w volumes)
found_with v w change keeps [] = nothing (nat_eq v w)
  where
    nothing : (t : Bool) → (let gone : Option Volume = None in gone ≡ cond t (option_map change gone) gone)
    nothing true = refl
    nothing false = refl
found_with v w change keeps (u ∷ volumes) = choose (is_numbered v u) refl (is_numbered w u) refl (found_with v w change keeps volumes)
  where
    choose : (t : Bool) → is_numbered v u ≡ t → (s : Bool) → is_numbered w u ≡ s
        → volume_of w (with_volume v change volumes) ≡ cond (nat_eq v w) (option_map change (volume_of w volumes)) (volume_of w volumes)
        → volume_of w (cond t (change u ∷ volumes) (u ∷ with_volume v change volumes)) ≡ cond (nat_eq v w) (option_map change (cond s (Some u) (volume_of w volumes))) (cond s (Some u) (volume_of w volumes))
    choose true is true at rest = rw (keeps u, at, same_number v w u is, at) refl
    choose true is false at rest = rw (keeps u, at, same_number v w u is, at) refl
    choose false is true at rest = rw (at, other_number v w u is at) refl
    choose false is false at rest = rw at rest

pub has_with : (v w : ℕ) (change : Volume → Volume) (keeps : Keeps change) (volumes : List Volume) → has_volume w (with_volume v change volumes) ≡ has_volume w volumes
has_with v w change keeps [] = refl
has_with v w change keeps (u ∷ volumes) = choose (is_numbered v u) (has_with v w change keeps volumes)
  where
    choose : (t : Bool) → has_volume w (with_volume v change volumes) ≡ has_volume w volumes → has_volume w (cond t (change u ∷ volumes) (u ∷ with_volume v change volumes)) ≡ (is_numbered w u || has_volume w volumes)
    choose true rest = ap (λ n. nat_eq n w || has_volume w volumes) (keeps u)
    choose false rest = ap (λ b. is_numbered w u || b) rest

pub distinct_with : (v : ℕ) (change : Volume → Volume) (keeps : Keeps change) (volumes : List Volume) → are_distinct (with_volume v change volumes) ≡ are_distinct volumes
distinct_with v change keeps [] = refl
distinct_with v change keeps (u ∷ volumes) = choose (is_numbered v u) (distinct_with v change keeps volumes)
  where
    choose : (t : Bool) → are_distinct (with_volume v change volumes) ≡ are_distinct volumes
        → are_distinct (cond t (change u ∷ volumes) (u ∷ with_volume v change volumes)) ≡ (not (has_volume u.number volumes) && are_distinct volumes)
    choose true rest = ap (λ n. not (has_volume n volumes) && are_distinct volumes) (keeps u)
    choose false rest = rw (has_with v u.number change keeps volumes, rest) refl

pub all_with : (test : Volume → Bool) (v : ℕ) (change : Volume → Volume) → ((u : Volume) → test u ≡ true → test (change u) ≡ true) → (volumes : List Volume) → list_all test volumes ≡ true → list_all test (with_volume v change volumes) ≡ true
all_with test v change up [] e = refl
all_with test v change up (u ∷ volumes) e =
    let parts = and_parts (test u) (list_all test volumes) e in
    choose (is_numbered v u) parts.0 parts.1 (all_with test v change up volumes parts.1)
  where
    choose : (t : Bool) → test u ≡ true → list_all test volumes ≡ true → list_all test (with_volume v change volumes) ≡ true → list_all test (cond t (change u ∷ volumes) (u ∷ with_volume v change volumes)) ≡ true
    choose true here rest changed = and_from (test (change u)) (list_all test volumes) (up u here) rest
    choose false here rest changed = and_from (test u) (list_all test (with_volume v change volumes)) here changed

-- what the found volume passes
pub passes_with : (test after : Volume → Bool) (v w : ℕ) (change : Volume → Volume) (keeps : Keeps change) → ((u : Volume) → test u ≡ true → after u ≡ true) → ((u : Volume) → test u ≡ true → after (change u) ≡ true)
    → (volumes : List Volume) → passes test (volume_of w volumes) ≡ true → passes after (volume_of w (with_volume v change volumes)) ≡ true
passes_with test after v w change keeps same up volumes e = rw (found_with v w change keeps volumes) (choose (nat_eq v w) (volume_of w volumes) e)
  where
    choose : (t : Bool) (o : Option Volume) → passes test o ≡ true → passes after (cond t (option_map change o) o) ≡ true
    choose t None e = absurd cc
    choose true (Some u) e = up u e
    choose false (Some u) e = same u e

pub same_or_none : (test : Volume → Bool) (v w : ℕ) (change : Volume → Volume) (keeps : Keeps change) → ((u : Volume) → test (change u) ≡ test u) → (volumes : List Volume)
    → passes_or_none test (volume_of w (with_volume v change volumes)) ≡ passes_or_none test (volume_of w volumes)
same_or_none test v w change keeps same volumes = rw (found_with v w change keeps volumes) (choose (nat_eq v w) (volume_of w volumes))
  where
    choose : (t : Bool) (o : Option Volume) → passes_or_none test (cond t (option_map change o) o) ≡ passes_or_none test o
    choose true None = refl
    choose false None = refl
    choose true (Some u) = same u
    choose false (Some u) = refl

-- what the volumes of other numbers pass, and the one of this number
pub or_none_with : (test after : Volume → Bool) (v w : ℕ) (change : Volume → Volume) (keeps : Keeps change) → (nat_eq v w ≡ true → (u : Volume) → test u ≡ true → after (change u) ≡ true)
    → (nat_eq v w ≡ false → (u : Volume) → test u ≡ true → after u ≡ true) → (volumes : List Volume) → passes_or_none test (volume_of w volumes) ≡ true → passes_or_none after (volume_of w (with_volume v change volumes)) ≡ true
or_none_with test after v w change keeps here there volumes e = rw (found_with v w change keeps volumes) (choose (nat_eq v w) refl (volume_of w volumes) e)
  where
    choose : (t : Bool) → nat_eq v w ≡ t → (o : Option Volume) → passes_or_none test o ≡ true → passes_or_none after (cond t (option_map change o) o) ≡ true
    choose true is None e = refl
    choose false is None e = refl
    choose true is (Some u) e = here is u e
    choose false is (Some u) e = there is u e

-- ---- one more, and one less

pub found_after : (w : ℕ) (volumes : List Volume) (u : Volume) → has_volume u.number volumes ≡ false → volume_of w (volumes ++ u ∷ []) ≡ cond (is_numbered w u) (Some u) (volume_of w volumes)
found_after w [] u none = refl
found_after w (x ∷ volumes) u none =
    let parts = or_parts (is_numbered u.number x) (has_volume u.number volumes) none in
    choose (is_numbered w x) refl (is_numbered w u) refl parts.0 (found_after w volumes u parts.1)
  where
    choose : (t : Bool) → is_numbered w x ≡ t → (s : Bool) → is_numbered w u ≡ s → is_numbered u.number x ≡ false → volume_of w (volumes ++ u ∷ []) ≡ cond (is_numbered w u) (Some u) (volume_of w volumes)
        → cond t (Some x) (volume_of w (volumes ++ u ∷ [])) ≡ cond s (Some u) (cond t (Some x) (volume_of w volumes))
    choose true at true is other rest = absurd (true≢false (sym at ∙ ap (λ n. is_numbered n x) (sym (eqb-true u.number w is)) ∙ other))
    choose true at false is other rest = refl
    choose false at true is other rest = rest ∙ rw is refl
    choose false at false is other rest = rest ∙ rw is refl

pub has_after : (w : ℕ) (volumes : List Volume) (u : Volume) → has_volume w (volumes ++ u ∷ []) ≡ (has_volume w volumes || is_numbered w u)
has_after w [] u = choose (is_numbered w u)
  where
    choose : (t : Bool) → (t || false) ≡ (false || t)
    choose true = refl
    choose false = refl
has_after w (x ∷ volumes) u = choose (is_numbered w x) (has_after w volumes u)
  where
    choose : (t : Bool) → has_volume w (volumes ++ u ∷ []) ≡ (has_volume w volumes || is_numbered w u) → (t || has_volume w (volumes ++ u ∷ [])) ≡ ((t || has_volume w volumes) || is_numbered w u)
    choose true rest = refl
    choose false rest = rest

pub distinct_after : (volumes : List Volume) (u : Volume) → has_volume u.number volumes ≡ false → are_distinct volumes ≡ true → are_distinct (volumes ++ u ∷ []) ≡ true
distinct_after [] u none e = refl
distinct_after (x ∷ volumes) u none e =
    let parts = or_parts (is_numbered u.number x) (has_volume u.number volumes) none in
    let both = and_parts (not (has_volume x.number volumes)) (are_distinct volumes) e in
    let other : is_numbered x.number u ≡ false = swapped u.number x.number parts.0 in
    and_from (not (has_volume x.number (volumes ++ u ∷ []))) (are_distinct (volumes ++ u ∷ [])) (ap not (has_after x.number volumes u ∙ ap (λ b. has_volume x.number volumes || b) other ∙ or_no (has_volume x.number volumes)) ∙ both.0) (distinct_after volumes u parts.1 both.1)
  where
    or_no : (b : Bool) → (b || false) ≡ b
    or_no true = refl
    or_no false = refl

    swapped : (a b : ℕ) → nat_eq b a ≡ false → nat_eq a b ≡ false
    swapped a b e = choose (nat_eq a b) refl
      where
        choose : (t : Bool) → nat_eq a b ≡ t → t ≡ false
        choose true is = absurd (true≢false (sym (eq-eqb b a (sym (eqb-true a b is))) ∙ e))
        choose false is = refl

pub has_without : (v w : ℕ) (volumes : List Volume) → has_volume w volumes ≡ false → has_volume w (without_number v volumes) ≡ false
has_without v w [] none = refl
has_without v w (u ∷ volumes) none =
    let parts = or_parts (is_numbered w u) (has_volume w volumes) none in
    choose (is_numbered v u) parts.0 parts.1 (has_without v w volumes parts.1)
  where
    choose : (t : Bool) → is_numbered w u ≡ false → has_volume w volumes ≡ false → has_volume w (without_number v volumes) ≡ false → has_volume w (cond t volumes (u ∷ without_number v volumes)) ≡ false
    choose true other none rest = none
    choose false other none rest = rw (other, rest) refl

pub distinct_without : (v : ℕ) (volumes : List Volume) → are_distinct volumes ≡ true → are_distinct (without_number v volumes) ≡ true
distinct_without v [] e = refl
distinct_without v (u ∷ volumes) e =
    let both = and_parts (not (has_volume u.number volumes)) (are_distinct volumes) e in
    choose (is_numbered v u) both.0 both.1 (distinct_without v volumes both.1)
  where
    none_of : (b : Bool) → not b ≡ true → b ≡ false
    none_of true e = absurd cc
    none_of false e = refl

    choose : (t : Bool) → not (has_volume u.number volumes) ≡ true → are_distinct volumes ≡ true → are_distinct (without_number v volumes) ≡ true → are_distinct (cond t volumes (u ∷ without_number v volumes)) ≡ true
    choose true none rest less = rest
    choose false none rest less = and_from (not (has_volume u.number (without_number v volumes))) (are_distinct (without_number v volumes)) (ap not (has_without v u.number volumes (none_of (has_volume u.number volumes) none))) less

pub all_without : (test : Volume → Bool) (v : ℕ) (volumes : List Volume) → list_all test volumes ≡ true → list_all test (without_number v volumes) ≡ true
all_without test v [] e = refl
all_without test v (u ∷ volumes) e =
    let parts = and_parts (test u) (list_all test volumes) e in
    choose (is_numbered v u) parts.0 parts.1 (all_without test v volumes parts.1)
  where
    choose : (t : Bool) → test u ≡ true → list_all test volumes ≡ true → list_all test (without_number v volumes) ≡ true → list_all test (cond t volumes (u ∷ without_number v volumes)) ≡ true
    choose true here rest less = rest
    choose false here rest less = and_from (test u) (list_all test (without_number v volumes)) here less

-- The volume is gone; the others are found as before.
pub found_without : (v w : ℕ) (volumes : List Volume) → are_distinct volumes ≡ true → volume_of w (without_number v volumes) ≡ cond (nat_eq v w) None (volume_of w volumes)
found_without v w [] e = nothing (nat_eq v w)
  where
    nothing : (t : Bool) → (let gone : Option Volume = None in gone ≡ cond t gone gone)
    nothing true = refl
    nothing false = refl
found_without v w (u ∷ volumes) e =
    let both = and_parts (not (has_volume u.number volumes)) (are_distinct volumes) e in
    choose (is_numbered v u) refl (is_numbered w u) refl both.0 (found_without v w volumes both.1)
  where
    none_of : (b : Bool) → not b ≡ true → b ≡ false
    none_of true e = absurd cc
    none_of false e = refl

    choose : (t : Bool) → is_numbered v u ≡ t → (s : Bool) → is_numbered w u ≡ s → not (has_volume u.number volumes) ≡ true
        → volume_of w (without_number v volumes) ≡ cond (nat_eq v w) None (volume_of w volumes)
        → volume_of w (cond t volumes (u ∷ without_number v volumes)) ≡ cond (nat_eq v w) None (cond s (Some u) (volume_of w volumes))
    choose true is true at none rest = rw (same_number v w u is, at) (none_found w volumes (ap (λ n. has_volume n volumes) (sym (eqb-true u.number w at)) ∙ none_of (has_volume u.number volumes) none))
    choose true is false at none rest = rw (same_number v w u is, at) refl
    choose false is true at none rest = rw (at, other_number v w u is at) refl
    choose false is false at none rest = rw at rest
