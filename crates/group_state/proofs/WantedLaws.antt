-- The next wanted track of a controller's volumes is wanted, and there is none exactly where no volume wants one.
use Rattle.std.proofs.Common.{◌≡◌, ℕ, Bool, true, false, true≢false, cond, ◌&&◌, not, List, [], ◌∷◌, Option, Some, None, refl, sym, ap, subst, ◌∙◌, arith}
use Rattle.std.specs.Prelude.{IfSome, ◌↔◌}
use Rattle.std.proofs.lemmas.Bool.{and_parts, not-true, eqb-true, eq-eqb}
use Rattle.change_map.specs.Sets.{has_track, least_from}
use Rattle.change_map.proofs.InSets.{least_is_some, least_is_none}
use Rattle.group_state.specs.declared.volume.Volume.{Volume}
use Rattle.group_state.specs.Volumes.{is_numbered, volume_of, has_volume, passes, wants, is_wanted, next_in, first_wanted, next_wanted}
use Rattle.group_state.specs.SoundStates.{are_distinct}
use Rattle.group_state.proofs.VolumeLaws.{none_found}

-- ---- one volume

next_wants : (u : Volume) (x : ℕ) → next_in u ≡ Some x → wants x u ≡ true
next_wants u x is = choose u.carried is
  where
    choose : (t : Bool) → cond t (least_from u.plan.wanted 0) None ≡ Some x → (t && has_track u.plan.wanted x) ≡ true
    choose true is = (least_is_some u.plan.wanted 0 x is).is_had
    choose false is = absurd cc

none_wants : (u : Volume) → next_in u ≡ None → (x : ℕ) → wants x u ≡ false
none_wants u is x = choose u.carried is
  where
    choose : (t : Bool) → cond t (least_from u.plan.wanted 0) None ≡ None → (t && has_track u.plan.wanted x) ≡ false
    choose true is = least_is_none u.plan.wanted 0 is x (omega arith)
    choose false is = refl

-- ---- all volumes

-- What a volume after the first one wants is wanted, since no two have one number.
wanted_after : (u : Volume) (volumes : List Volume) → has_volume u.number volumes ≡ false → (v x : ℕ) → is_wanted v x volumes ≡ true → is_wanted v x (u ∷ volumes) ≡ true
wanted_after u volumes none v x wanted = choose (is_numbered v u) refl
  where
    choose : (t : Bool) → is_numbered v u ≡ t → passes (wants x) (cond t (Some u) (volume_of v volumes)) ≡ true
    choose true is = absurd (true≢false (sym wanted ∙ ap (passes (wants x)) (none_found v volumes (ap (λ n. has_volume n volumes) (sym (eqb-true u.number v is)) ∙ none))))
    choose false is = wanted

next_is : (volumes : List Volume) → are_distinct volumes ≡ true → IfSome (next_wanted volumes) (λ p. is_wanted p.0 p.1 volumes ≡ true)
next_is [] distinct = tt
next_is (u ∷ volumes) distinct =
    let parts = and_parts (not (has_volume u.number volumes)) (are_distinct volumes) distinct in
    choose (next_in u) refl (next_wanted volumes) (not-true (has_volume u.number volumes) parts.0) (next_is volumes parts.1)
  where
    choose : (o : Option ℕ) → next_in u ≡ o → (later : Option (ℕ × ℕ)) → has_volume u.number volumes ≡ false → IfSome later (λ p. is_wanted p.0 p.1 volumes ≡ true)
        → IfSome (first_wanted u.number o later) (λ p. is_wanted p.0 p.1 (u ∷ volumes) ≡ true)
    choose None is None none rest = tt
    choose None is (Some p) none rest = wanted_after u volumes none p.0 p.1 rest
    choose (Some x) is later none rest = rw (eq-eqb u.number u.number refl) (next_wants u x is)

none_next : (volumes : List Volume) → next_wanted volumes ≡ None → (v x : ℕ) → is_wanted v x volumes ≡ false
none_next [] is v x = refl
none_next (u ∷ volumes) is v x = choose (next_in u) refl (none_next volumes) is
  where
    by_number : (t : Bool) → next_in u ≡ None → is_wanted v x volumes ≡ false → passes (wants x) (cond t (Some u) (volume_of v volumes)) ≡ false
    by_number true none rest = none_wants u none x
    by_number false none rest = rest

    choose : (o : Option ℕ) → next_in u ≡ o → (next_wanted volumes ≡ None → (v x : ℕ) → is_wanted v x volumes ≡ false) → first_wanted u.number o (next_wanted volumes) ≡ None → is_wanted v x (u ∷ volumes) ≡ false
    choose None here rest is = by_number (is_numbered v u) here (rest is v x)
    choose (Some y) here rest is = absurd cc

-- ---- the answers

pub answer_wanted : (volumes : List Volume) → are_distinct volumes ≡ true → (r : Option (ℕ × ℕ)) → r ≡ next_wanted volumes → IfSome r (λ p. is_wanted p.0 p.1 volumes ≡ true)
answer_wanted volumes distinct r is = subst (λ (o : Option (ℕ × ℕ)). IfSome o (λ p. is_wanted p.0 p.1 volumes ≡ true)) (sym is) (next_is volumes distinct)

pub answer_none : (volumes : List Volume) → are_distinct volumes ≡ true → (r : Option (ℕ × ℕ)) → r ≡ next_wanted volumes → (r ≡ None) ↔ ((v x : ℕ) → is_wanted v x volumes ≡ false)
answer_none volumes distinct r is = (λ none. none_next volumes (sym is ∙ none), λ nothing. choose r nothing (answer_wanted volumes distinct r is))
  where
    choose : (o : Option (ℕ × ℕ)) → ((v x : ℕ) → is_wanted v x volumes ≡ false) → IfSome o (λ p. is_wanted p.0 p.1 volumes ≡ true) → o ≡ None
    choose None nothing wanted = refl
    choose (Some p) nothing wanted = absurd (true≢false (sym wanted ∙ nothing p.0 p.1))
