-- Where the calls of a site answer that its numbers are spent, they are.
use Rattle.std.proofs.Common.{◌≡◌, ◌⊎◌, inl, inr, ℕ, ◌≤◌, ◌<◌, Bool, true, nat_eq, nat_le, List, [], ◌∷◌, Result, Ok, Err, refl, sym, subst, ◌∙◌, arith, true≢false}
use Rattle.std.specs.Prelude.{IsErrOf, IsOk}
use Rattle.std.proofs.lemmas.Bool.{eqb-true, leb-true, ltb-true, or_cases}
use Rattle.crash_plant.specs.Moments.{PlantState}
use Rattle.pending_queue.specs.Groups.{FormedGroup}
use Rattle.record_rows.specs.Hits.{hit_now}
use Rattle.site_store.specs.declared.store_error.StoreError.{StoreError}
use Rattle.site_store.specs.declared.store_error.StoreError.TheVariants.{Spent}
use Rattle.site_store.specs.Changing.{Suspends}
use Rattle.site_store.specs.Logging.{LogsGroup, StaysUnwritten}
use Rattle.site_store.specs.Marking.{Marks}
use Rattle.site_store.specs.Sites.{SiteState}
use Rattle.site_store.specs.Standing.{StandsFast}
use Rattle.site_store.specs.Placements.{is_spent, is_suspension_spent, most}
use Rattle.site_store.proofs.ByPlacements.{RecordPlacement, by_placements}
use Rattle.mover.specs.Numbers.{IsSiteSpent}

-- One of the numbers is at its end.
abbrev AtEnd : SiteState → Type 0
AtEnd site = (most ≤ site.at.number) ⊎ (site.mark.number ≡ most)

below : (m n : ℕ) → m < n → m ≤ n
below m n low = omega (arith, low)

at_end_by : (site : SiteState) (placement : RecordPlacement) → is_spent placement site ≡ true → AtEnd site
at_end_by site = by_placements (λ (placement : RecordPlacement). is_spent placement site ≡ true → AtEnd site)
    (λ is. inl (below most site.at.number (ltb-true most site.at.number is)))
    (λ is. inl (leb-true most site.at.number is))
    (λ is. elim (or_cases (nat_le most site.at.number) (nat_eq site.mark.number most) is) [
      | inl at ↦ inl (leb-true most site.at.number at)
      | inr mark ↦ inr (eqb-true site.mark.number most mark)
    ])

told_at_end : (site : SiteState) (placement : RecordPlacement) → is_suspension_spent placement site ≡ true → AtEnd site
told_at_end site = by_placements (λ (placement : RecordPlacement). is_suspension_spent placement site ≡ true → AtEnd site)
    (λ is. inl (below most site.at.number (ltb-true most site.at.number is)))
    (λ is. inl (leb-true most site.at.number is))
    (λ is. inr (eqb-true site.mark.number most is))

-- A group isn't logged.
pub log_spent : (tells : Type 0) (group : FormedGroup) (site next : SiteState) (old new : PlantState) (result : Result (Unit {0}) StoreError) → StandsFast tells site old → LogsGroup tells group site next old new result → (IsErrOf result Spent → StaysUnwritten tells site next old new)
    → IsErrOf result Spent → IsSiteSpent tells next new
log_spent tells group site next old new result fast logs unwritten is =
    let stays = unwritten is in
    record {
      at_end = subst (λ (s : SiteState). AtEnd s) (sym stays.same) (at_end_by site logs.placement (logs.first.spent.0 is));
      stands = λ told. let at = fast.stands told in (at.0, stays.leaves.stands told at.0 at.1);
    }

module _ (tells : Type 0) {P : Type 0} (state : P → PlantState) (site next : SiteState) (was is : P) (result : Result (Unit {0}) StoreError) (fast : StandsFast tells site (state was)) where
  -- The site is as it was, and nothing was called.
  spent_here : AtEnd site → (next ≡ site) × (is ≡ was) → IsSiteSpent tells next (state is)
  spent_here at_end same = subst (λ (s : SiteState). IsSiteSpent tells s (state is)) (sym same.0) (subst (λ (p : P). IsSiteSpent tells site (state p)) (sym same.1) (record { at_end = at_end; stands = fast.stands }))

  -- Suspensions aren't told.
  pub suspend_spent : (cut : ℕ) → Suspends cut site next (state was) was is result → (IsErrOf result Spent → (next ≡ site) × (is ≡ was)) → IsErrOf result Spent → IsSiteSpent tells next (state is)
  suspend_spent cut ok uncalled spent = spent_here (by (hit_now site.failed site.told) refl) (uncalled spent)
    where
      never : (r : Result (Unit {0}) StoreError) → IsOk r → IsErrOf r Spent → AtEnd site
      never (Ok value) good spent = cc spent
      never (Err e) good spent = absurd (true≢false (sym good))

      by : (hits : List ℕ) → hit_now site.failed site.told ≡ hits → AtEnd site
      by [] none = never result (ok.nothing none).0 spent
      by (d ∷ hits) some = told_at_end site ok.placement ((ok.spent (λ none. let clash : d ∷ hits ≡ [] = sym some ∙ none in cc clash)).0 spent)

  -- No mark is made.
  pub mark_spent : (ended : Bool) → Marks site next ended was is result → IsErrOf result Spent → IsSiteSpent tells next (state is)
  mark_spent ended ok spent = spent_here (inr (eqb-true site.mark.number most (ok.spent.0 spent))) (ok.nothing spent)
