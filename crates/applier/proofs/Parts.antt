-- What holds of jobs one after another, and of each job of the parts of a list.
use Rattle.std.proofs.Common.{◌≡◌, ◌⊎◌, ℕ, ◌+◌, ◌-◌, ◌<◌, ◌≤◌, inl, inr, List, ◌++◌, length, get_or, set, refl, sym, ◌∙◌, subst, arith, length-set, length-append}
use Rattle.std.proofs.lemmas.Bool.{cases_lt}
use Rattle.std.proofs.lemmas.List.{get_or_default, get_or-set_other, get_or-set_same, get_or_append_left, get_or-append_right}
use Rattle.xrc_journal.specs.declared.job.VolumeJob.{VolumeJob}
use Rattle.applier.specs.Sides.{HoldsOfEach}

-- This holds of the jobs before a place, and the others are as they were.
pub record HoldsBefore {D : Type 0} (holds : VolumeJob D → VolumeJob D → Type 0) (place : ℕ) (old now : List (VolumeJob D)) : Type 0 where
  pub same : length now ≡ length old
  pub done : (i : ℕ) (d : VolumeJob D) → i < place → holds (get_or old i d) (get_or now i d)
  pub rest : (i : ℕ) (d : VolumeJob D) → place ≤ i → get_or now i d ≡ get_or old i d

module _ {D : Type 0} (holds : VolumeJob D → VolumeJob D → Type 0) where
  -- one job more
  pub before_more : (place : ℕ) (old now : List (VolumeJob D)) (d new : VolumeJob D) → place < length now → holds (get_or now place d) new → HoldsBefore holds place old now → HoldsBefore holds (place + 1) old (set now place new)
  before_more place old now d new there held b = record {
    same = length-set now place new ∙ b.same;
    done = λ i e less. by_place i e (cases_lt i place) less;
    rest = λ i e from. get_or-set_other now place i new e (λ is. omega (arith, from, is)) ∙ b.rest i e (omega (arith, from));
  }
    where
      by_place : (i : ℕ) (e : VolumeJob D) → (i < place) ⊎ (place ≤ i) → i < place + 1 → holds (get_or old i e) (get_or (set now place new) i e)
      by_place i e (inl before) less = subst (λ (j : VolumeJob D). holds (get_or old i e) j) (sym (get_or-set_other now place i new e (λ is. omega (arith, before, is)))) (b.done i e before)
      by_place i e (inr from) less =
          subst (λ (n : ℕ). holds (get_or old n e) (get_or (set now place new) n e)) (omega (arith, from, less))
          (subst (λ (j : VolumeJob D). holds (get_or old place e) j) (sym (get_or-set_same now place new e there))
          (subst (λ (j : VolumeJob D). holds j new) (get_or_default now place d e there ∙ b.rest place e (omega arith)) held))

  module _ (old front back front' back' : List (VolumeJob D)) (parts : old ≡ front ++ back) (first : HoldsOfEach holds front front') (second : HoldsOfEach holds back back') where
    -- both parts
    pub of_parts : HoldsOfEach holds old (front' ++ back')
    of_parts = subst (λ (jobs : List (VolumeJob D)). HoldsOfEach holds jobs (front' ++ back')) (sym parts) (record {
      same = omega (arith, length-append front back, length-append front' back', first.same, second.same);
      each = at;
    })
      where
        at : (i : ℕ) (d : VolumeJob D) → i < length (front ++ back) → holds (get_or (front ++ back) i d) (get_or (front' ++ back') i d)
        at i d less = elim (cases_lt i (length front)) [
          | inl before ↦ subst (λ (j : VolumeJob D). holds j (get_or (front' ++ back') i d)) (sym (get_or_append_left front back d i before))
              (subst (λ (j : VolumeJob D). holds (get_or front i d) j) (sym (get_or_append_left front' back' d i (omega (arith, before, first.same)))) (first.each i d before))
          | inr after ↦ subst (λ (j : VolumeJob D). holds j (get_or (front' ++ back') i d)) (sym (get_or-append_right front back (length front) i d refl after))
              (subst (λ (j : VolumeJob D). holds (get_or back (i - length front) d) j) (sym (get_or-append_right front' back' (length front) i d first.same after))
              (second.each (i - length front) d (omega (arith, less, after, length-append front back))))
        ]
