-- The moments of a run up to one and after it.
use Rattle.std.proofs.Common.{◌≡◌, ◌⊎◌, inl, inr, ℕ, ◌<◌, ◌≤◌, List, ap, arith}
use Rattle.std.specs.Coded.{le_prop}
use Rattle.std.proofs.lemmas.Bool.{cases_lt}
use Rattle.crash_plant.specs.Moments.{PlantState}
use Rattle.consistency.specs.Stages.{ScriptRun}
use Rattle.consistency.specs.Courses.{Answered}
use Rattle.consistency.specs.Moments.{AllMeanTable, FirstMeans, MomentBears}

pub itself : (n : ℕ) → n ≤ n
itself n = omega arith

module _ (run : ScriptRun) (lines : List Answered) (old new : PlantState) (middle : ℕ) (begins : old.clock ≤ middle) (ends : middle ≤ new.clock)
    (early : (t : ℕ) → old.clock ≤ t → t ≤ middle → MomentBears run lines old new t) (late : (t : ℕ) → old.clock ≤ t → middle < t → t ≤ new.clock → MomentBears run lines old new t) where
  abbrev pub moment_in : (t : ℕ) → old.clock ≤ t → t ≤ new.clock → (middle < t) ⊎ (t ≤ middle) → MomentBears run lines old new t
  moment_in t from to (inl after) = late t from after to
  moment_in t from to (inr before) = early t from before

  abbrev pub joined : (t : ℕ) → old.clock ≤ t → t ≤ new.clock → MomentBears run lines old new t
  joined t from to = moment_in t from to (cases_lt middle t)

  -- Up to the middle they are the early ones.
  answered_early : (t : ℕ) (from : old.clock ≤ t) (to : t ≤ new.clock) (before : t ≤ middle) (side : (middle < t) ⊎ (t ≤ middle)) → (moment_in t from to side).at.answered ≡ (early t from before).at.answered
  answered_early t from to before (inl after) = absurd (omega (arith, after, before))
  answered_early t from to before (inr here) = ap (λ (p : t ≤ middle). (early t from p).at.answered) (le_prop here before)

  -- What holds of each early and of each late moment holds of each.
  pub each_joined : (P : (t : ℕ) → MomentBears run lines old new t → Type 0) → ((t : ℕ) (from : old.clock ≤ t) (before : t ≤ middle) → P t (early t from before))
      → ((t : ℕ) (from : old.clock ≤ t) (after : middle < t) (to : t ≤ new.clock) → P t (late t from after to)) → (t : ℕ) (from : old.clock ≤ t) (to : t ≤ new.clock) → P t (joined t from to)
  each_joined P first then t from to = by_side (cases_lt middle t)
    where
      by_side : (side : (middle < t) ⊎ (t ≤ middle)) → P t (moment_in t from to side)
      by_side (inl after) = then t from after to
      by_side (inr before) = first t from before

  -- At the first moment of a reply the choices mean the table, where they do at an early one, and at a late one that has more lines
  -- answered than the middle.
  pub first_joined : ((t : ℕ) (from : old.clock ≤ t) (before : t ≤ middle) → ((r : ℕ) (since : old.clock ≤ r) (within : r ≤ middle) → r < t → (early r since within).at.answered < (early t from before).at.answered)
      → AllMeanTable run lines old new t (early t from before))
      → ((t : ℕ) (from : old.clock ≤ t) (after : middle < t) (to : t ≤ new.clock) → (early middle begins (itself middle)).at.answered < (late t from after to).at.answered → AllMeanTable run lines old new t (late t from after to))
      → FirstMeans run lines old new joined
  first_joined first then t from to leads = by_side (cases_lt middle t) leads
    where
      by_side : (side : (middle < t) ⊎ (t ≤ middle)) → ((r : ℕ) (since : old.clock ≤ r) (within : r ≤ new.clock) → r < t → (joined r since within).at.answered < (moment_in t from to side).at.answered)
          → AllMeanTable run lines old new t (moment_in t from to side)
      by_side (inl after) leads = then t from after to (omega (arith, leads middle begins ends after, answered_early middle begins ends (itself middle) (cases_lt middle middle)))
      by_side (inr before) leads = first t from before (λ r since within less.
          let reaches : r ≤ new.clock = omega (arith, within, ends) in
          omega (arith, leads r since reaches less, answered_early r since reaches within (cases_lt middle r)))

  -- The last moment is the middle, or a late one.
  pub last_joined : (P : (t : ℕ) → MomentBears run lines old new t → Type 0) → ((from : old.clock ≤ new.clock) (before : new.clock ≤ middle) → P new.clock (early new.clock from before))
      → ((from : old.clock ≤ new.clock) (after : middle < new.clock) (to : new.clock ≤ new.clock) → P new.clock (late new.clock from after to)) → (from : old.clock ≤ new.clock) (to : new.clock ≤ new.clock) → P new.clock (joined new.clock from to)
  last_joined P first then from to = by_side (cases_lt middle new.clock)
    where
      by_side : (side : (middle < new.clock) ⊎ (new.clock ≤ middle)) → P new.clock (moment_in new.clock from to side)
      by_side (inl after) = then from after to
      by_side (inr before) = first from before
