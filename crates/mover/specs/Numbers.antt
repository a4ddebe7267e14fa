-- How many numbers of records and of marks calls use up, and where they are spent.
use Rattle.std.specs.Prelude.{◌≡◌, ◌⊎◌, ℕ, ◌+◌, ◌*◌, ◌≤◌, List, count_by, map, Bool, true, false, Result, OnOk, IsErrOf}
use Rattle.crash_plant.specs.Moments.{PlantState}
use Rattle.group_state.specs.Machine.{Call}
use Rattle.group_state.specs.Machine.Call.{Join, NextWanted, Copied, Raise, Break, Form, Carry, Drop, Resume, Forget}
use Rattle.group_state.specs.Runs.{Answer}
use Rattle.turn_group.specs.Calls.{as_answer}
use Rattle.turn_group.specs.Seats.{MoverSeatState}
use Rattle.site_store.specs.declared.store_error.StoreError.{StoreError}
use Rattle.site_store.specs.declared.store_error.StoreError.TheVariants.{Spent}
use Rattle.site_store.specs.Exceptions.{Exceptions}
use Rattle.site_store.specs.Sites.{SiteState}
use Rattle.site_store.specs.Standing.{SiteStands}
use Rattle.site_store.specs.Placements.{most}

-- ---- forms

abbrev pub is_form : Call → Bool
is_form (Join b) = false
is_form (NextWanted k) = false
is_form (Copied k v x at slot) = false
is_form (Raise k upto) = false
is_form (Break k upto cause) = false
is_form (Form limit) = true
is_form (Carry k v plan) = false
is_form (Drop k v all) = false
is_form (Resume k v) = false
is_form (Forget k v) = false

-- how many of the calls are forms
abbrev pub forms_among : List Answer → ℕ
forms_among answers = count_by (λ answer. is_form answer.call) answers

-- ---- numbers

-- Calls use up at most so many numbers of records and of marks. They answer Spent only where the greatest number is that near.
pub record UsesUpTo (records marks : ℕ) (site after : SiteState) (result : Result (Unit {0}) StoreError) : Type 0 where
  pub within : OnOk result ((after.at.number ≤ site.at.number + records) × (after.mark.number ≤ site.mark.number + marks))
  pub spent : IsErrOf result Spent → (most ≤ site.at.number + records) ⊎ (most ≤ site.mark.number + marks)

-- Calls of the mover with so many forms use up at most so many.
pub record FormsUse (forms records marks : ℕ) (seat next : MoverSeatState) (site after : SiteState) (result : Result (Unit {0}) StoreError) : Type 0 where
  pub made : forms_among (map as_answer next.calls) ≡ forms_among (map as_answer seat.calls) + forms
  pub uses : UsesUpTo records marks site after result

-- Numbers are used up by forms alone: for each at most four of records and three of marks.
abbrev pub UsesNumbers : (seat next : MoverSeatState) → (site after : SiteState) → Result (Unit {0}) StoreError → Type 0
UsesNumbers seat next site after result = (forms : ℕ) × FormsUse forms (4 * forms) (3 * forms) seat next site after result

-- The same of calls that were kept in one list.
abbrev pub UsesNumbersOf : List Answer → (site after : SiteState) → Result (Unit {0}) StoreError → Type 0
UsesNumbersOf answers site after result = UsesUpTo (4 * forms_among answers) (3 * forms_among answers) site after result

-- ---- spent numbers

-- The next record would need a number after the greatest, with the switch that it may need, or the next mark would. The devices tell these
-- numbers, since every crash leaves the site.
pub record IsSiteSpent (tells : Type 0) (site : SiteState) (plant : PlantState) : Type 0 where
  pub at_end : (most ≤ site.at.number) ⊎ (site.mark.number ≡ most)
  pub stands : tells → (excepted : Exceptions) × SiteStands excepted site plant
