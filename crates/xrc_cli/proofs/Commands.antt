-- What each command leaves at home, and that none of them ends as other words do.
use Rattle.std.proofs.Common.{◌≢◌, ◌∙◌, ℕ, List, IsTrue, subst, arith}
use Rattle.crash_plant.specs.Calls.{NoneLent}
use Rattle.crash_plant.specs.Moments.{PlantState}
use Rattle.crash_plant.proofs.Steps.{none_lent_console}
use Rattle.volume_label.specs.declared.label.Label.{Label}
use Rattle.xrecover.specs.declared.labelling.Labelling.{Labelling}
use Rattle.xrc_recovery.specs.Copies.{EndsCopy, ends_copy}
use Rattle.xrc_recovery.specs.Queries.{EndsQuery, ends_query}
use Rattle.xrc_recovery.specs.Statuses.{EndsRecovery, ends_recovery}
use Rattle.xrc_cli.specs.Generating.{EndsGenerating}
use Rattle.xrc_cli.specs.Generating.EndsGenerating.{ConsoleFailed, Done, WantsMemory}
use Rattle.xrc_cli.specs.Labelling.{EndsLabelling, ends_labelling}

-- ---- volumes at home

pub home_recovered : (tells : Type 0) (labelling : Labelling) (session : List ℕ) (a b : PlantState) (status : ℕ) → NoneLent a → EndsRecovery tells labelling session a b status → NoneLent b
home_recovered tells labelling session a b status none ends = ends.changes.home none

pub home_copied : (tells : Type 0) (session : List ℕ) (shift : ℕ) (a b : PlantState) (status : ℕ) → NoneLent a → EndsCopy tells session shift a b status → NoneLent b
home_copied tells session shift a b status none ends = ends.changes.home none

pub home_queried : (tells : Type 0) (session : List ℕ) (a b : PlantState) (status : ℕ) → NoneLent a → EndsQuery tells session a b status → NoneLent b
home_queried tells session a b status none ends = ends.changes.home none

pub home_labelled : (tells : Type 0) (device : ℕ) (label : Label) (a b : PlantState) (status : ℕ) → NoneLent a → EndsLabelling tells device label a b status → NoneLent b
home_labelled tells device label a b status none ends = λ v below. (ends.writes.loans v).is_lent ∙ none v (omega (arith, below, ends.writes.site.volumes))

pub home_generated : (tells : Type 0) (number : ℕ) (a b : PlantState) (status : ℕ) → NoneLent a → EndsGenerating tells number a b status → NoneLent b
home_generated tells number a b _ none (Done line sums says) = none_lent_console tells a b says.front.only none
home_generated tells number a b _ none (WantsMemory says) = none_lent_console tells a b says.front.only none
home_generated tells number a b _ none (ConsoleFailed line sums says rose once) = none_lent_console tells a b says.only none

-- ---- statuses

pub known_recovered : (tells : Type 0) (labelling : Labelling) (session : List ℕ) (a b : PlantState) (status : ℕ) → EndsRecovery tells labelling session a b status → status ≢ 2
known_recovered tells labelling session a b status ends is = let known : IsTrue (ends_recovery 2) = subst (λ (n : ℕ). IsTrue (ends_recovery n)) is ends.known in absurd cc

pub known_copied : (tells : Type 0) (session : List ℕ) (shift : ℕ) (a b : PlantState) (status : ℕ) → EndsCopy tells session shift a b status → status ≢ 2
known_copied tells session shift a b status ends is = let known : IsTrue (ends_copy 2) = subst (λ (n : ℕ). IsTrue (ends_copy n)) is ends.known in absurd cc

pub known_queried : (tells : Type 0) (session : List ℕ) (a b : PlantState) (status : ℕ) → EndsQuery tells session a b status → status ≢ 2
known_queried tells session a b status ends is = let known : IsTrue (ends_query 2) = subst (λ (n : ℕ). IsTrue (ends_query n)) is ends.known in absurd cc

pub known_labelled : (tells : Type 0) (device : ℕ) (label : Label) (a b : PlantState) (status : ℕ) → EndsLabelling tells device label a b status → status ≢ 2
known_labelled tells device label a b status ends is = let known : IsTrue (ends_labelling 2) = subst (λ (n : ℕ). IsTrue (ends_labelling n)) is ends.known in absurd cc

pub known_generated : (tells : Type 0) (number : ℕ) (a b : PlantState) (status : ℕ) → EndsGenerating tells number a b status → status ≢ 2
known_generated tells number a b _ (Done line sums says) is = absurd (omega arith)
known_generated tells number a b _ (WantsMemory says) is = absurd (omega arith)
known_generated tells number a b _ (ConsoleFailed line sums says rose once) is = absurd (omega arith)
