-- What is so after the lines by which a session has ended: all is applied and marked, and stays so.
use Rattle.std.specs.Prelude.{◌≡◌, ℕ, suc, ◌<◌, ◌≤◌, List, [], ◌++◌, length, take, IsTrue}
use Rattle.crash_plant.specs.Choices.{AtMoment}
use Rattle.crash_plant.specs.Moments.{PlantState}
use Rattle.site_means.specs.declared.means.Means.{Means}
use Rattle.site_means.specs.Images.{Images}
use Rattle.site_means.specs.Walk.{Walk}
use Rattle.site_means.specs.Meaning.{meaning}
use Rattle.site_means.specs.Meaning.Meaning.{Meant}
use Rattle.consistency.specs.Stages.{ScriptRun}
use Rattle.consistency.specs.Courses.{Answered, replies_of, stage_at}

-- Images mean something, and no record stands after their mark: the walk has no group and ends at the spot where it begins.
pub record HasEmptyWalk (plant : PlantState) (images : Images) : Type 0 where
  pub means : Means
  pub walk : Walk
  pub meant : meaning plant images ≡ Meant means walk
  pub no_group : walk.groups ≡ []
  pub ends_at_mark : walk.at ≡ means.from

-- All that was journaled is on the volumes, and marked: whatever a crash at a moment leaves has no record after the mark.
abbrev pub IsAllApplied : PlantState → (t : ℕ) → Type 0
IsAllApplied plant t = AtMoment (HasEmptyWalk plant) plant t

-- From the first byte of the next reply after these lines all stays applied, to now: at each moment at which more was said than their replies.
abbrev pub StaysAppliedAfter : List Answered → (began now : PlantState) → Type 0
StaysAppliedAfter lines began now = (t : ℕ) → began.clock ≤ t → t ≤ now.clock → length (began.said began.clock ++ replies_of lines) < length (now.said t) → IsAllApplied now t

-- From the first byte of the reply to a line after which the session has ended, all stays applied and marked, to now. Now it is so also on a plant
-- that keeps no past.
abbrev pub StaysApplied : ScriptRun → List Answered → (began now : PlantState) → Type 0
StaysApplied run lines began now = (number : ℕ) → number < length lines → IsTrue (stage_at run lines (suc number)).table.is_ended → IsAllApplied now now.clock × (0 < began.clock → StaysAppliedAfter (take number lines) began now)
