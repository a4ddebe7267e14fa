-- What every moment of a run must bear, from the one on at which its session has started.
use Rattle.std.specs.Prelude.{◌≡◌, ℕ, ◌<◌, ◌≤◌, ◌++◌, List, All, Some, IsTrue}
use Rattle.crash_plant.specs.Choices.{AtMoment, Choice}
use Rattle.crash_plant.specs.Moments.{PlantState}
use Rattle.site_means.specs.declared.means.Means.{Means}
use Rattle.site_means.specs.Images.{shape_of}
use Rattle.site_means.specs.Sight.{means_of}
use Rattle.consistency.specs.Bearing.{Bears}
use Rattle.consistency.specs.Stages.{ScriptRun, Stage}
use Rattle.consistency.specs.Courses.{Answered, AreAsked, IsCourse, StandsAt, stage_there}
use Rattle.consistency.specs.Times.{times_said}

-- No time of these is later.
abbrev pub AreUpTo : (time : ℕ) → List ℕ → Type 0
AreUpTo time times = All (λ z. z ≤ time) times

-- A choice bears one time, which isn't before any that was said.
pub record BearsTime (run : ScriptRun) (s : Stage) (said : List ℕ) (plant : PlantState) (c : Choice) : Type 0 where
  pub time : ℕ
  pub bears : Bears run s (shape_of plant) c time
  pub not_earlier : AreUpTo time (times_said said)

-- What the devices mean where the last reply had just been said whole: the table after its line, at its stamp.
pub record MeansTable (s : Stage) (means : Means) : Type 0 where
  pub rows : means.table.rows ≡ s.table.rows
  pub time : means.time.0 ≡ s.replied
  pub ended : means.ended ≡ s.table.is_ended

-- At this moment of a call that answers these lines so much was heard and said since it began, and where the session has started each
-- choice bears a time.
pub record MomentBears (run : ScriptRun) (lines : List Answered) (old new : PlantState) (t : ℕ) : Type 0 where
  pub heard : List ℕ
  pub said : List ℕ
  pub heard_is : new.heard t ≡ old.heard old.clock ++ heard
  pub said_is : new.said t ≡ old.said old.clock ++ said
  pub at : StandsAt lines heard said
  pub bears : IsTrue (stage_there run old.script at).table.is_started → AtMoment (BearsTime run (stage_there run old.script at) said new) new t

-- All choices of this moment mean the table after the last answered line, where the session has started.
abbrev pub AllMeanTable : (run : ScriptRun) → (lines : List Answered) → (old new : PlantState) → (t : ℕ) → MomentBears run lines old new t → Type 0
AllMeanTable run lines old new t moment =
    IsTrue (stage_there run old.script moment.at).table.is_started
    → AtMoment (λ c. (means : Means) × (means_of new c ≡ Some means) × MeansTable (stage_there run old.script moment.at) means) new t

-- They do at the first moment at which a reply was said whole.
abbrev pub FirstMeans : (run : ScriptRun) → (lines : List Answered) → (old new : PlantState)
    → ((t : ℕ) → old.clock ≤ t → t ≤ new.clock → MomentBears run lines old new t) → Type 0
FirstMeans run lines old new each = (t : ℕ) (from : old.clock ≤ t) (to : t ≤ new.clock)
    → ((r : ℕ) (since : old.clock ≤ r) (within : r ≤ new.clock) → r < t → (each r since within).at.answered < (each t from to).at.answered)
    → AllMeanTable run lines old new t (each t from to)

-- The call answers these lines, and each of its moments bears.
pub record BearsThroughout (run : ScriptRun) (lines : List Answered) (old new : PlantState) : Type 0 where
  pub course : IsCourse run lines
  pub asked : AreAsked old.script lines
  pub each : (t : ℕ) → old.clock ≤ t → t ≤ new.clock → MomentBears run lines old new t
  pub replies : FirstMeans run lines old new each
