-- Points that whatever a crash leaves shows, points that may be meant at a stage, and times that a choice bears.
use Rattle.std.specs.Prelude.{◌≡◌, ◌⊎◌, ℕ, List, Bool, true, Option, Some, IfSome, IsTrue}
use Rattle.crash_plant.specs.Choices.{IsChoice}
use Rattle.crash_plant.specs.Moments.{PlantState}
use Rattle.site_means.specs.declared.means.Means.{Means}
use Rattle.site_means.specs.Images.{Images, Shape, shape_of}
use Rattle.site_means.specs.Sight.{means_in}
use Rattle.consistency.specs.Stages.{AreRows, HoldsPrimaries, IsFlag, IsTime, ScriptRun, Stage, accepts_end}
use Rattle.consistency.specs.Leads.{Point}
use Rattle.passages.specs.Points.{GoesThrough}
use Rattle.consistency.specs.Ways.{PassedPoint}

-- Images show a point of a run: they mean it, and the device of each duplex row holds its primary's tracks at its time.
pub record ShowsPoint (run : ScriptRun) (shape : Shape) (p : Point) (images : Images) : Type 0 where
  pub means : Means
  pub defined : means_in shape images ≡ Some means
  pub session : means.session ≡ run.session
  pub level : means.level ≡ run.level
  pub at : means.time.0 ≡ p.time
  pub rows : means.table.rows ≡ p.rows
  pub ended : means.ended ≡ p.is_ended
  pub tracks : HoldsPrimaries run shape images p.rows p.time

-- A point may be meant at a stage: its flag, its time and its rows may be those that devices have there.
pub record MayBeMeant (run : ScriptRun) (s : Stage) (p : Point) : Type 0 where
  pub ended : IsFlag run s p.is_ended
  pub in_time : IsTime s p.time
  pub rows : AreRows run s p.time p.rows

-- ---- a choice bears a time

-- A choice of images of a plant of this shape bears a time: it shows a point of this time, which may be meant.
pub record Bears (run : ScriptRun) (s : Stage) (shape : Shape) (images : Images) (time : ℕ) : Type 0 where
  pub point : Point
  pub at : point.time ≡ time
  pub shows : ShowsPoint run shape point images
  pub may : MayBeMeant run s point

-- ---- in time

-- The flag is the stage's. Or it is 1, at the time of the next line, which is an end that the command table accepts: while the session works
-- for the line's time it has not ended.
abbrev pub IsFlagInTime : ScriptRun → Stage → (time : ℕ) → Bool → Type 0
IsFlagInTime run s time flag = (flag ≡ s.table.is_ended) ⊎ (IsTrue (accepts_end run s.table s.next) × (flag ≡ true) × IfSome s.next (λ line. time ≡ line.time.0))

-- A point may be meant, and its flag is in time.
pub record MayBeMeantInTime (run : ScriptRun) (s : Stage) (p : Point) : Type 0 where
  pub may : MayBeMeant run s p
  pub flag : IsFlagInTime run s p.time p.is_ended

-- From a moment of a plant to another its devices go through these points of a run, from one on, and this one is on its way.
abbrev pub GoesThroughPoints : ScriptRun → PlantState → (from : ℕ) → Point → List PassedPoint → (to : ℕ) → (on_its_way : Option Point) → Type 0
GoesThroughPoints run plant from p points to next = GoesThrough (IsChoice plant) (ShowsPoint run (shape_of plant)) from p points to next
