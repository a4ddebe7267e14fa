-- Deeds on the way to a line's time, each with its changes of rows, and the points that are meant after them.
use Rattle.std.specs.Prelude.{◌≡◌, ℕ, List, [], ◌∷◌, Bool, true, Option, IsTrue}
use Rattle.pair_table.specs.declared.level.Level.{Level}
use Rattle.row_changes.specs.Changes.{Due}
use Rattle.row_changes.specs.Changes.Due.{NoneDue}
use Rattle.record_rows.specs.Deeds.{Deed, rows_by_deed, time_by_deed}
use Rattle.record_rows.specs.Deeds.Deed.{Logged, Changed, Marked}
use Rattle.record_rows.specs.ToldRows.{due_after_changes}
use Rattle.site_store.specs.DeedChanges.{DeedOfChanges}
use Rattle.consistency.specs.Leads.{Leads, Point, may_rest}
use Rattle.consistency.specs.Ways.{PassedPoint, are_at_time}
use Rattle.consistency.specs.Ways.Way.{OnTheWay}

-- ---- points

-- the point after a deed: the time and the rows that are meant then, and what its changes leave due
abbrev pub point_by : Level → Point → DeedOfChanges → Point
point_by level p step = record {
  time = time_by_deed p.time step.deed;
  rows = rows_by_deed step.deed;
  due = due_after_changes level p.due step.changes;
  is_ended = p.is_ended;
}

abbrev pub point_after_deeds : Level → Point → List DeedOfChanges → Point
point_after_deeds level p [] = p
point_after_deeds level p (step ∷ steps) = point_after_deeds level (point_by level p step) steps

-- the points of the first of these deeds, each at one of the moments
abbrev pub points_by : Level → Point → (moments : List ℕ) → List DeedOfChanges → List PassedPoint
points_by level p [] steps = []
points_by level p (t ∷ moments) [] = []
points_by level p (t ∷ moments) (step ∷ steps) =
    record { moment = t; point = point_by level p step; way = OnTheWay step.changes } ∷ points_by level (point_by level p step) moments steps

-- ---- steps

-- After a record nothing is due. A mark leaves the session's flag.
abbrev pub LeavesSo : (is_ended : Bool) → Due → Deed → Type 0
LeavesSo flag due (Logged cut entries rows) = due ≡ NoneDue
LeavesSo flag due (Changed time rows) = due ≡ NoneDue
LeavesSo flag due (Marked spot ended rows) = ended ≡ flag

-- A deed is a step from a point: its changes lead to the point after it, at the time that is meant there.
pub record IsStep (level : Level) (breaks : List (Option ℕ)) (p : Point) (step : DeedOfChanges) : Type 0 where
  pub leads : Leads level breaks p (point_by level p step) step.changes
  pub together : IsTrue (are_at_time (time_by_deed p.time step.deed) step.changes)
  pub leaves : LeavesSo p.is_ended (due_after_changes level p.due step.changes) step.deed
  pub rests : IsTrue (may_rest true (point_by level p step))

abbrev pub AreSteps : Level → (breaks : List (Option ℕ)) → Point → List DeedOfChanges → Type 0
AreSteps level breaks p [] = Unit {0}
AreSteps level breaks p (step ∷ steps) = IsStep level breaks p step × AreSteps level breaks (point_by level p step) steps
