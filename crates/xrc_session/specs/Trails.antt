-- The way of a session's devices since its start, from point to point.
use Rattle.std.specs.Prelude.{◌≡◌, ℕ, suc, ◌-◌, ◌+◌, ◌≤◌, ◌<◌, ◌==◌, false, List, [], ◌++◌, length, take, fold, Option, IfSome, if◌then◌else◌, slice_get, Some, IsTrue}
use Rattle.crash_plant.specs.declared.device.Device.TheVariants.{Volume}
use Rattle.crash_plant.specs.Choices.{AtMoment, AtNow}
use Rattle.crash_plant.specs.Moments.{PlantState}
use Rattle.row_changes.specs.Changes.{after_changes}
use Rattle.site_means.specs.Images.{shape_of}
use Rattle.xrc_command.specs.declared.line.Line.{Line}
use Rattle.consistency.specs.Answering.{points_before}
use Rattle.consistency.specs.Stages.{ScriptRun, Stage}
use Rattle.consistency.specs.Courses.{Answered, replies_of, stage_at}
use Rattle.passages.specs.Points.{AreLinked, last_point}
use Rattle.consistency.specs.Bearing.{GoesThroughPoints, ShowsPoint}
use Rattle.consistency.specs.Pauses.{asked_in}
use Rattle.consistency.specs.Leads.{Point}
use Rattle.consistency.specs.Replying.{IsExact}
use Rattle.consistency.specs.Ways.{ComesNext, Leg, PassedPoint, hits_of_leg, leg_after, leg_at}
use Rattle.mover.specs.Moves.{most_faults}
use Rattle.mover.specs.Working.{IsOnItsWay, ShowsLast}
use Rattle.xrc_session.specs.WrittenLines.{AreWrittenByLines}

-- How many lines were answered with the start, and the points that the devices have passed since. A session that hasn't started has no point.
pub record Trail : Type 0 where
  pub started : ℕ
  pub points : List PassedPoint

abbrev pub with_points : List PassedPoint → Trail → Trail
with_points more trail = record trail { points = trail.points ++ more }

-- A trail begins with the line that started the session: one of these, or the next one. The session hadn't started before it, and had after it.
pub record BeginsAtStart (run : ScriptRun) (lines : List Answered) (trail : Trail) : Type 0 where
  pub within : trail.started ≤ suc (length lines)
  pub before : (n : ℕ) → n < trail.started → n ≤ length lines → (stage_at run lines n).table.is_started ≡ false
  pub after : 0 < trail.started → trail.started ≤ length lines → IsTrue (stage_at run lines trail.started).table.is_started

-- Once one of these lines has started the session, a trail begins with it.
abbrev pub HasBegunTrail : ScriptRun → List Answered → Trail → Type 0
HasBegunTrail run lines trail = IsTrue (stage_at run lines (length lines)).table.is_started → (0 < trail.started) × BeginsAtStart run lines trail

-- the leg at which the session began, and the one to which it has come
abbrev pub first_leg : ScriptRun → List Answered → Trail → Leg
first_leg run lines trail = leg_at (stage_at run lines trail.started) trail.started

abbrev pub last_leg : ScriptRun → List Answered → Trail → Leg
last_leg run lines trail = fold leg_after (first_leg run lines trail) trail.points

-- the line with a number: one that was answered, or the one that was heard whole after these
abbrev pub asked_with : List Answered → Option Line → (number : ℕ) → Option Line
asked_with lines next number = if number == length lines then next else asked_in lines number

-- Each of the points comes next by its way.
abbrev pub AreNext : ScriptRun → List Answered → Option Line → Trail → Type 0
AreNext run lines next trail = AreLinked (ComesNext run (asked_with lines next)) leg_after (first_leg run lines trail) trail.points

-- The devices of a session go forth from the first leg's point to each of the others, and never back: between two of them whatever a crash
-- leaves shows the one or the other, and at its own moment each is shown by all. It is so from a moment on at which nothing of the start's
-- reply was said. The first point has no rows. A volume is written only while it has a row, line by line and part by part.
pub record GoesForth (run : ScriptRun) (lines : List Answered) (asked : Option Line) (trail : Trail) (next : Option Point) (began now : PlantState) : Type 0 where
  pub from : ℕ
  pub since : began.clock ≤ from
  pub unsaid : now.said from ≡ began.said began.clock ++ replies_of (take (trail.started - 1) lines)
  pub rowless : (first_leg run lines trail).point.rows ≡ []
  pub begins : AtMoment (ShowsPoint run (shape_of now) (first_leg run lines trail).point) now from
  pub goes : GoesThroughPoints run now from (first_leg run lines trail).point trail.points now.clock next
  pub linked : AreNext run lines asked trail
  pub on_its_way : IfSome next (IsOnItsWay run (asked_with lines asked) (last_leg run lines trail))
  pub written : AreWrittenByLines lines asked (trail.started - 1) trail.points (first_leg run lines trail).point from began now

-- A session that has started stands on its trail, also on a plant that keeps no past: the first point has no rows, each of the others comes next by
-- its way, and whatever a crash leaves now shows the last of them, or the one that is on its way from there.
pub record StandsOnTrail (run : ScriptRun) (lines : List Answered) (asked : Option Line) (trail : Trail) (next : Option Point) (now : PlantState) : Type 0 where
  pub rowless : (first_leg run lines trail).point.rows ≡ []
  pub linked : AreNext run lines asked trail
  pub on_its_way : IfSome next (IsOnItsWay run (asked_with lines asked) (last_leg run lines trail))
  pub shows : AtNow (ShowsLast run now (last_point (first_leg run lines trail).point trail.points) next) now

-- The points before the command of a line bring the changes after which it is answered, and the last of them has the rows that the command finds.
pub record BringsChanges (run : ScriptRun) (s : Stage) (first : Leg) (points : List PassedPoint) (number : ℕ) (a : Answered) : Type 0 where
  pub changes : (fold leg_after first (points_before number points)).changes ≡ a.changes
  pub rows : (last_point first.point (points_before number points)).rows ≡ after_changes run.level a.changes s.table.rows

-- A reply is exactly its line's, by the points before the line's command. Once the session has started these bring the line's changes.
pub record IsExactBy (run : ScriptRun) (s : Stage) (first : Leg) (points : List PassedPoint) (number : ℕ) (a : Answered) : Type 0 where
  pub exact : IsExact run s first.point points number a
  pub brings : IsTrue s.table.is_started → BringsChanges run s first points number a

-- So is each reply.
abbrev pub AreExact : ScriptRun → List Answered → Trail → Type 0
AreExact run lines trail = (n : ℕ) (a : Answered) → slice_get lines n ≡ Some a → IsExactBy run (stage_at run lines n) (first_leg run lines trail) trail.points n a

-- Each hit of a device up to a leg needed a fault of its own since the run began, for a count that ends below the largest number.
abbrev pub AreHitsOfFaults : Leg → (began now : PlantState) → Type 0
AreHitsOfFaults l began now = (d : ℕ) → now.faults (Volume d) < most_faults → hits_of_leg l d + began.faults (Volume d) ≤ now.faults (Volume d)
