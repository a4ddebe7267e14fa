-- What holds of a run between two of its calls, where its replies are exact, and what its calls must leave.
use Rattle.std.specs.Prelude.{◌≡◌, ℕ, suc, ◌^◌, ◌<◌, ◌≤◌, List, [], ◌∷◌, ◌++◌, length, take, fold, slice_get, Option, Some, None, IsTrue}
use Rattle.std.specs.Option.{option_map}
use Rattle.crash_plant.specs.Calls.{SameSite}
use Rattle.crash_plant.specs.Choices.{AtMoment, AtNow, Choice}
use Rattle.crash_plant.specs.Moments.{PlantState}
use Rattle.site_means.specs.Images.{shape_of}
use Rattle.row_changes.specs.Changes.{after_changes}
use Rattle.xrc_command.specs.declared.line.Line.{Line}
use Rattle.consistency.specs.Stages.{ScriptRun, Stage}
use Rattle.consistency.specs.Courses.{Answered, AreAsked, IsAnswered, IsCourse, lines_begun, replies_of, stage_after, stage_at, texts_of}
use Rattle.consistency.specs.Keeping.{Keeps, stage_now}
use Rattle.consistency.specs.Moments.{AreUpTo, BearsTime}
use Rattle.consistency.specs.Times.{times_said}
use Rattle.consistency.specs.Answering.{points_before}
use Rattle.consistency.specs.Bearing.{GoesThroughPoints, MayBeMeant, ShowsPoint}
use Rattle.consistency.specs.Leads.{Point}
use Rattle.consistency.specs.Replying.{HasNames, IsExact}
use Rattle.passages.specs.Points.{AreLinked, last_point}
use Rattle.consistency.specs.Ways.{ComesNext, Leg, PassedPoint, leg_after, stage_point}

-- A choice shows a point of a run that may be meant at a stage.
abbrev pub ShowsMeant : ScriptRun → Stage → PlantState → Choice → Type 0
ShowsMeant run s plant c = (p : Point) × MayBeMeant run s p × ShowsPoint run (shape_of plant) p c

-- Points were passed from a first leg up to a moment, each next by its way. The session began at the leg, at a moment at which whatever a
-- crash may leave shows its point, which has no rows.
pub record HasPassed (run : ScriptRun) (asked : ℕ → Option Line) (first : Leg) (points : List PassedPoint) (plant : PlantState) (to : ℕ) : Type 0 where
  pub rowless : first.point.rows ≡ []
  pub from : ℕ
  pub begins : AtMoment (ShowsPoint run (shape_of plant) first.point) plant from
  pub goes : GoesThroughPoints run plant from first.point points to None
  pub linked : AreLinked (ComesNext run asked) leg_after first points

-- the line with a number, if it is one of these
abbrev pub asked_in : List Answered → (number : ℕ) → Option Line
asked_in lines number = option_map (λ a. a.line) (slice_get lines number)

-- The reply to a line after others tells of these points. They were passed up to a moment, the line's command among them. Those before it
-- bring the changes after which the line is answered, and the last of them has the rows that the command finds.
pub record AreSaidOf (run : ScriptRun) (s : Stage) (lines : List Answered) (first : Leg) (points : List PassedPoint) (a : Answered) (plant : PlantState) (to : ℕ) : Type 0 where
  pub passed : HasPassed run (asked_in (lines ++ a ∷ [])) first points plant to
  pub answered : (fold leg_after first points).answered ≡ suc (length lines)
  pub changes : (fold leg_after first (points_before (length lines) points)).changes ≡ a.changes
  pub rows : (last_point first.point (points_before (length lines) points)).rows ≡ after_changes run.level a.changes s.table.rows

-- The reply to a line after others was exact. Where the plant keeps its past, as its clock when the run began tells, and the session had
-- started before the line, the reply spoke of points that were passed by then.
pub record HadExactReply (run : ScriptRun) (s : Stage) (before : List Answered) (a : Answered) (began : ℕ) (plant : PlantState) : Type 0 where
  pub first : Leg
  pub points : List PassedPoint
  pub by : ℕ
  pub within : by ≤ plant.clock
  pub exact : IsExact run s first.point points (length before) a
  pub told : 0 < began → IsTrue s.table.is_started → AreSaidOf run s before first points a plant by

-- So was each of these lines, after those before it.
abbrev pub HadExactReplies : ScriptRun → List Answered → (began : ℕ) → PlantState → Type 0
HadExactReplies run lines began plant = (n : ℕ) (a : Answered) → slice_get lines n ≡ Some a → HadExactReply run (stage_at run lines n) (take n lines) a began plant

-- What holds now of a run that began at a plant's old state, also where the plant keeps no past: these lines were answered, this was heard of
-- the next one, and where the session has started each choice that a crash may leave bears a time. No time that was said is after that of the
-- last reply.
pub record StandsNow (run : ScriptRun) (lines : List Answered) (text : List ℕ) (old new : PlantState) : Type 0 where
  pub course : IsCourse run lines
  pub asked : AreAsked old.script lines
  pub later : old.clock ≤ new.clock
  pub site : SameSite old new
  pub heard : new.heard new.clock ≡ old.heard old.clock ++ (texts_of lines ++ text)
  pub script : old.script ≡ texts_of lines ++ text ++ new.script
  pub said : new.said new.clock ≡ old.said old.clock ++ replies_of lines
  pub one_line : lines_begun text ≤ 1
  pub bears : let s = stage_now run old.script lines text in IsTrue s.table.is_started → AtNow (BearsTime run s (replies_of lines) new) new
  pub times : AreUpTo (stage_at run lines (length lines)).replied (times_said (replies_of lines))
  pub short : (stage_at run lines (length lines)).replied < 2 ^ 64

-- A run goes on from a plant's state to another: it stands so now, and each reply was exact. Where the plant keeps its past, each moment so far
-- bears.
pub record RunGoesOn (run : ScriptRun) (lines : List Answered) (text : List ℕ) (old new : PlantState) : Type 0 where
  pub now : StandsNow run lines text old new
  pub exact : HadExactReplies run lines old.clock new
  pub keeps : 0 < old.clock → Keeps run lines text old new

-- A line that was heard whole after other lines may be replied to. It is answered at its stage, and its reply is exact. Once the session has
-- started the reply speaks of points that were passed up to now, where the plant keeps its past. Whatever a crash may leave now shows the point
-- after the line, which may be meant before the reply.
pub record MayReply (run : ScriptRun) (s : Stage) (lines : List Answered) (first : Leg) (points : List PassedPoint) (a : Answered) (now : PlantState) : Type 0 where
  pub asks : s.next ≡ Some a.line
  pub answered : IsAnswered run s a
  pub exact : IsExact run s first.point points (length lines) a
  pub names : HasNames s.table
  pub short : a.line.time.0 < 2 ^ 64
  pub told : 0 < now.clock → IsTrue s.table.is_started → AreSaidOf run s lines first points a now now.clock
  pub may : IsTrue s.table.is_started → MayBeMeant run s (stage_point (stage_after s a))
  pub shows : IsTrue a.table.is_started → AtNow (ShowsPoint run (shape_of now) (stage_point (stage_after s a))) now
