-- What stands within a line: after what was heard of it, once the session has come to its time, and once its command was done or refused.
use Rattle.pair_table.specs.declared.command.Change.TheVariants.{Resumed}
use Rattle.xrc_session.specs.MapsTaken.{WantsOwed}
use Rattle.std.specs.Prelude.{◌≡◌, ℕ, ◌<◌, false, List, [], ◌∷◌, ◌++◌, length, fold, Option, Some, None, Result, Ok, Err, IfSome, IsSomeAnd, IsTrue}
use Rattle.std.specs.List.{All}
use Rattle.crash_plant.specs.Choices.{AtNow}
use Rattle.crash_plant.specs.Moments.{PlantState}
use Rattle.row_changes.specs.Changes.{Timed}
use Rattle.xrc_command.specs.declared.line.Line.{Line}
use Rattle.site_store.specs.Sites.{SiteState}
use Rattle.group_state.specs.Groups.{Group}
use Rattle.consistency.specs.Stages.{ScriptRun, Stage}
use Rattle.consistency.specs.Courses.{Answered}
use Rattle.consistency.specs.Steps.{table_on_the_way}
use Rattle.mover.specs.Working.{LinesAsked, IsOnItsWay, ShowsLast}
use Rattle.passages.specs.Points.{AreLinked, last_point}
use Rattle.consistency.specs.Answering.{ReplyContent, answered_by, reply_content, points_before}
use Rattle.consistency.specs.Bearing.{GoesThroughPoints, MayBeMeant}
use Rattle.consistency.specs.Pauses.{MayReply, RunGoesOn}
use Rattle.consistency.specs.Leads.{Point}
use Rattle.consistency.specs.Replying.{IsExact, is_reported, said_tracks}
use Rattle.consistency.specs.Ways.{ComesNext, IsAtWork, Leg, MayTakeEffect, PassedPoint, leg_after}
use Rattle.mover.specs.declared.lane.Lane.{Lane}
use Rattle.mover.specs.Epochs.{AllTurnOut, LanesBrokeAs}
use Rattle.xrc_status.specs.declared.stop.Stop.{Stop}
use Rattle.xrc_status.specs.declared.stop.Stop.TheVariants.{NoMemory}
use Rattle.xrc_session.specs.declared.answering.LineAnswer.{LineAnswer}
use Rattle.xrc_session.specs.declared.kept.SessionParts.{SessionParts}
use Rattle.xrc_session.specs.AppliedEnds.{IsAllApplied, StaysApplied}
use Rattle.xrc_session.specs.MapsOwed.{HasCutOrNoRow}
use Rattle.xrc_session.specs.LinePauses.{GoesOnFrom, HasAnswered, IsRunOver, RisesCover, StandsAfterLines, StandsAtLeg, stage_after_text}
use Rattle.xrc_session.specs.Ends.{IsRunDone, StopsInLine}
use Rattle.xrc_session.specs.Stops.{IsStopAfterEnd}
use Rattle.xrc_session.specs.States.{SessionState, session_time}
use Rattle.xrc_session.specs.Frames.{ChangesRows, rows_passed}
use Rattle.xrc_session.specs.WrittenParts.{PassesInParts}
use Rattle.xrc_session.specs.Trails.{AreExact, BeginsAtStart, BringsChanges, Trail, first_leg}

-- ---- points that calls pass

-- Calls pass points from a leg of a stage on, each next by its way, and each may be meant at the stage. One may be on its way at the end. Of the
-- volumes only slots of the points' rows are written.
--   written: they are written part by part
pub record PassesPointsOn (run : ScriptRun) (stage : Stage) (asked : LinesAsked) (l : Leg) (points : List PassedPoint) (next : Option Point) (old new : PlantState) : Type 0 where
  pub goes : 0 < old.clock → GoesThroughPoints run new old.clock l.point points new.clock next
  pub linked : AreLinked (ComesNext run asked) leg_after l points
  pub may : All (λ n. MayBeMeant run stage n.point) points
  pub on_its_way : IfSome next (λ q. IsOnItsWay run asked (fold leg_after l points) q × MayBeMeant run stage q)
  pub now : AtNow (ShowsLast run new (last_point l.point points) next) new
  pub volumes : ChangesRows (l.point.rows ++ rows_passed points) old new
  pub written : 0 < old.clock → PassesInParts new old.clock new.clock l.point points

-- So they do, as far as they come.
abbrev pub BeginsToPass : ScriptRun → Stage → LinesAsked → Leg → (old new : PlantState) → Type 0
BeginsToPass run stage asked l old new = (points : List PassedPoint) × ((next : Option Point) × PassesPointsOn run stage asked l points next old new)

-- ---- to a line's time

-- Work for the time of a stage's next line may begin at a leg, at which no row has changed since the last reply.
pub record MayBring (run : ScriptRun) (stage : Stage) (line : Line) (asked : LinesAsked) (l : Leg) (first : Point) (points : List PassedPoint) (site : SiteState) (began now : PlantState) (group : Group) : Type 0 where
  pub heard : stage.next ≡ Some line
  pub asked_is : asked l.answered ≡ Some line
  pub active : stage.table.is_ended ≡ false
  pub unchanged : l.changes ≡ []
  pub at : StandsAtLeg run stage l site began now
  pub at_work : IsAtWork run asked l
  pub goes_on : GoesOnFrom run first points site now group
  pub cut : HasCutOrNoRow site.time site.told group

-- The work has come to the line's time, at a leg after these points: the line's command may take effect, and the work may go on from there.
pub record HasBrought (run : ScriptRun) (stage : Stage) (line : Line) (asked : LinesAsked) (l : Leg) (first : Point) (points : List PassedPoint) (site : SiteState) (began now : PlantState) (group : Group) : Type 0 where
  pub asked_is : asked l.answered ≡ Some line
  pub at : StandsAtLeg run stage l site began now
  pub at_work : IsAtWork run asked l
  pub may : MayTakeEffect run line l
  pub goes_on : GoesOnFrom run first points site now group

-- How it ends.
abbrev pub EndsBringing : ScriptRun → Stage → Line → LinesAsked → Leg → (first : Point) → List PassedPoint → SiteState → Option Group → (began old new : PlantState) → Result (Unit {0}) Stop → Type 0
EndsBringing run stage line asked l first points site group began old new (Ok done) =
    (more : List PassedPoint) × PassesPointsOn run stage asked l more None old new × IsSomeAnd group (HasBrought run stage line asked (fold leg_after l more) first (points ++ more) site began new)
EndsBringing run stage line asked l first points site group began old new (Err stop) = BeginsToPass run stage asked l old new

-- ---- heard

-- A line was heard whole after those that a session has answered.
pub record HasHeard {S : Type 0} (run : ScriptRun) (lines : List Answered) (trail : Trail) (text : List ℕ) (line : Line) (s : SessionState) (lanes : List (Lane S)) (began now : PlantState) : Type 0 where
  pub answered : HasAnswered run lines trail text s lanes began now
  pub next : (stage_after_text run lines text began).next ≡ Some line

-- ---- answered

-- the line as it is answered after these changes and before these hits, if this is its reply
abbrev pub line_answered : ScriptRun → List Answered → (text : List ℕ) → Line → (changes hits : List Timed) → (began : PlantState) → (reply : List ℕ) → Answered
line_answered run lines text line changes hits began reply = answered_by run (stage_after_text run lines text began) text reply line changes hits

-- The reply to a line after others is exact, by the trail of the session.
abbrev pub IsExactAfter : ScriptRun → List Answered → Trail → (text : List ℕ) → (began : PlantState) → Answered → Type 0
IsExactAfter run lines trail text began a = IsExact run (stage_after_text run lines text began) (first_leg run (lines ++ a ∷ []) trail).point trail.points (length lines) a

-- what the reply to it tells
abbrev pub content_after_lines : ScriptRun → List Answered → Trail → (text : List ℕ) → (began : PlantState) → Answered → ReplyContent
content_after_lines run lines trail text began a = reply_content run (stage_after_text run lines text began) (first_leg run (lines ++ a ∷ []) trail).point trail.points (length lines) a

-- A reply's content says an answer to a line, and the tracks that are to be copied where it says some.
pub record SaysAnswer (line : Line) (content : ReplyContent) (answer : LineAnswer) : Type 0 where
  pub is : content.answer ≡ answer.answer
  pub tracks : said_tracks line.command content.answer content.tracks ≡ said_tracks line.command answer.answer answer.tracks

-- After a line that resumes a pair, unless the pair is suspended again, the tracks that are wanted of its volume are exactly those that its row owed
-- at the line's time, as its reply counts them.
abbrev pub WantsAsOwed : ScriptRun → List Answered → Trail → (text : List ℕ) → (began : PlantState) → Answered → SessionState → Type 0
WantsAsOwed run lines trail text began a s = (device : ℕ) → (content_after_lines run lines trail text began a).answer ≡ Ok (Resumed device) → s.table.is_ended ≡ false
    → IsSomeAnd s.group (WantsOwed run (first_leg run (lines ++ a ∷ []) trail).point (points_before (length lines) trail.points) device (table_on_the_way run.level a.changes (stage_after_text run lines text began).table).rows s.table.rows a.line.time.0)

-- The command of a line was done or refused after others that were answered exactly, and what it changes is logged. With its exact reply the line
-- may be answered; whatever is said of it, the session stands after it.
--   stops: where there is no memory for the reply, the session stops so
--   brings: once the session has started, the points before the command bring the changes after which the line is answered
--   applied: where the session has ended after the line, all is applied and marked
--   unhit: a report is that of the table that the line finds, since no hit stands after the line
pub record IsToReply {S : Type 0} (run : ScriptRun) (lines : List Answered) (trail : Trail) (text : List ℕ) (line : Line) (answer : LineAnswer) (s : SessionState) (lanes : List (Lane S)) (began now : PlantState) : Type 0 where
  pub goes : RunGoesOn run lines text began now
  pub changes : List Timed
  pub hits : List Timed
  pub begins : BeginsAtStart run lines trail
  pub exact : AreExact run lines trail
  pub brings : (reply : List ℕ) → let a = line_answered run lines text line changes hits began reply in
      IsTrue (stage_after_text run lines text began).table.is_started → BringsChanges run (stage_after_text run lines text began) (first_leg run (lines ++ a ∷ []) trail) trail.points (length lines) a
  pub stops : StopsInLine run lines text began now NoMemory
  pub unhit : IsTrue (is_reported run (table_on_the_way run.level changes (stage_after_text run lines text began).table) line) → hits ≡ []
  pub tells : (reply : List ℕ) → SaysAnswer line (content_after_lines run lines trail text began (line_answered run lines text line changes hits began reply)) answer
  pub may : (reply : List ℕ) → let a = line_answered run lines text line changes hits began reply in
      IsExactAfter run lines trail text began a → MayReply run (stage_after_text run lines text began) lines (first_leg run (lines ++ a ∷ []) trail) trail.points a now
  pub stands : (reply : List ℕ) → let a = line_answered run lines text line changes hits began reply in
      StandsAfterLines run (lines ++ a ∷ []) (stage_after_text run (lines ++ a ∷ []) [] began) trail s began now
  pub broke : LanesBrokeAs (session_time s) run.traces lanes
  pub applied : (reply : List ℕ) → let a = line_answered run lines text line changes hits began reply in IsTrue (stage_after_text run (lines ++ a ∷ []) [] began).table.is_ended → IsAllApplied now now.clock
  pub wants : (reply : List ℕ) → WantsAsOwed run lines trail text began (line_answered run lines text line changes hits began reply) s

-- ---- how a line ends

-- A line that was done and awaits its reply, or in which the session stopped.
abbrev pub EndsDoing : {S : Type 0} → ScriptRun → List Answered → (text : List ℕ) → Line → SessionState → List (Lane S) → (began now : PlantState) → Result LineAnswer Stop → Type 0
EndsDoing run lines text line s lanes began now (Ok answer) = (trail : Trail) × IsToReply run lines trail text line answer s lanes began now
EndsDoing run lines text line s lanes began now (Err stop) = StopsInLine run lines text began now stop

-- A line that was answered, or in which the session stopped. A resume wants the tracks that the row owed. Where the session had ended before the
-- line, all stays applied, and no device stops it.
abbrev pub EndsLine : {S : Type 0} → ScriptRun → List Answered → (text : List ℕ) → Line → SessionState → List (Lane S) → (began now : PlantState) → Result (Unit {0}) Stop → Type 0
EndsLine run lines text line s lanes began now (Ok done) =
    (a : Answered) × (a.line ≡ line) × (a.text ≡ text) × ((trail : Trail) × HasAnswered run (lines ++ a ∷ []) trail [] s lanes began now × WantsAsOwed run lines trail text began a s)
EndsLine run lines text line s lanes began now (Err stop) =
    StopsInLine run lines text began now stop × StaysApplied run lines began now × (IsTrue (stage_after_text run lines text began).table.is_ended → IsStopAfterEnd stop)

-- A session that was finished after its lines, or that stopped meanwhile.
abbrev pub EndsFinishing : ScriptRun → List Answered → (began now : PlantState) → Result (Unit {0}) Stop → Type 0
EndsFinishing run lines began now (Ok done) = (trail : Trail) × IsRunDone run lines trail began now
EndsFinishing run lines began now (Err stop) = StopsInLine run lines [] began now stop

-- ---- in each run

-- the session by which runs are known: as it stood before a line, or after it if it hadn't started
abbrev pub known_by : (before after : SessionState) → SessionState
known_by before after = elim before.site [ None ↦ after | Some site ↦ before ]

-- In each run over what its lanes read and its volumes failed, a line that was heard whole is done, or the session stops in it.
abbrev pub DoesLine : {S : Type 0} → (left : S → Option (List ℕ)) → Line → (s next : SessionState) → (lanes after : List (Lane S)) → (began old new : PlantState) → Result LineAnswer Stop → Type 0
DoesLine left line s next lanes after began old new result = (run : ScriptRun) (lines : List Answered) (trail : Trail) (text : List ℕ)
    → IsRunOver left run (known_by s next) lanes after began new → HasHeard run lines trail text line s lanes began old → EndsDoing run lines text line next after began new result

-- So it is answered after those before it.
abbrev pub AnswersLine : {S : Type 0} → (left : S → Option (List ℕ)) → Line → (s next : SessionState) → (lanes after : List (Lane S)) → (began old new : PlantState) → Result (Unit {0}) Stop → Type 0
AnswersLine left line s next lanes after began old new result = (run : ScriptRun) (lines : List Answered) (trail : Trail) (text : List ℕ)
    → IsRunOver left run (known_by s next) lanes after began new → HasHeard run lines trail text line s lanes began old → EndsLine run lines text line next after began new result

-- In each run that has answered its lines and heard the script's end, all is applied and marked, or the session stops meanwhile.
abbrev pub FinishesRuns : (s : SessionState) → (began old new : PlantState) → Result (Unit {0}) Stop → Type 0
FinishesRuns s began old new result = (run : ScriptRun) (lines : List Answered) (trail : Trail) → RisesCover run began new → old.script ≡ [] → RunGoesOn run lines [] began old
    → AreExact run lines trail → StandsAfterLines run lines (stage_after_text run lines [] began) trail s began old → EndsFinishing run lines began new result

-- In each run whose traces turn out so, work for the time of a line may begin at a leg, and comes to the line's time.
abbrev pub BringsOn : {S : Type 0} → (left : S → Option (List ℕ)) → (limit : ℕ) → (lanes after : List (Lane S)) → (kept kept_now : SessionParts) → (site site_now : SiteState) → (began old new : PlantState) → Result (Unit {0}) Stop → Type 0
BringsOn left limit lanes after kept kept_now site site_now began old new result = (run : ScriptRun) (stage : Stage) (line : Line) (asked : LinesAsked) (l : Leg) (first : Point) (points : List PassedPoint)
    → line.time.0 ≡ limit → run.level ≡ site.level → IsSomeAnd kept.group (MayBring run stage line asked l first points site began old) → AllTurnOut left run.traces lanes after → RisesCover run began new
    → EndsBringing run stage line asked l first points site_now kept_now.group began old new result
