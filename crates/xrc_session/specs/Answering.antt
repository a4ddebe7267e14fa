-- What a line's command leaves of a site and of the shared state, once it was logged.
use Rattle.xrc_session.specs.MapsTaken.{WantsOwed}
use Rattle.std.specs.Prelude.{◌≡◌, ◌⊎◌, ℕ, ◌<◌, List, [], ◌∷◌, ◌++◌, length, fold, Bool, true, false, Option, Some, None, Result, Ok, Err, IsSomeAnd, IsTrue}
use Rattle.std.specs.List.{All, Contains, list_all}
use Rattle.crash_plant.specs.Choices.{AtNow}
use Rattle.crash_plant.specs.Moments.{PlantState}
use Rattle.pair_table.specs.declared.command.Change.{Change}
use Rattle.pair_table.specs.declared.command.Change.TheVariants as changes
use Rattle.pair_table.specs.declared.command.CommandError.{CommandError}
use Rattle.pair_table.specs.declared.command.CommandError.TheVariants as errors
use Rattle.pair_table.specs.declared.command.Refusal.{Refusal}
use Rattle.pair_table.specs.declared.names.NamedVolume.{NamedVolume}
use Rattle.pair_table.specs.declared.row.PairRow.{PairRow}
use Rattle.pair_table.specs.Commands.{answer, table_after}
use Rattle.pair_table.specs.Naming.{Naming, is_broken, none_alike}
use Rattle.pair_table.specs.Tables.{AreRowsSound, with_rows}
use Rattle.xrc_command.specs.declared.line.Line.{Line}
use Rattle.group_state.specs.Controls.{counts}
use Rattle.group_state.specs.Groups.{Group, control_at}
use Rattle.record_rows.specs.Hits.{hit_now}
use Rattle.record_rows.specs.ToldRows.{InPlaces}
use Rattle.row_changes.specs.Changes.{Timed}
use Rattle.row_changes.specs.Spans.{is_hit_at}
use Rattle.site_means.specs.Images.{shape_of}
use Rattle.site_store.specs.IdleSites.{IsSiteIdle}
use Rattle.site_store.specs.Commands.{IsToLog, LabelsFit, MayDo, after_command}
use Rattle.site_store.specs.Sites.{SiteState}
use Rattle.site_store.specs.Standing.{FitsPlant}
use Rattle.consistency.specs.Stages.{ScriptRun, Stage, accepts_end, breaks_of, names_of}
use Rattle.consistency.specs.Courses.{stage_after}
use Rattle.consistency.specs.Steps.{names_at, table_on_the_way}
use Rattle.mover.specs.Working.{LinesAsked}
use Rattle.consistency.specs.Answering.{answered_by, is_command_of, reply_content, points_before}
use Rattle.consistency.specs.Bearing.{ShowsPoint}
use Rattle.consistency.specs.Leads.{Point}
use Rattle.consistency.specs.Replying.{is_reported}
use Rattle.consistency.specs.Ways.{IsAtWork, IsCommanding, IsLegOf, IsToEnd, Leg, MayTakeEffect, PassedPoint, Way, leg_after, leg_by, stage_point, table_at}
use Rattle.consistency.specs.Ways.Way.{Commanded, Ending, MarkedFor, OnTheWay}
use Rattle.xrc_session.specs.Taking.{after_calls, calls_of_change}
use Rattle.mover.specs.Epochs.{IsSamePair}
use Rattle.xrc_status.specs.declared.stop.Stop.{Stop}
use Rattle.xrc_status.specs.declared.stop.Stop.TheVariants.{NoMemory}
use Rattle.xrc_session.specs.declared.answering.LineAnswer.{LineAnswer}
use Rattle.xrc_session.specs.declared.kept.SessionParts.{SessionParts}
use Rattle.xrc_session.specs.LinePauses.{GoesOnFrom, HasCut, MayCommandSite, RisesCover, StandsAtLeg, StandsForSite, site_point}
use Rattle.xrc_session.specs.Steps.{BeginsToPass, PassesPointsOn, SaysAnswer}
use Rattle.xrc_session.specs.Trails.{AreHitsOfFaults}

-- ---- answers

abbrev pub is_end_accepted : Result Change Refusal → Bool
is_end_accepted (Ok changes.Ended) = true
is_end_accepted (Ok change) = false
is_end_accepted (Err why) = false

-- the answer of a command that was done or refused, if there was memory for it
abbrev pub answer_said : Result Change CommandError → Result (Result Change Refusal) Stop
answer_said (Ok change) = Ok (Ok change)
answer_said (Err (errors.Refused why)) = Ok (Err why)
answer_said (Err errors.NoMemory) = Err NoMemory

-- what became of a change that was logged, with the tracks that are to be copied by it
abbrev pub change_result : Change → Result ℕ Stop → Result LineAnswer Stop
change_result change (Ok tracks) = Ok (record { answer = Ok change; tracks = tracks })
change_result change (Err stop) = Err stop

-- ---- the shared state

-- The controllers that aren't named as broken count. The volumes that are named are of controllers, and no two are alike.
pub record ControlsCount (names : Naming) (group : Group) : Type 0 where
  pub counted : (k : ℕ) → k < length group.controls → is_broken k names ≡ false → IsTrue (counts (control_at group k).phase)
  pub below : (v : NamedVolume) → Contains names.primaries v → v.control < length group.controls
  pub apart : IsTrue (none_alike names.primaries)

-- the shared state once a line's change was taken over, with the rows before its command and after the suspensions that follow it
abbrev pub group_taken : Result Change Refusal → (before after : List PairRow) → Group → Group
group_taken (Ok change) before after s = after_calls (calls_of_change change s before after) s
group_taken (Err why) before after s = s

-- ---- the site

-- A line's command was answered with a change by a site of a started session, whose failures were told, and the site is left so.
pub record IsDoneFrom (names : Naming) (line : Line) (change : Change) (was site : SiteState) (plant : PlantState) : Type 0 where
  pub fits : FitsPlant was plant
  pub labels : LabelsFit plant names
  pub started : was.table.is_started ≡ true
  pub told : hit_now was.failed was.told ≡ []
  pub same : was.told ≡ was.table.rows
  pub done : answer names was.table line.session line.command ≡ Ok change
  pub site_is : site ≡ after_command names line.session line.command line.time.0 change was

-- A change is to be logged at the time of its line: its site is the one after the command, to which it came.
pub record MayLogChange (tells : Type 0) (names : Naming) (line : Line) (change : Change) (before : List PairRow) (site : SiteState) (plant : PlantState) : Type 0 where
  pub was : SiteState
  pub may : MayCommandSite tells names plant was
  pub from : IsDoneFrom names line change was site plant
  pub rows : before ≡ was.told
  pub at : was.time ≡ line.time.0
  pub again : MayDo names site
  pub rules : AreRowsSound site.table.rows
  pub to_log : IsToLog change site

-- A site after calls that leave its time, its level and its mark's flag, and log no group. Any command may come, and the table has these flags and
-- the rows that the devices tell.
pub record IsSiteAfter (tells : Type 0) (names : Naming) (old new : SiteState) (plant : PlantState) : Type 0 where
  pub may : MayCommandSite tells names plant new
  pub controls : new.controls ≡ old.controls
  pub level : new.level ≡ old.level
  pub time : new.time ≡ old.time
  pub table : new.table ≡ with_rows old.table new.told
  pub flag : new.mark.ended ≡ old.mark.ended
  pub marked : old.since ≡ 0 → new.since ≡ 0

-- A site after the command of a line, which was answered so. The table is the one after the command, but for rows that were hit. An end that is
-- accepted leaves the rows, and no volume is written for it.
pub record IsSiteCommanded (tells : Type 0) (names : Naming) (line : Line) (answered : Result Change Refusal) (old new : SiteState) (plant : PlantState) : Type 0 where
  pub answer_is : answered ≡ answer names old.table line.session line.command
  pub may : MayCommandSite tells names plant new
  pub controls : new.controls ≡ old.controls
  pub level : new.level ≡ old.level
  pub time : new.time ≡ old.time
  pub table : new.table ≡ with_rows (table_after names old.table line.session line.command line.time.0) new.told
  pub flag : new.mark.ended ≡ old.mark.ended
  pub marked : old.since ≡ 0 → new.since ≡ 0
  pub same : old.table.is_ended ≡ true → new ≡ old
  pub at_end : IsTrue (is_end_accepted answered) → (new.told ≡ old.told) × (new.written ≡ old.written)

-- A site after a mark, by which the session ends or goes on. No record stands after the mark. A command may come if one could before.
pub record IsMarkedSite (tells : Type 0) (ended : Bool) (old new : SiteState) (plant : PlantState) : Type 0 where
  pub idle : IsSiteIdle tells new plant
  pub told : hit_now new.failed new.told ≡ []
  pub controls : new.controls ≡ old.controls
  pub level : new.level ≡ old.level
  pub time : new.time ≡ old.time
  pub table : new.table ≡ with_rows old.table new.told
  pub pairs : InPlaces IsSamePair old.told new.told
  pub flag : new.mark.ended ≡ ended
  pub marked : new.since ≡ 0
  pub empty : new.at ≡ new.mark.at
  pub commands : (names : Naming) → MayDo names old → MayDo names new

-- A site after a line: after its command, and after the mark of an end that it accepts.
pub record IsSiteAnswered (tells : Type 0) (names : Naming) (line : Line) (answered : Result Change Refusal) (old new : SiteState) (plant : PlantState) : Type 0 where
  pub answer_is : answered ≡ answer names old.table line.session line.command
  pub may : MayCommandSite tells names plant new
  pub controls : new.controls ≡ old.controls
  pub level : new.level ≡ old.level
  pub time : new.time ≡ old.time
  pub table : new.table ≡ with_rows (table_after names old.table line.session line.command line.time.0) new.told
  pub flag : new.mark.ended ≡ new.table.is_ended
  pub marked : old.since ≡ 0 → new.since ≡ 0
  pub empty : new.table.is_ended ≡ true → (new.at ≡ new.mark.at) ⊎ (new ≡ old)

-- ---- a command in a run

-- The command of a line that was heard may come at a leg: the session was brought to its time, or it has ended.
--   fresh: none of the points so far is of the line
--   active: the names are those at the line's time, and the command may take effect
--   ended: the leg is at the point of its stage
pub record MayAnswer (run : ScriptRun) (stage : Stage) (line : Line) (asked : LinesAsked) (l : Leg) (first : Point) (points : List PassedPoint) (names : Naming) (site : SiteState) (group : Option Group) (began now : PlantState) : Type 0 where
  pub heard : stage.next ≡ Some line
  pub asked_is : asked l.answered ≡ Some line
  pub marked : l.marked ≡ []
  pub fresh : All (λ n. is_command_of l.answered n.way ≡ false) points
  pub level : run.level ≡ site.level
  pub at : StandsAtLeg run stage l site began now
  pub active : site.table.is_ended ≡ false → MayTakeEffect run line l × IsAtWork run asked l × (names ≡ names_at line.time.0 (breaks_of run) (names_of run))
  pub ended : site.table.is_ended ≡ true → (l.point ≡ stage_point stage) × (l.changes ≡ [])
  pub goes_on : site.table.is_ended ≡ false → IsSomeAnd group (GoesOnFrom run first points site now)
  pub cut : site.table.is_ended ≡ false → IsSomeAnd group (HasCut site.time)

-- ---- a mark in a run

-- A mark may come at a leg: on the way; or as the end of the session, after the command of an end that is accepted.
pub data IsMarkedAt (run : ScriptRun) (stage : Stage) (asked : LinesAsked) (l : Leg) : (ended : Bool) → Type 0 where
  IsOnWay : stage.next ≡ None → IsLegOf run stage l → l.point.time ≡ stage.replied → IsAtWork run asked l → IsMarkedAt run stage asked l false
  IsAtEnd : (number : ℕ) (before : Leg) (hits : List Timed) → IsLegOf run stage before → asked number ≡ stage.next → IsCommanding run stage.next before l.point hits → l ≡ leg_by before l.point (Commanded number hits) → IsToEnd number l
      → IsTrue (accepts_end run (table_at run l.point) stage.next) → IsMarkedAt run stage asked l true

-- It may end or go on by a mark there: the shared state stands for the site's rows.
pub record MayEndBy (run : ScriptRun) (stage : Stage) (asked : LinesAsked) (l : Leg) (ended : Bool) (site : SiteState) (began now : PlantState) : Type 0 where
  pub marked : IsMarkedAt run stage asked l ended
  pub here : l.point ≡ site_point site
  pub shows : AtNow (ShowsPoint run (shape_of now) l.point) now
  pub counted : AreHitsOfFaults l began now
  pub group : Group
  pub rows : StandsForSite run site group now

-- The session stands at the mark's point.
pub record HasMarked (run : ScriptRun) (l : Leg) (site : SiteState) (began now : PlantState) : Type 0 where
  pub here : l.point ≡ site_point site
  pub shows : AtNow (ShowsPoint run (shape_of now) l.point) now
  pub counted : AreHitsOfFaults l began now

-- the way of a mark, with hits in it: on the way, or as the end after the command of a line
abbrev pub way_of_mark : (ended : Bool) → (line : ℕ) → (hits : List Timed) → Way
way_of_mark false line hits = OnTheWay hits
way_of_mark true line hits = Ending line hits

-- How a mark ends: by its point, with hits at its time.
abbrev pub EndsMark : ScriptRun → Stage → LinesAsked → Leg → (ended : Bool) → SiteState → (began old new : PlantState) → Result (Unit {0}) Stop → Type 0
EndsMark run stage asked l ended site began old new (Ok done) = (n : PassedPoint) × ((line : ℕ) × ((hits : List Timed) × (n.way ≡ way_of_mark ended line hits) × IsTrue (list_all (is_hit_at l.point.time) hits)))
    × PassesPointsOn run stage asked l (n ∷ []) None old new × HasMarked run (leg_after l n) site began new
EndsMark run stage asked l ended site began old new (Err stop) = BeginsToPass run stage asked l old new

-- ---- how a command ends

-- the stage after a line whose command was done at a leg, before these hits; its texts don't count
abbrev pub stage_then : ScriptRun → Stage → Line → Leg → (hits : List Timed) → Stage
stage_then run stage line l hits = stage_after stage (answered_by run stage [] [] line l.changes hits)

-- These points answer the line with a number: its command, after a mark that its record needs first, and before the mark by which an accepted end
-- ends the session. The hits are those after the command.
pub data AreOfCommand (number : ℕ) (hits : List Timed) : List PassedPoint → Type 0 where
  OfCommand : (n : PassedPoint) → n.way ≡ Commanded number hits → AreOfCommand number hits (n ∷ [])
  OfEnd : (n m : PassedPoint) (own more : List Timed) → n.way ≡ Commanded number own → m.way ≡ Ending number more → hits ≡ own ++ more → AreOfCommand number hits (n ∷ m ∷ [])
  AfterMark : (n : PassedPoint) (points : List PassedPoint) → (n.way ≡ OnTheWay []) ⊎ ((marked : List Timed) × (n.way ≡ MarkedFor number marked)) → AreOfCommand number hits points → AreOfCommand number hits (n ∷ points)

-- The command of a line was done or refused after these points, at a leg whose changes it finds, and what it changes is logged with hits after it.
--   at: the session stands at the stage after the line
--   ending: or the command is an end that is accepted, and its mark may come
--   unhit: after a line that is answered with a report no hit stands
--   wants: a resume wants the tracks that the row owed
pub record HasCommanded (run : ScriptRun) (stage : Stage) (line : Line) (asked : LinesAsked) (l : Leg) (first : Point) (points more : List PassedPoint) (answered : LineAnswer) (site : SiteState) (began now : PlantState) (group : Option Group) : Type 0 where
  pub hits : List Timed
  pub by : AreOfCommand l.answered hits more
  pub at : site.mark.ended ≡ site.table.is_ended → StandsAtLeg run (stage_then run stage line l hits) (fold leg_after l more) site began now
  pub ending : site.table.is_ended ≡ true → site.mark.ended ≡ false → MayEndBy run stage asked (fold leg_after l more) true site began now
  pub unhit : IsTrue (is_reported run (table_on_the_way run.level l.changes stage.table) line) → hits ≡ []
  pub tells : (text reply : List ℕ) → SaysAnswer line (reply_content run stage first (points ++ more) l.answered (answered_by run stage text reply line l.changes hits)) answered
  pub goes_on : site.table.is_ended ≡ false → IsSomeAnd group (GoesOnFrom run first (points ++ more) site now)
  pub wants : (device : ℕ) → answered.answer ≡ Ok (changes.Resumed device) → site.table.is_ended ≡ false
      → IsSomeAnd group (WantsOwed run first (points_before l.answered (points ++ more)) device (table_on_the_way run.level l.changes stage.table).rows site.told line.time.0)

-- How it ends.
abbrev pub EndsCommand : ScriptRun → Stage → Line → LinesAsked → Leg → (first : Point) → List PassedPoint → SiteState → Option Group → (began old new : PlantState) → Result LineAnswer Stop → Type 0
EndsCommand run stage line asked l first points site group began old new (Ok answered) =
    (more : List PassedPoint) × PassesPointsOn run stage asked l more None old new × HasCommanded run stage line asked l first points more answered site began new group
EndsCommand run stage line asked l first points site group began old new (Err stop) = BeginsToPass run stage asked l old new

-- ---- in each run

-- In each run a command may come at a leg, and is done or refused.
abbrev pub AnswersCommands : Line → (kept kept_now : SessionParts) → (site site_now : SiteState) → (began old new : PlantState) → Result LineAnswer Stop → Type 0
AnswersCommands line kept kept_now site site_now began old new result = (run : ScriptRun) (stage : Stage) (asked : LinesAsked) (l : Leg) (first : Point) (points : List PassedPoint)
    → MayAnswer run stage line asked l first points kept.names site kept.group began old → RisesCover run began new → EndsCommand run stage line asked l first points site_now kept_now.group began old new result

-- So it is where a site had done the command already, and its change is logged.
abbrev pub LogsCommands : Line → Change → (kept kept_now : SessionParts) → (site site_now : SiteState) → (began old new : PlantState) → Result LineAnswer Stop → Type 0
LogsCommands line change kept kept_now site site_now began old new result = (was : SiteState) → IsDoneFrom kept.names line change was site old
    → AnswersCommands line kept kept_now was site_now began old new result

-- In each run a mark may come at a leg, and is made.
abbrev pub MarksOn : (ended : Bool) → (site site_now : SiteState) → (began old new : PlantState) → Result (Unit {0}) Stop → Type 0
MarksOn ended site site_now began old new result = (run : ScriptRun) (stage : Stage) (asked : LinesAsked) (l : Leg)
    → MayEndBy run stage asked l ended site began old → RisesCover run began new → EndsMark run stage asked l ended site_now began old new result
