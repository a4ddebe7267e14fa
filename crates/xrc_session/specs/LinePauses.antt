-- What stands between two lines of a session: in memory and on the devices, and in a run.
use Rattle.std.specs.Prelude.{◌≡◌, ℕ, ◌+◌, ◌≤◌, ◌<◌, List, [], length, true, false, Option, Some, None, IfSome, IsSomeAnd, MatchOption, IsTrue}
use Rattle.xrc_edge.specs.declared.limits.TheConstants.{MOST_CONTROLS}
use Rattle.ckd_track.specs.declared.layout.TheConstants.{BLOCKS_OF_QUEUE, WRITES_OF_RUN}
use Rattle.crash_plant.specs.declared.device.Device.{Device}
use Rattle.crash_plant.specs.declared.device.Device.TheVariants.{Volume}
use Rattle.crash_plant.specs.Calls.{NoneLent}
use Rattle.crash_plant.specs.Choices.{AtNow}
use Rattle.crash_plant.specs.Moments.{PlantState, Stays, on}
use Rattle.pair_table.specs.Naming.{Naming, none_alike}
use Rattle.pair_table.specs.Tables.{new_table}
use Rattle.group_state.specs.Groups.{Group, new_group}
use Rattle.passages.specs.Points.{last_point}
use Rattle.record_rows.specs.Hits.{hit_now}
use Rattle.site_means.specs.Images.{shape_of}
use Rattle.site_store.specs.IdleSites.{IsSiteIdle}
use Rattle.site_store.specs.Commands.{LabelsFit, MayDo}
use Rattle.site_store.specs.Sites.{SiteState}
use Rattle.site_store.specs.Standing.{HasLengths, SiteStands}
use Rattle.site_store.specs.Exceptions.{Exceptions}
use Rattle.fed_logs.specs.Moves.{Plans}
use Rattle.fed_logs.specs.ShownBreaks.{BreaksAreToCome, BrokeAsTraces}
use Rattle.consistency.specs.Stages.{ScriptRun, Stage, breaks_of, names_of}
use Rattle.consistency.specs.Courses.{Answered, stage_at}
use Rattle.consistency.specs.Keeping.{stage_now}
use Rattle.consistency.specs.Steps.{names_at}
use Rattle.consistency.specs.Bearing.{ShowsPoint}
use Rattle.consistency.specs.Pauses.{RunGoesOn}
use Rattle.consistency.specs.Leads.{Point}
use Rattle.consistency.specs.Replying.{HasRunNames}
use Rattle.consistency.specs.Ways.{IsLegOf, Leg, PassedPoint, is_ending, stage_point}
use Rattle.xrc_session.specs.AppliedEnds.{StaysApplied}
use Rattle.xrc_session.specs.EpochPauses.{StandsBetween}
use Rattle.xrc_session.specs.Taking.{IsSoundForRows}
use Rattle.mover.specs.declared.lane.Lane.{Lane}
use Rattle.mover.specs.Epochs.{AllTurnOut, LanesBrokeAs, MayBeginEpoch, point_of}
use Rattle.mover.specs.Moves.{most_faults}
use Rattle.mover.specs.Rounds.{AreLanesOf}
use Rattle.mover.specs.TurningOut.{AllMayGoOn}
use Rattle.xrc_session.specs.Frames.{ChangesRows, rows_passed}
use Rattle.xrc_session.specs.Lanes.{HaveHeadsOf, primaries_in, sizes_of, HaveVolumes}
use Rattle.xrc_session.specs.MapsOwed.{MapsOwed, MapsRest}
use Rattle.xrc_session.specs.States.{SessionState, session_time}
use Rattle.xrc_session.specs.Trails.{AreExact, AreHitsOfFaults, AreNext, BeginsAtStart, GoesForth, Trail, asked_with, first_leg, last_leg}

-- ---- in memory and on the devices

-- The next line may bring the site on: an epoch may begin at the site's own time, and the shared state keeps the volumes of the site's rows.
pub record IsReadyForEpoch {S : Type 0} (tells : Type 0) (lanes : List (Lane S)) (site : SiteState) (plant : PlantState) (group : Group) : Type 0 where
  pub begins : MayBeginEpoch tells site.time group site plant
  pub lanes_of : AreLanesOf group site.time lanes
  pub kept : IsSoundForRows group site.told

-- The last cut of the shared state is this time.
abbrev pub HasCut : (time : ℕ) → Group → Type 0
HasCut time group = group.last.0 ≡ time

-- Any command may come to a site: nothing waits, and each failure of a volume with a row was told. The names label volumes of the plant alone.
pub record MayCommandSite (tells : Type 0) (names : Naming) (plant : PlantState) (site : SiteState) : Type 0 where
  pub idle : IsSiteIdle tells site plant
  pub told : hit_now site.failed site.told ≡ []
  pub commands : MayDo names site
  pub labels : LabelsFit plant names

-- A started session stands between two lines. Once it has ended, no record stands after the site's mark.
pub record IsAtSite {S : Type 0} (tells : Type 0) (s : SessionState) (lanes : List (Lane S)) (plant : PlantState) (site : SiteState) : Type 0 where
  pub table : s.table ≡ site.table
  pub session : site.table.session ≡ s.session
  pub controls : site.controls ≡ s.controls
  pub ended : s.is_ended ≡ site.table.is_ended
  pub flag : site.mark.ended ≡ site.table.is_ended
  pub may : MayCommandSite tells s.names plant site
  pub empty : site.table.is_ended ≡ true → site.at ≡ site.mark.at
  pub may_go_on : AllMayGoOn lanes
  pub ready : site.table.is_ended ≡ false → IsSomeAnd s.group (IsReadyForEpoch tells lanes site plant)
  pub cut : site.table.is_ended ≡ false → IsSomeAnd s.group (HasCut site.time)

-- A session that hasn't started has no row, knows no label, and has read nothing after the headers.
pub record IsUnstarted {S : Type 0} (s : SessionState) (lanes : List (Lane S)) : Type 0 where
  pub table : s.table ≡ new_table s.session
  pub labels : s.names.labels ≡ []
  pub broken : s.names.broken ≡ []
  pub goes_on : s.is_ended ≡ false
  pub fresh : s.group ≡ Some (new_group s.controls WRITES_OF_RUN BLOCKS_OF_QUEUE)
  pub lanes_of : AreLanesOf (new_group s.controls WRITES_OF_RUN BLOCKS_OF_QUEUE) 0 lanes

-- A session stands between two lines, also on a plant that tells nothing.
pub record IsBetween {S : Type 0} (tells : Type 0) (s : SessionState) (lanes : List (Lane S)) (plant : PlantState) : Type 0 where
  pub home : NoneLent plant
  pub few : (1 ≤ s.controls) × (s.controls ≤ MOST_CONTROLS)
  pub many : length lanes ≡ s.controls
  pub lengths : HasLengths s.controls plant
  pub volumes : 1 ≤ plant.volumes
  pub headed : HaveVolumes lanes
  pub named : s.names.primaries ≡ primaries_in 0 lanes
  pub apart : IsTrue (none_alike s.names.primaries)
  pub place : MatchOption s.site (IsUnstarted s lanes) (IsAtSite tells s lanes plant)

-- ---- a run

-- A run is a session's, as far as this has come: its level and its labels are known from the start on. What it may speak of has names.
pub record IsRunOfSession (s : SessionState) (run : ScriptRun) : Type 0 where
  pub names : HasRunNames run
  pub session : run.session ≡ s.session
  pub level : IfSome s.site (λ site. run.level ≡ site.level)
  pub labels : IfSome s.site (λ site. run.labels ≡ s.names.labels)

-- The counts of volumes end below the largest number, and rose by no more than a run has.
abbrev pub RisesCover : ScriptRun → (began now : PlantState) → Type 0
RisesCover run began now = (d : ℕ) → (now.faults (Volume d) < most_faults) × (now.faults (Volume d) ≤ began.faults (Volume d) + run.rises d)

-- No volume's count has fallen since the run began.
abbrev pub AreCountsFrom : (began now : PlantState) → Type 0
AreCountsFrom began now = (d : ℕ) → began.faults (Volume d) ≤ now.faults (Volume d)

-- A run is over what lanes read from first to last and over what a plant's volumes failed: it has their traces and at least these faults.
pub record IsRunOver {S : Type 0} (left : S → Option (List ℕ)) (run : ScriptRun) (s : SessionState) (first last : List (Lane S)) (began now : PlantState) : Type 0 where
  pub its : IsRunOfSession s run
  pub heads : HaveHeadsOf first run.traces
  pub traces : AllTurnOut left run.traces first last
  pub rises : RisesCover run began now

-- ---- a session under way

-- what is meant of a site between its calls: nothing is due, and the session has ended by the mark
abbrev pub site_point : SiteState → Point
site_point site = record (point_of site) { is_ended = site.mark.ended }

-- Every crash leaves the site, but for some tracks, and the shared state stands for its rows.
pub record StandsForSite (run : ScriptRun) (site : SiteState) (group : Group) (now : PlantState) : Type 0 where
  pub excepted : Exceptions
  pub done : Plans
  pub stands : SiteStands excepted site now
  pub rows : StandsBetween now (record { run = run; size = sizes_of run.traces; excepted = excepted; group = group; point = site_point site; done = done })

-- What an epoch goes on from after points that were passed from a first one on, until the session has ended.
--   broke, come: controllers broke as their traces do, and the others will
--   last: the last of the points has the site's rows
--   maps, maps_rest: suspended rows owe what their maps have, and what maps stand on is there
pub record GoesOnFrom (run : ScriptRun) (first : Point) (points : List PassedPoint) (site : SiteState) (now : PlantState) (group : Group) : Type 0 where
  pub rows : StandsForSite run site group now
  pub broke : BrokeAsTraces run.traces group
  pub come : BreaksAreToCome run.traces site.time group
  pub last : (last_point first points).rows ≡ site.told
  pub maps : MapsOwed run first points (site_point site) group
  pub maps_rest : MapsRest (site_point site) group

-- A started session stands in a run at a leg of a stage, whose point is the site's. Each hit up to there needed a fault since the run began.
pub record StandsAtLeg (run : ScriptRun) (stage : Stage) (l : Leg) (site : SiteState) (began now : PlantState) : Type 0 where
  pub here : l.point ≡ site_point site
  pub shows : AtNow (ShowsPoint run (shape_of now) (site_point site)) now
  pub leg : IsLegOf run stage l
  pub counted : AreHitsOfFaults l began now

-- A started session is under way in a run, at a stage after some lines: its devices have gone to the point of a leg of the stage.
pub record IsUnderWay (run : ScriptRun) (lines : List Answered) (stage : Stage) (trail : Trail) (s : SessionState) (began now : PlantState) (site : SiteState) : Type 0 where
  pub some : 0 < trail.started
  pub started : trail.started ≤ length lines
  pub begins : BeginsAtStart run lines trail
  pub rowless : (first_leg run lines trail).point.rows ≡ []
  pub next : AreNext run lines stage.next trail
  pub goes_forth : 0 < now.clock → GoesForth run lines stage.next trail None began now
  pub at : StandsAtLeg run stage (last_leg run lines trail) site began now
  pub goes_on : site.table.is_ended ≡ false → IsSomeAnd s.group (GoesOnFrom run (first_leg run lines trail).point trail.points site now)

-- ---- at rest

-- A leg has come to rest after lines: at the point of the stage, with no change and no mark since.
pub record HasComeToRest (run : ScriptRun) (lines : List Answered) (l : Leg) : Type 0 where
  pub point : l.point ≡ stage_point (stage_at run lines (length lines))
  pub changes : l.changes ≡ []
  pub marked : l.marked ≡ []
  pub answered : l.answered ≡ length lines
  pub not_ending : is_ending run (asked_with lines None) l ≡ false

-- A started session rests after its lines. Until it has ended, its names are those at its time.
pub record RestsAtSite (run : ScriptRun) (lines : List Answered) (stage : Stage) (trail : Trail) (s : SessionState) (began now : PlantState) (site : SiteState) : Type 0 where
  pub under_way : IsUnderWay run lines stage trail s began now site
  pub rest : HasComeToRest run lines (last_leg run lines trail)
  pub named : site.table.is_ended ≡ false → s.names ≡ names_at site.time (breaks_of run) (names_of run)

abbrev pub LeavesAll : (old new : PlantState) → Type 0
LeavesAll old new = (d : Device) → Stays (on old d) (on new d)

-- A session that hasn't started has passed no point, and no device was worked on.
pub record HasNotBegun (trail : Trail) (began now : PlantState) : Type 0 where
  pub started : trail.started ≡ 0
  pub points : trail.points ≡ []
  pub devices : LeavesAll began now

-- What a session has come to in a run after its lines, at a stage there: its table is the stage's. Of the volumes only slots of its points' rows
-- were written.
pub record StandsAfterLines (run : ScriptRun) (lines : List Answered) (stage : Stage) (trail : Trail) (s : SessionState) (began now : PlantState) : Type 0 where
  pub its : IsRunOfSession s run
  pub table : stage.table ≡ s.table
  pub volumes : ChangesRows (rows_passed trail.points) began now
  pub place : MatchOption s.site (HasNotBegun trail began now) (RestsAtSite run lines stage trail s began now)

-- the stage after lines where this was heard of the next one
abbrev pub stage_after_text : ScriptRun → List Answered → (text : List ℕ) → (began : PlantState) → Stage
stage_after_text run lines text began = stage_now run began.script lines text

-- A session has answered these lines in a run since a plant's state, each exactly, has heard so much of the next one, and stands after them. Its
-- lanes have broken as their traces do below its time. After a line after which it has ended all stays applied.
pub record HasAnswered {S : Type 0} (run : ScriptRun) (lines : List Answered) (trail : Trail) (text : List ℕ) (s : SessionState) (lanes : List (Lane S)) (began now : PlantState) : Type 0 where
  pub goes : RunGoesOn run lines text began now
  pub exact : AreExact run lines trail
  pub stands : StandsAfterLines run lines (stage_after_text run lines text began) trail s began now
  pub broke : LanesBrokeAs (session_time s) run.traces lanes
  pub applied : StaysApplied run lines began now
