-- What a crash may leave while a session begins: from a run's beginning until its start is answered.
use Rattle.std.specs.Prelude.{◌≡◌, ◌≢◌, ◌⊎◌, ℕ, ◌<◌, ◌≤◌, ◌==◌, List, [], ◌++◌, length, false, Option, Some, None, Result, Ok, IfErr, IsErrOf, OnOk, IfSome, IsSomeAnd, MatchOption, codes, bytes_eq, if◌then◌else◌, IsTrue}
use Rattle.std.specs.List.{All}
use Rattle.xrc_edge.specs.declared.limits.TheConstants.{MOST_CONTROLS}
use Rattle.crash_plant.specs.Calls.{Elapses, NoneLent, SameSite, Silent}
use Rattle.crash_plant.specs.Choices.{AtEveryMoment, AtMoment, AtNow, Choice, IsChoice}
use Rattle.crash_plant.specs.declared.device.Device.TheVariants.{Control, Journal, Volume}
use Rattle.crash_plant.specs.Moments.{IsDurable, PlantState, on}
use Rattle.control_set.specs.Slots.{lengths_of}
use Rattle.pair_table.specs.declared.level.Level.{Level}
use Rattle.pair_table.specs.declared.command.Change.TheVariants.{Started}
use Rattle.pair_table.specs.declared.command.Command.TheVariants.{Start, AddPair, DelPair, Suspend, Query, End}
use Rattle.pair_table.specs.Naming.{Naming}
use Rattle.sidefile.specs.Breaks.{stamp}
use Rattle.xquery_report.specs.Replies.{reply_line}
use Rattle.state_set.specs.Slots.{started_table}
use Rattle.ckd_track.specs.declared.layout.TheConstants.{BLOCKS_OF_QUEUE, WRITES_OF_RUN}
use Rattle.group_state.specs.Groups.{Group, new_group}
use Rattle.site_means.specs.declared.means.Means.{Means}
use Rattle.site_means.specs.Images.{shape_of}
use Rattle.site_means.specs.Meaning.{chosen_in}
use Rattle.site_means.specs.Sight.{means_of}
use Rattle.xrc_command.specs.declared.line.Line.{Line}
use Rattle.site_store.specs.Formats.{ShutsFirst, started_means}
use Rattle.site_store.specs.Records.{VolumesStay}
use Rattle.site_store.specs.Sites.{SiteState, first_mark}
use Rattle.site_store.specs.Standing.{HasLengths}
use Rattle.consistency.specs.Stages.{ScriptRun, Stage}
use Rattle.consistency.specs.Courses.{Answered, AreAsked, last_line_time, lines_begun, next_line, texts_of}
use Rattle.consistency.specs.Bearing.{ShowsPoint}
use Rattle.mover.specs.declared.lane.Lane.{Lane}
use Rattle.mover.specs.Epochs.{AllTurnOut}
use Rattle.mover.specs.Rounds.{AreLanesOf}
use Rattle.xrc_status.specs.declared.stop.Stop.{Stop}
use Rattle.xrc_session.specs.LinePauses.{AreCountsFrom, GoesOnFrom, HasCut, IsReadyForEpoch, LeavesAll, MayCommandSite, RisesCover, site_point}
use Rattle.xrc_session.specs.Lanes.{HaveHeadsOf, with_lanes_broken}
use Rattle.xrc_status.specs.declared.stop.Stop.TheVariants.{Spent}
use Rattle.xrc_session.specs.Stops.{HasStopCause, IsSpentNow, StopsByCount}

-- What a crash leaves means just the session that starts at a time: with this name and level, without a row, and not ended.
pub record MeansStart (session : List ℕ) (level : Level) (at : ℕ) (plant : PlantState) (c : Choice) : Type 0 where
  pub means : Means
  pub defined : means_of plant c ≡ Some means
  pub session_is : means.session ≡ session
  pub level_is : means.level ≡ level
  pub time : means.time.0 ≡ at
  pub rows : means.table.rows ≡ []
  pub ended : means.ended ≡ false

-- The site that was is shut. The slots of the control are as they were or closed, the mark that counted counts or none does, and the state and the
-- first journal are as they were until both slots are closed. The other journals are as they were.
pub record ShutsSite (lengths : List ℕ) (b c : Choice) : Type 0 where
  pub first : ShutsFirst lengths b c
  pub journals : (j : ℕ) → 1 ≤ j → c (Journal j) ≡ b (Journal j)

-- The site that was is shut, or what a crash leaves means the session that starts. So nothing that an earlier mark names is written over while that
-- mark may count.
abbrev pub ShutsOrStarts : (session : List ℕ) → Level → (at : ℕ) → (plant : PlantState) → (b c : Choice) → Type 0
ShutsOrStarts session level at plant b c = ShutsSite (lengths_of plant) b c ⊎ MeansStart session level at plant c

-- A choice comes so from one that a crash could leave at first.
abbrev pub ComesSafely : (session : List ℕ) → Level → (at : ℕ) → PlantState → Choice → Type 0
ComesSafely session level at old c = (b : Choice) × IsChoice old old.clock b × ShutsOrStarts session level at old b c

-- Up to a moment each choice does.
abbrev pub IsSafeUpTo : (session : List ℕ) → Level → (at to : ℕ) → (old new : PlantState) → Type 0
IsSafeUpTo session level at to old new = (t : ℕ) → old.clock ≤ t → t ≤ to → (c : Choice) → IsChoice new t c → ComesSafely session level at old c

-- So it is to the end of the calls, where a crash left at first of the control what a read gives.
abbrev pub IsSafeThroughout : (session : List ℕ) → Level → (at : ℕ) → (old new : PlantState) → Type 0
IsSafeThroughout session level at old new = IsDurable (on old Control) → IsSafeUpTo session level at new.clock old new

-- At the end of calls, also on a plant that keeps no past: each volume holds what it held, and a crash leaves of it what it could leave at first. If a
-- crash left of the controller at first what a read gives, each choice comes safely.
pub record IsSafeNow (session : List ℕ) (level : Level) (at : ℕ) (old new : PlantState) : Type 0 where
  pub bytes : (d : ℕ) → d < old.volumes → new.bytes (Volume d) ≡ old.bytes (Volume d)
  pub images : (d : ℕ) → d < old.volumes → (c : List ℕ) → new.images new.clock (Volume d) c → old.images old.clock (Volume d) c
  pub safe : IsDurable (on old Control) → AtNow (ComesSafely session level at old) new

-- A session was formatted by a moment. Up to an earlier one the site that was is shut, or what a crash leaves means just the session that starts, from
-- the first record's spot. At that moment its first mark counts, which has number 1.
pub record FormatsFirst (session : List ℕ) (level : Level) (at : ℕ) (old new : PlantState) (to : ℕ) : Type 0 where
  pub formatted_at : ℕ
  pub since : old.clock ≤ formatted_at
  pub within : formatted_at ≤ to
  pub before : (t : ℕ) → old.clock ≤ t → t ≤ formatted_at → (c : Choice) → IsChoice new t c → (b : Choice) × IsChoice old old.clock b × (ShutsSite (lengths_of old) b c ⊎ (means_of old c ≡ Some (started_means session level (stamp at))))
  pub first : AtMoment (λ c. chosen_in (shape_of old) c ≡ Ok (Some (first_mark session (stamp at)))) new formatted_at

-- Up to a moment a crash leaves of each volume what it could leave at first.
abbrev pub LeavesVolumes : (to : ℕ) → (old new : PlantState) → Type 0
LeavesVolumes to old new = (t : ℕ) → old.clock ≤ t → t ≤ to → (c : Choice) → IsChoice new t c → (d : ℕ) → d < old.volumes → old.images old.clock (Volume d) (c (Volume d))

-- Calls start a session: it is safe throughout, and the volumes hold what they held. Once anything was said, whatever a crash leaves means just the
-- session that starts, which was formatted first.
pub record StartsSafely (session : List ℕ) (level : Level) (at : ℕ) (old new : PlantState) : Type 0 where
  pub safe : IsSafeUpTo session level at new.clock old new
  pub volumes : LeavesVolumes new.clock old new
  pub means : (t : ℕ) → old.clock ≤ t → t ≤ new.clock → new.said t ≢ old.said old.clock → AtMoment (MeansStart session level at old) new t
  pub formats : (t : ℕ) → old.clock ≤ t → t ≤ new.clock → new.said t ≢ old.said old.clock → FormatsFirst session level at old new t

-- Calls start a session: they end safely. On a plant that keeps its past it is safe throughout, if a crash left of the control at first what a read
-- gives.
pub record BeginsSafely (session : List ℕ) (level : Level) (at : ℕ) (old new : PlantState) : Type 0 where
  pub now : IsSafeNow session level at old new
  pub throughout : 0 < old.clock → IsDurable (on old Control) → StartsSafely session level at old new

-- Nothing of a reply was said: nothing at all, or what begins as the line of a status does. A reply begins with a digit of its time.
abbrev pub IsUnsaid : (before said : List ℕ) → Type 0
IsUnsaid before said = (said ≡ before) ⊎ ((rest : List ℕ) × (said ≡ before ++ (codes "S" ++ rest)))

-- the reply to a start that is done
abbrev pub reply_to_start : Level → (at : ℕ) → List ℕ
reply_to_start level at = reply_line at (Start level) (Ok Started) 0 (Some (stamp at))

-- It was said whole, after what was said at first.
pub record HasRepliedToStart (level : Level) (at : ℕ) (old new : PlantState) : Type 0 where
  pub before : List ℕ
  pub later : List ℕ
  pub said : new.said new.clock ≡ old.said old.clock ++ (before ++ reply_to_start level at ++ later)

-- the line that asks for a start
abbrev pub start_line : (session : List ℕ) → Level → (at : ℕ) → Line
start_line session level at = record { time = stamp at; session = session; command = Start level }

-- the level of a start that a session of this name accepts that hasn't started
abbrev pub level_started : (session : List ℕ) → Line → Option Level
level_started session line = elim line.command [
  | Start level ↦ if bytes_eq line.session session then Some level else None
  | AddPair primary secondary group ↦ None
  | DelPair choice ↦ None
  | Suspend choice ↦ None
  | Query ↦ None
  | End ↦ None
]

-- A start stands so in a script: as the next line that counts after these lines, each of which counts and starts nothing. Of these lines only the
-- texts and what they ask matter.
pub record IsStartOfScript (session : List ℕ) (level : Level) (at : ℕ) (script : List ℕ) (lines : List Answered) (text : List ℕ) : Type 0 where
  pub asked : AreAsked script lines
  pub unstarted : All (λ a. level_started session a.line ≡ None) lines
  pub asks : next_line (length lines) (last_line_time lines (length lines)) (length (texts_of lines ++ text) == length script) text ≡ Some (start_line session level at)
  pub one_line : lines_begun text ≤ 1
  pub left : List ℕ
  pub front : script ≡ texts_of lines ++ text ++ left

-- A start was heard, after other lines. Until then a crash leaves what it could leave at first. From then on it is safe up to a moment, at which
-- the reply was said whole, or at the end of the calls if it wasn't, and up to it the volumes hold what they held; there it means just the session
-- that starts, which was formatted first, unless nothing of the reply was said.
pub record StartsAfter (session : List ℕ) (level : Level) (at : ℕ) (old new : PlantState) : Type 0 where
  pub lines : List Answered
  pub text : List ℕ
  pub start : IsStartOfScript session level at old.script lines text
  pub heard_at : ℕ
  pub since : old.clock ≤ heard_at
  pub heard : new.heard heard_at ≡ old.heard old.clock ++ (texts_of lines ++ text)
  pub untouched : (t : ℕ) → old.clock ≤ t → t ≤ heard_at → (c : Choice) → IsChoice new t c → IsChoice old old.clock c
  pub replied_at : ℕ
  pub later : heard_at ≤ replied_at
  pub within : replied_at ≤ new.clock
  pub reached : (new.said replied_at ≡ new.said heard_at ++ reply_to_start level at) ⊎ (replied_at ≡ new.clock)
  pub safe : IsSafeUpTo session level at replied_at old new
  pub volumes : LeavesVolumes replied_at old new
  pub means : IsUnsaid (new.said heard_at) (new.said replied_at) ⊎ AtMoment (MeansStart session level at old) new replied_at
  pub formats : IsUnsaid (new.said heard_at) (new.said replied_at) ⊎ FormatsFirst session level at old new replied_at

-- A start was heard whole.
pub record HearsStart (session : List ℕ) (level : Level) (at : ℕ) (old new : PlantState) : Type 0 where
  pub lines : List Answered
  pub text : List ℕ
  pub later : List ℕ
  pub start : IsStartOfScript session level at old.script lines text
  pub heard : new.heard new.clock ≡ old.heard old.clock ++ (texts_of lines ++ text ++ later)

-- No device was worked on, or a start was heard whole. Then its reply was said whole, or the calls end safely. On a plant that keeps its past the
-- session starts safely, if a crash left of the control at first what a read gives.
pub data BeginsRun (session : List ℕ) (old new : PlantState) : Type 0 where
  Unstarted : LeavesAll old new → BeginsRun session old new
  Starting : (level : Level) (at : ℕ) → HearsStart session level at old new → HasRepliedToStart level at old new ⊎ IsSafeNow session level at old new → (0 < old.clock → IsDurable (on old Control) → StartsAfter session level at old new) → BeginsRun session old new

-- A line is answered before the start: no device is worked on, unless it is a start that is accepted.
abbrev pub BeginsByLine : (session : List ℕ) → Line → (old new : PlantState) → Type 0
BeginsByLine session line old new =
    MatchOption (level_started session line) (LeavesAll old new) (λ level. BeginsSafely session level line.time.0 old new)

-- A start that is accepted was replied to.
abbrev pub RepliesToStart : (session : List ℕ) → Line → (old new : PlantState) → Type 0
RepliesToStart session line old new = IfSome (level_started session line) (λ level. new.said new.clock ≡ old.said old.clock ++ reply_to_start level line.time.0)

-- A start was heard and replied to whole, after other lines.
pub record HasStartedRun (session : List ℕ) (old new : PlantState) : Type 0 where
  pub level : Level
  pub at : ℕ
  pub hears : HearsStart session level at old new
  pub replied : HasRepliedToStart level at old new
  pub after : 0 < old.clock → IsDurable (on old Control) → (b : StartsAfter session level at old new) × (new.said b.replied_at ≡ new.said b.heard_at ++ reply_to_start level at)

-- What has begun of a run where its session stands between lines: no device was worked on before its start.
abbrev pub HasBegunRun : (session : List ℕ) → (site : Option SiteState) → (old new : PlantState) → Type 0
HasBegunRun session None old new = LeavesAll old new
HasBegunRun session (Some site) old new = HasStartedRun session old new

-- ---- spent numbers

-- A session's own numbers are spent in a run: the session has started, or its start was heard and whatever a crash leaves means just the session that
-- starts.
pub record AreOwnSpent (run : ScriptRun) (s : Stage) (began now : PlantState) : Type 0 where
  pub spent : IsSpentNow now
  pub own : IsTrue s.table.is_started ⊎ IsSomeAnd s.next (λ line. IsSomeAnd (level_started run.session line) (λ level. AtNow (MeansStart run.session level line.time.0 began) now))

-- ---- in the work for a start

-- A session of so many controllers may be started at a time: it knows no label, no controller has broken, and its lanes have read nothing after the
-- headers.
pub record MayBeStarted {S : Type 0} (controls at : ℕ) (names : Naming) (group : Option Group) (lanes : List (Lane S)) (plant : PlantState) : Type 0 where
  pub time : 1 ≤ at
  pub few : (1 ≤ controls) × (controls ≤ MOST_CONTROLS)
  pub home : NoneLent plant
  pub lengths : HasLengths controls plant
  pub labels : names.labels ≡ []
  pub broken : names.broken ≡ []
  pub fresh : group ≡ Some (new_group controls WRITES_OF_RUN BLOCKS_OF_QUEUE)
  pub lanes_of : AreLanesOf (new_group controls WRITES_OF_RUN BLOCKS_OF_QUEUE) 0 lanes

-- A site that has just been started stands after its first epoch, at the time of its start, without a row. The next line may bring it on.
pub record IsSiteStarted {S : Type 0} (tells : Type 0) (session : List ℕ) (level : Level) (controls at : ℕ) (lanes : List (Lane S)) (names : Naming) (group : Option Group) (plant : PlantState) (site : SiteState) : Type 0 where
  pub table : site.table ≡ started_table session []
  pub level_is : site.level ≡ level
  pub controls_are : site.controls ≡ controls
  pub time : site.time ≡ at
  pub flag : site.mark.ended ≡ false
  pub may : MayCommandSite tells names plant site
  pub broken : (was : Naming) → was.primaries ≡ names.primaries → was.labels ≡ names.labels → was.broken ≡ [] → names ≡ with_lanes_broken 0 lanes was
  pub ready : IsSomeAnd group (IsReadyForEpoch tells lanes site plant)
  pub cut : IsSomeAnd group (HasCut at)

-- In a run it stands for its rows, of which there are none, and whatever a crash leaves shows its point.
pub record StandsStarted (run : ScriptRun) (site : SiteState) (now : PlantState) (group : Group) : Type 0 where
  pub shows : AtNow (ShowsPoint run (shape_of now) (site_point site)) now
  pub goes_on : GoesOnFrom run (site_point site) [] site now group

-- Calls have started a session: whatever a crash leaves means just it, and it was formatted first.
pub record StandsAfterStart (session : List ℕ) (level : Level) (at : ℕ) (old new : PlantState) : Type 0 where
  pub means : AtNow (MeansStart session level at old) new
  pub formats : 0 < old.clock → IsDurable (on old Control) → FormatsFirst session level at old new new.clock

-- Calls start a session, or stop in it. It is safe throughout. Where numbers are spent, whatever a crash leaves means just the session that starts. If
-- they don't stop, it was formatted first.
pub record IsSafeStart {T : Type 0} (session : List ℕ) (level : Level) (at : ℕ) (old new : PlantState) (result : Result T Stop) : Type 0 where
  pub safe : IsSafeThroughout session level at old new
  pub spent : IsErrOf result Spent → AtNow (MeansStart session level at old) new
  pub formats : OnOk result (0 < old.clock → IsDurable (on old Control) → FormatsFirst session level at old new new.clock)

-- Calls start a session on a plant: on its control, its state and its journals, and volumes are only read. They stop by the count of what failed, or where
-- numbers are spent.
pub record IsWorkOfStart {T : Type 0} (tells : Type 0) (old new : PlantState) (result : Result T Stop) : Type 0 where
  pub site : SameSite old new
  pub home : NoneLent new
  pub elapses : tells → Elapses old new
  pub silent : tells → Silent old new
  pub volumes : VolumesStay tells old new
  pub cause : IfErr result (HasStopCause old new)
  pub counts : StopsByCount old new result
  pub spent : tells → IsErrOf result Spent → IsSpentNow new

-- In each run whose traces turn out so, and whose name and level are the start's, it does.
abbrev pub StartsRuns : {S : Type 0} → (left : S → Option (List ℕ)) → (session : List ℕ) → Level → (lanes after : List (Lane S)) → Option Group → (began old new : PlantState) → SiteState → Type 0
StartsRuns left session level lanes after group began old new site = (run : ScriptRun) → run.session ≡ session → run.level ≡ level → HaveHeadsOf lanes run.traces → AreCountsFrom began old → AllTurnOut left run.traces lanes after
    → RisesCover run began new → IsSomeAnd group (StandsStarted run site new)

-- Work for a start's own time, without a row, leaves at every moment just the session that starts.
abbrev pub StaysStarted : (at : ℕ) → SiteState → (old new : PlantState) → Type 0
StaysStarted at site old new = site.told ≡ [] → site.time ≡ at → AtEveryMoment (MeansStart site.table.session site.level at old) old new
