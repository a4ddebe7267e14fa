-- Lanes, shared state and rows after a command's change.
use Rattle.std.specs.Prelude.{◌≡◌, ◌≤◌, ◌<◌, ℕ, List, [], length, Option, Ok, IsSomeAnd, IsTrue, slice_index_or}
use Rattle.std.specs.List.{Contains, list_all}
use Rattle.crash_plant.specs.Moments.{PlantState}
use Rattle.write_trace.specs.Headers.{cylinders_of}
use Rattle.pair_table.specs.declared.command.Change.{Change}
use Rattle.pair_table.specs.declared.command.Command.{Command}
use Rattle.pair_table.specs.declared.names.NamedVolume.{NamedVolume}
use Rattle.pair_table.specs.declared.row.PairRow.{PairRow}
use Rattle.pair_table.specs.Naming.{Naming}
use Rattle.group_state.specs.Groups.{Group, control_at}
use Rattle.group_state.specs.Runs.{Answer, Runs}
use Rattle.group_state.specs.SoundStates.{IsGroupSound}
use Rattle.record_rows.specs.Deeds.{Deed}
use Rattle.record_rows.specs.Hits.{hit_now}
use Rattle.fed_logs.specs.Feeds.{part_of_mover}
use Rattle.fed_logs.specs.Logs.{Stand, is_call_of_seat}
use Rattle.fed_logs.specs.Moves.{MakesAllDeeds, Plans}
use Rattle.turn_group.specs.Notes.{volumes_known}
use Rattle.site_store.specs.Changing.{LogsChange, MayChange}
use Rattle.site_store.specs.Commands.{MayDo, after_command}
use Rattle.site_store.specs.Sites.{SiteState}
use Rattle.site_store.specs.Standing.{Leaves}
use Rattle.xrc_session.specs.Taking.{IfAdds, IsSoundForRows, after_calls, calls_of_change}
use Rattle.mover.specs.declared.ends.EpochEnd.TheVariants as ends
use Rattle.mover.specs.declared.lane.Lane.{Lane}
use Rattle.mover.specs.Readers.{LaneReaderState}
use Rattle.mover.specs.Lanes.{heads_of}
use Rattle.mover.specs.Moves.{KnowsRows}
use Rattle.mover.specs.Rounds.{AreLanesOf}
use Rattle.mover.specs.Epochs.{AreSameLanes, EpochRun, MayBeginEpoch, ReachedBy}

-- ---- a later limit

-- What an epoch asks at a limit holds at a later one.
abbrev pub LanesStandLater : {S : Type 0} → List (Lane S) → Type 0
LanesStandLater lanes = (group : Group) (limit later : ℕ) → limit ≤ later → AreLanesOf group limit lanes → AreLanesOf group later lanes

abbrev pub EpochsMayBeginLater : (tells : Type 0) → PlantState → Type 0
EpochsMayBeginLater tells plant =
    (group : Group) (site : SiteState) (limit later : ℕ) → limit ≤ later → MayBeginEpoch tells limit group site plant → MayBeginEpoch tells later group site plant

-- ---- headers

-- The reader's header has the volume of a number, with so many cylinders.
pub record HasInHeader (volume cylinders : ℕ) (r : LaneReaderState) : Type 0 where
  pub within : volume < length (heads_of r.feed)
  pub sized : cylinders_of (heads_of r.feed) volume ≡ cylinders

-- A row's volume is one of its lane's header, and so is a volume that is named.
abbrev pub IsRowOfLane : {S : Type 0} → List (Lane S) → PairRow → Type 0
IsRowOfLane lanes r = (d : Lane _) → IsSomeAnd (slice_index_or lanes r.control d).reader (HasInHeader r.volume r.cylinders)

abbrev pub IsNamedOfLane : {S : Type 0} → List (Lane S) → NamedVolume → Type 0
IsNamedOfLane lanes v = (d : Lane _) → IsSomeAnd (slice_index_or lanes v.control d).reader (HasInHeader v.volume v.cylinders)

-- Each volume that is named is one of its lane's header.
abbrev pub AreNamedOfLanes : {S : Type 0} → List (Lane S) → Naming → Type 0
AreNamedOfLanes lanes names = (v : NamedVolume) → Contains names.primaries v → IsNamedOfLane lanes v

-- As long as lanes stay the same, the volumes that are named are those of their headers.
abbrev pub NamedVolumesStay : {S : Type 0} → (old new : List (Lane S)) → Type 0
NamedVolumesStay old new = (names : Naming) → AreSameLanes old new → AreNamedOfLanes old names → AreNamedOfLanes new names

-- ---- a change that is taken over

-- What stays for readers after the calls of a change: how many controllers there are, how far each has reported, whether it still reports, and the
-- last cut.
pub record StaysForReaders (old new : Group) : Type 0 where
  pub many : length new.controls ≡ length old.controls
  pub last : new.last ≡ old.last
  pub floor : (k : ℕ) → k < length old.controls → (control_at new k).floor ≡ (control_at old k).floor
  pub phase : (k : ℕ) → k < length old.controls → (control_at new k).phase ≡ (control_at old k).phase

abbrev pub ChangesStayForReaders : Type 0
ChangesStayForReaders = (change : Change) (before after : List PairRow) (s : Group) → StaysForReaders s (after_calls (calls_of_change change s before after) s)

-- The lanes are the controllers' after a change, if the volume of the row that it adds is one of its lane's header.
abbrev pub LanesStandAfterChanges : {S : Type 0} → List (Lane S) → Type 0
LanesStandAfterChanges lanes = (limit : ℕ) (change : Change) (before after : List PairRow) (s : Group) → AreLanesOf s limit lanes → IfAdds change after (IsRowOfLane lanes)
    → AreLanesOf (after_calls (calls_of_change change s before after) s) limit lanes

-- A mover that begins with a state that keeps volumes for rows knows these rows.
abbrev pub KeptRowsAreKnown : Type 0
KeptRowsAreKnown = (s : Group) (rows : List PairRow) → IsSoundForRows s rows → KnowsRows (volumes_known s) rows

-- ---- a command between two epochs

-- A session rests at a time, between two epochs: the last cut and the time that is meant are this time. An epoch may begin, and a command's change
-- may be taken over.
pub record RestsAt {S : Type 0} (tells : Type 0) (at : ℕ) (lanes : List (Lane S)) (group : Group) (site : SiteState) (plant : PlantState) : Type 0 where
  pub cut : group.last.0 ≡ at
  pub time : site.time ≡ at
  pub lanes_of : AreLanesOf group at lanes
  pub begins : MayBeginEpoch tells at group site plant
  pub kept : IsSoundForRows group site.told

-- A change of a site's rows was logged at a time and taken over into the shared state, and each failure of a volume with a row was told.
--   may, logs, leaves: it was logged
--   calls, kept: it was taken over, with the rows before the command
pub record IsTakenOver {P : Type 0} (tells : Type 0) (at : ℕ) (change : Change) (before : List PairRow) (group end : Group) (site next : SiteState) (old new : PlantState) (was is : P) : Type 0 where
  pub may : MayChange tells at change site old
  pub logs : LogsChange at change site next old was is (Ok tt)
  pub leaves : Leaves tells (λ e. e) site next old new
  pub calls : end ≡ after_calls (calls_of_change change group before next.table.rows) group
  pub kept : IsSoundForRows end next.table.rows
  pub told : hit_now next.failed next.told ≡ []

-- A session at rest is at rest again after a command at its time, whose change is logged and taken over.
abbrev pub RestsAfterCommands : {S P : Type 0} → (tells : Type 0) → (was is : P) → List (Lane S) → (old new : PlantState) → Type 0
RestsAfterCommands tells was is lanes old new =
    (names : Naming) (session : List ℕ) (command : Command) (change : Change) (at : ℕ) (group end : Group) (site next : SiteState) → let changed = after_command names session command at change site in
    AreNamedOfLanes lanes names → MayDo names changed → RestsAt tells at lanes group site old → IsTakenOver tells at change site.table.rows group end changed next old new was is
    → RestsAt tells at lanes end next new

-- ---- an epoch

-- Rows stand after a log of calls, whatever the traces are, if all of the mover's calls were kept.
abbrev pub RowsStandAfterLogs : Type 0
RowsStandAfterLogs = (s end : Group) (run : List Answer) (time ended : ℕ) (rows last : List PairRow) (done known : Plans) (deeds : List Deed) → IsGroupSound s → Runs s run end → IsTrue (list_all is_call_of_seat run)
    → Stand s rows done → MakesAllDeeds time rows done (part_of_mover run) deeds ended last known → IsGroupSound end × Stand end last known

-- An epoch that reaches its limit comes to rest there, if the shared state kept volumes for the rows before it.
abbrev pub EpochsComeToRest : {S : Type 0} → (tells : Type 0) → (left : S → Option (List ℕ)) → (faults : S → ℕ) → (was is : PlantState) → Type 0
EpochsComeToRest tells left faults was is = (limit : ℕ) (group next : Group) (lanes then : List (Lane _)) (site after : SiteState) → EpochRun left faults limit group lanes then site after was is (ends.Reached next)
    → ReachedBy tells left limit group lanes then site next after is → IsSoundForRows group site.told → RestsAt tells limit then next after is
