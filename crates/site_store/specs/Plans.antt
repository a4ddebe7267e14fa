-- A record by its plan, a group's or that of rows: what it asks, how it is formed, and what it is once it was logged.
use Rattle.std.specs.Prelude.{◌≡◌, ◌⊎◌, ◌≤◌, ℕ, ◌+◌, ◌*◌, List, [], length, Bool, true, false, Result, OnOk}
use Rattle.ckd_track.specs.declared.layout.TheConstants.{WRITES_OF_RUN}
use Rattle.xrc_journal.specs.declared.layout.TheConstants.{ROW_ITEM}
use Rattle.pair_table.specs.declared.limits.TheConstants.{MOST_ROWS}
use Rattle.tod_stamp.specs.declared.stamp.Stamp.{Stamp}
use Rattle.crash_plant.specs.declared.device.Device.{Device}
use Rattle.crash_plant.specs.Calls.{NoneLent}
use Rattle.crash_plant.specs.Moments.{PlantState}
use Rattle.applier.specs.Returns.{OnlyReads, WorksOnLent}
use Rattle.pair_table.specs.declared.command.Change.{Change}
use Rattle.pair_table.specs.declared.level.Level.{Level}
use Rattle.pair_table.specs.declared.level.Level.TheVariants.{Volume as VolumeLevel}
use Rattle.pair_table.specs.declared.row.PairRow.{PairRow}
use Rattle.pending_queue.specs.Entries.{WaitingEntry}
use Rattle.pending_queue.specs.Groups.{FormedGroup}
use Rattle.xrc_journal.specs.Bodies.{BodyState}
use Rattle.site_store.specs.declared.hits.HitReach.{HitReach}
use Rattle.site_store.specs.declared.hits.Hits.{Hits}
use Rattle.site_store.specs.declared.placement.Placement.TheVariants.{Marked as MarkedFirst}
use Rattle.site_store.specs.declared.plan.Plan.{Plan}
use Rattle.site_store.specs.declared.plan.Plan.TheVariants.{Group, Command}
use Rattle.site_store.specs.declared.store_error.StoreError.{StoreError}
use Rattle.site_store.specs.Causes.{FailByCounts, HasStoreCause}
use Rattle.site_store.specs.Changing.{FormsChange, named_devices}
use Rattle.site_store.specs.Hits.{AreDevices, AreHits, NextStates, with_group_and_hits, with_hits}
use Rattle.site_store.specs.InTurn.{DoesInTurn}
use Rattle.site_store.specs.Logging.{FailByEntries, FormsRecord, IsOfEntries, LogsBy, LogsGroup, MayLog, StaysUnwritten}
use Rattle.site_store.specs.Records.{IsOfRecord, VolumesStay, one_more}
use Rattle.site_store.specs.RowRecords.{IsAfterRows, LogsRecord, MayLogRows, names_rows, rows_deeds}
use Rattle.site_store.specs.Sites.{SiteState}
use Rattle.site_store.specs.Standing.{Leaves, MayRecord}

-- ---- what differs

-- the record's time
abbrev pub planned_cut : Plan → Stamp
planned_cut (Group formed) = formed.now.cut
planned_cut (Command cut change) = cut

-- the entries of which there are items
abbrev pub planned_entries : Plan → List WaitingEntry
planned_entries (Group formed) = formed.now.entries
planned_entries (Command cut change) = []

-- the most bytes of its items
abbrev pub planned_room : Plan → ℕ
planned_room (Group formed) = 56670 * length formed.now.entries + MOST_ROWS * ROW_ITEM
planned_room (Command cut change) = named_devices change.now * ROW_ITEM + MOST_ROWS * ROW_ITEM

-- Whether it follows a mark that has to come first. Hits alone are told by that mark.
abbrev pub follows_mark : Plan → List PairRow → Bool
follows_mark (Group formed) rows = true
follows_mark (Command cut change) rows = names_rows change.now rows

-- The rows that the mark's hits reach come with the record that follows, else with the mark.
abbrev pub reach_by : (follows : Bool) → Level → Level
reach_by true level = VolumeLevel
reach_by false level = level

-- whether its items wait to be applied
abbrev pub items_wait : Plan → Bool
items_wait (Group formed) = true
items_wait (Command cut change) = false

-- how often a group was logged since the mark, once it was put
abbrev pub since_after : Plan → ℕ → ℕ
since_after (Group formed) since = one_more since
since_after (Command cut change) since = since

-- what it makes of rows, with its hits
abbrev pub next_states : Plan → Hits → NextStates
next_states (Group formed) hits = with_group_and_hits formed.now hits
next_states (Command cut change) hits = with_hits hits

-- The devices that were hit in the mark before and whose reach is due. A command's table isn't marked, so it has these hits still.
abbrev pub planned_due : Plan → (marked : List ℕ) → List ℕ
planned_due (Group formed) marked = marked
planned_due (Command cut change) marked = []

-- the devices on which it works: those of a record, and the volumes with entries
abbrev pub IsOfPlan : SiteState → Plan → Device → Type 0
IsOfPlan site plan device = IsOfRecord site device ⊎ IsOfEntries site.table.rows (planned_entries plan) device

-- ---- how it is formed

abbrev pub FormsItems : (tells : Type 0) → Plan → Level → List PairRow → PlantState → (held now : BodyState) → (due failed : List Bool) → Hits → Type 0
FormsItems tells (Group formed) level rows plant held now due failed hits = FormsRecord tells formed.now rows plant held now due failed hits
FormsItems tells (Command cut change) level rows plant held now due failed hits = FormsChange level cut failed change.now rows held now

-- It is formed from these rows while volumes with entries are read, and with its hits.
pub record FormsByPlan (tells : Type 0) (plan : Plan) (reach : HitReach) (rows : List PairRow) (old new : PlantState) (held now : BodyState) (due was failed : List Bool)
    (hits : Hits) : Type 0 where
  pub items : FormsItems tells plan reach.level rows old held now due failed hits
  pub are : (marked : List ℕ) → AreDevices marked reach.marked → AreHits reach.level (planned_cut plan) failed (planned_due plan marked) rows hits
  pub fails : FailByCounts was failed old.faults new.faults
  pub by_entries : FailByEntries rows (planned_entries plan) was failed
  pub reads : OnlyReads tells old new
  pub home : NoneLent new
  pub works : WorksOnLent tells (IsOfEntries rows (planned_entries plan)) old new

-- For rows nothing is called, and no job fails.
abbrev pub IsLeftByForming : {P : Type 0} → Plan → (was is : P) → (before failed : List Bool) → Type 0
IsLeftByForming (Group formed) was is before failed = Unit {0}
IsLeftByForming (Command cut change) was is before failed = (is ≡ was) × (failed ≡ before)

-- ---- when it may be logged

pub record MayLogGroup (tells : Type 0) (group : FormedGroup) (site : SiteState) (plant : PlantState) : Type 0 where
  pub ready : MayRecord tells site plant
  pub may : MayLog site group
  pub few : length group.entries ≤ WRITES_OF_RUN * group.controls

abbrev pub MayLogByPlan : (tells : Type 0) → Plan → SiteState → PlantState → Type 0
MayLogByPlan tells (Group formed) site plant = MayLogGroup tells formed.now site plant
MayLogByPlan tells (Command cut change) site plant = MayLogRows tells cut.0 change.now site plant

-- ---- what was done

-- After a mark a record of rows is put, if one follows.
pub record LogsRowsAfterMark (tells : Type 0) (cut : ℕ) (change : Change) (site next : SiteState) (old new : PlantState) (result : Result (Unit {0}) StoreError) : Type 0 where
  pub after : OnOk result (IsAfterRows (names_rows change site.table.rows) cut change MarkedFirst [] site next old)
  pub does : DoesInTurn tells (rows_deeds (names_rows change site.table.rows) MarkedFirst site cut next.failed) site old new result

abbrev pub LogsAfterMark : (tells : Type 0) → Plan → (site next : SiteState) → (old new : PlantState) → Result (Unit {0}) StoreError → Type 0
LogsAfterMark tells (Group formed) site next old new result = LogsBy tells formed.now MarkedFirst site next old new result
LogsAfterMark tells (Command cut change) site next old new result = LogsRowsAfterMark tells cut.0 change.now site next old new result

abbrev pub LogsByPlan : (tells : Type 0) → Plan → (site next : SiteState) → (old new : PlantState) → Result (Unit {0}) StoreError → Type 0
LogsByPlan tells (Group formed) site next old new result = LogsGroup tells formed.now site next old new result
LogsByPlan tells (Command cut change) site next old new result = LogsRecord tells cut.0 change.now site next old new result

-- It is logged so, and the site goes on after it.
pub record IsRecordedAs (logs : Type 0) (tells : Type 0) (plan : Plan) (site next : SiteState) (old new : PlantState) (result : Result (Unit {0}) StoreError) : Type 0 where
  pub logged : logs
  pub leaves : OnOk result (Leaves tells (λ e. e) site next old new)
  pub works : WorksOnLent tells (IsOfPlan site plan) old new
  pub volumes : VolumesStay tells old new
  pub cause : HasStoreCause old.faults new.faults result
  pub failed : FailByCounts site.failed next.failed old.faults new.faults

abbrev pub IsRecorded : (tells : Type 0) → Plan → (site next : SiteState) → (old new : PlantState) → Result (Unit {0}) StoreError → Type 0
IsRecorded tells plan site next old new result = IsRecordedAs (LogsByPlan tells plan site next old new result) tells plan site next old new result

-- The same by a record after a mark, or by the mark alone.
abbrev pub IsRecordedAfterMark : (tells : Type 0) → Plan → (site next : SiteState) → (old new : PlantState) → Result (Unit {0}) StoreError → Type 0
IsRecordedAfterMark tells plan site next old new result = IsRecordedAs (LogsAfterMark tells plan site next old new result) tells plan site next old new result

-- Where the numbers are spent nothing is written, and for rows nothing is called.
abbrev pub IsPlanUnwritten : {P : Type 0} → (tells : Type 0) → Plan → (site next : SiteState) → (old new : PlantState) → (was is : P) → Type 0
IsPlanUnwritten tells (Group formed) site next old new was is = StaysUnwritten tells site next old new
IsPlanUnwritten tells (Command cut change) site next old new was is = (next ≡ site) × (is ≡ was)
