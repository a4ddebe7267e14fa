-- Sessions between two epochs, and the lanes with which they begin.
use Rattle.std.specs.Prelude.{◌≡◌, ℕ, ◌<◌, List, length, None, IsSomeAnd, slice_index_or}
use Rattle.std.specs.List.{Contains}
use Rattle.crash_plant.specs.Moments.{PlantState}
use Rattle.write_trace.specs.declared.header.VolumeHead.{VolumeHead}
use Rattle.write_trace.specs.Headers.{cylinders_of}
use Rattle.pair_table.specs.declared.names.NamedVolume.{NamedVolume}
use Rattle.pair_table.specs.Naming.{Naming}
use Rattle.group_state.specs.Groups.{Group}
use Rattle.site_store.specs.Commands.{LabelsFit, MayDo}
use Rattle.site_store.specs.Sites.{SiteState}
use Rattle.mover.specs.declared.lane.Lane.{Lane}
use Rattle.mover.specs.Readers.{LaneReaderState}
use Rattle.mover.specs.Lanes.{broken_by}
use Rattle.mover.specs.Epochs.{IsAtLimit, MayBeginEpoch}
use Rattle.mover.specs.Rounds.{AreLanesOf}
use Rattle.xrc_session.specs.Taking.{IsSoundForRows}
use Rattle.xrc_session.specs.Joins.{AreNamedOfLanes, IsNamedOfLane}

-- ---- new lanes

-- A reader of a controller that has handed over nothing.
pub record IsNewReader (k : ℕ) (r : LaneReaderState) : Type 0 where
  pub control : r.feed.side.control ≡ k
  pub upto : r.feed.side.upto ≡ 0
  pub time : r.feed.primary.time ≡ 0
  pub reads_on : r.feed.halted ≡ None

abbrev pub IsNewLane : {S : Type 0} → (control : ℕ) → Lane S → Type 0
IsNewLane k lane = IsSomeAnd lane.reader (IsNewReader k)

-- Lane k is controller k's.
abbrev pub AreNewLanes : {S : Type 0} → List (Lane S) → Type 0
AreNewLanes {S} lanes = (k : ℕ) (d : Lane S) → k < length lanes → IsNewLane k (slice_index_or lanes k d)

-- A volume that is named is one of a controller's header.
pub record IsInHeader (control : ℕ) (heads : List VolumeHead) (v : NamedVolume) : Type 0 where
  pub control_is : v.control ≡ control
  pub within : v.volume < length heads
  pub sized : cylinders_of heads v.volume ≡ v.cylinders

-- New lanes, and volumes of their headers.
pub record AreOpened {S : Type 0} (lanes : List (Lane S)) (named : List NamedVolume) : Type 0 where
  pub are_new : AreNewLanes lanes
  pub are_named : (v : NamedVolume) → Contains named v → IsNamedOfLane lanes v

-- ---- between two epochs

-- A command may come: the names are those of the lanes' headers and of volumes of the plant, and the table has the rows that the devices tell.
pub record MayCommandCourse {S : Type 0} (names : Naming) (lanes : List (Lane S)) (site : SiteState) (plant : PlantState) : Type 0 where
  pub are_named : AreNamedOfLanes lanes names
  pub may : MayDo names site
  pub labels : LabelsFit plant names
  pub same : site.told ≡ site.table.rows

-- An epoch up to a limit may come, or a command, whose change may be taken over.
pub record MayGoTo {S : Type 0} (tells : Type 0) (limit : ℕ) (names : Naming) (lanes : List (Lane S)) (group : Group) (site : SiteState) (plant : PlantState) : Type 0 where
  pub are : AreLanesOf group limit lanes
  pub may : MayBeginEpoch tells limit group site plant
  pub kept : IsSoundForRows group site.told
  pub commands : MayCommandCourse names lanes site plant

-- The last cut and the site's time are the limit, and so is the time of each primary whose reader reads on.
pub record AreAtLimit {S : Type 0} (limit : ℕ) (lanes : List (Lane S)) (group : Group) (site : SiteState) : Type 0 where
  pub cut : group.last.0 ≡ limit
  pub time : site.time ≡ limit
  pub each : (k : ℕ) (d : Lane S) → k < length lanes → IsSomeAnd (slice_index_or lanes k d).reader (IsAtLimit limit)

-- No lane's reader has broken.
abbrev pub AreUnbroken : {S : Type 0} → List (Lane S) → Type 0
AreUnbroken {S} lanes = (k : ℕ) (d : Lane S) → k < length lanes → broken_by (slice_index_or lanes k d).reader ≡ None
