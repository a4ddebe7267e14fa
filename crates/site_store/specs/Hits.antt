-- What a record changes of rows: what the group makes of them, and after that the hits of failed volumes.
use Rattle.std.specs.Prelude.{◌≡◌, ℕ, ◌<◌, ◌&&◌, ◌||◌, not, List, [], ◌∷◌, Bool, true, false, Option, Some, None, slice_index_or, if◌then◌else◌}
use Rattle.std.specs.List.{Contains, flat_map, list_any}
use Rattle.xrc_edge.specs.declared.limits.TheConstants.{MOST_SITE_VOLUMES}
use Rattle.tod_stamp.specs.declared.stamp.Stamp.{Stamp}
use Rattle.pair_table.specs.declared.level.Level.{Level}
use Rattle.pair_table.specs.declared.level.Level.TheVariants.{Volume as VolumeLevel, Session as SessionLevel, Group as GroupLevel}
use Rattle.pair_table.specs.declared.row.PairRow.{PairRow}
use Rattle.pair_table.specs.declared.row.PairState.{PairState}
use Rattle.pair_table.specs.declared.row.PairState.TheVariants.{Suspended}
use Rattle.pair_table.specs.declared.row.SuspendCause.{SuspendCause}
use Rattle.pair_table.specs.declared.row.SuspendCause.TheVariants.{Device}
use Rattle.pair_table.specs.Devices.{is_among}
use Rattle.pair_table.specs.Rows.{is_row, is_suspended}
use Rattle.pair_table.specs.Tables.{in_state}
use Rattle.pending_queue.specs.Groups.{FormedGroup}
use Rattle.record_rows.specs.ChangedRows.{later_state}
use Rattle.record_rows.specs.GroupRows.{state_with_group}
use Rattle.record_rows.specs.Hits.{hit_now, is_reached}
use Rattle.row_changes.specs.Changes.{are_same_group, reach_of}
use Rattle.xrc_journal.specs.Items.{Item}
use Rattle.xrc_journal.specs.Items.Item.{Pair}
use Rattle.site_store.specs.declared.hits.HitDevices.{HitDevices}
use Rattle.site_store.specs.declared.hits.Hits.{Hits}

-- ---- rows that change their state

-- what becomes of a row's state, if it changes
abbrev pub NextStates : Type 0
NextStates = PairRow → Option PairState

abbrev pub pair_in : PairRow → Option PairState → List Item
pair_in row (Some state) = Pair 2 (in_state state row) ∷ []
pair_in row None = []

abbrev pub pair_with_next : NextStates → PairRow → List Item
pair_with_next next row = pair_in row (next row)

-- A row is one in its new state too.
abbrev pub is_row_in : PairRow → Option PairState → Bool
is_row_in row (Some state) = is_row (in_state state row)
is_row_in row None = true

abbrev pub stays_row : NextStates → PairRow → Bool
stays_row next row = is_row_in row (next row)

-- the items of the rows that change
abbrev pub pairs_with_next : NextStates → List PairRow → List Item
pairs_with_next next rows = flat_map (pair_with_next next) rows

-- ---- hits

-- A hit suspends a row by its device, whatever its state. A row that hits reach is suspended by this cause, unless it is already.
abbrev pub state_by_hits : (hit reached : Bool) → SuspendCause → (time : Stamp) → PairState → Option PairState
state_by_hits true reached cause time state = Some (Suspended Device time)
state_by_hits false true cause time state = if is_suspended state then None else Some (Suspended cause time)
state_by_hits false false cause time state = None

abbrev pub is_hit_by : Hits → (device : ℕ) → Bool
is_hit_by hits device = slice_index_or hits.devices device false

abbrev pub is_reached_by : Hits → (device : ℕ) → Bool
is_reached_by hits device = slice_index_or hits.reached device false

abbrev pub next_by_hits : Hits → (device : ℕ) → PairState → Option PairState
next_by_hits hits device state = state_by_hits (is_hit_by hits device) (is_reached_by hits device) hits.cause hits.time state

abbrev pub with_hits : Hits → NextStates
with_hits hits row = next_by_hits hits row.device row.state

-- there are some
abbrev pub are_some : List ℕ → Bool
are_some [] = false
are_some (d ∷ devices) = true

-- The devices that are hit, among the first 64, are those of a list.
pub record AreDevices (devices : List ℕ) (hit : HitDevices) : Type 0 where
  pub flags : (d : ℕ) → d < MOST_SITE_VOLUMES → slice_index_or hit.are d false ≡ is_among d devices
  pub any_is : hit.any ≡ are_some devices

-- whether a row's device is hit, and the row has this group
abbrev pub is_hit_in_group : HitDevices → (group : Option (List ℕ)) → PairRow → Bool
is_hit_in_group hit group row = slice_index_or hit.are row.device false && are_same_group row.group group

-- whether hits of these devices, if there are some, reach a row among rows
abbrev pub reaches_at : Level → List PairRow → HitDevices → PairRow → Bool
reaches_at VolumeLevel rows hit row = false
reaches_at SessionLevel rows hit row = not (slice_index_or hit.are row.device false)
reaches_at GroupLevel rows hit row = not (slice_index_or hit.are row.device false) && list_any (is_hit_in_group hit row.group) rows

-- The flags say of the device of each of these rows whether the hits of a mark or those after it reach the row.
abbrev pub AreReached : Level → (marked hit : List ℕ) → List PairRow → (flags : List Bool) → Type 0
AreReached level marked hit rows flags =
    (r : PairRow) → Contains rows r → slice_index_or flags r.device false ≡ (is_reached (reach_of level rows) marked r || is_reached (reach_of level rows) hit r)

-- The hits of these rows once these jobs have failed, at a time, after a mark in which these devices were hit.
pub record AreHits (level : Level) (time : Stamp) (failed : List Bool) (marked : List ℕ) (rows : List PairRow) (hits : Hits) : Type 0 where
  pub devices : (d : ℕ) → d < MOST_SITE_VOLUMES → is_hit_by hits d ≡ is_among d (hit_now failed rows)
  pub reached : AreReached level marked (hit_now failed rows) rows hits.reached
  pub cause_is : hits.cause ≡ (reach_of level rows).cause
  pub time_is : hits.time ≡ time

-- ---- the record of a group

abbrev pub state_or : PairState → Option PairState → PairState
state_or state (Some next) = next
state_or state None = state

-- What the group makes of a row, and hits after it.
abbrev pub with_group_and_hits : FormedGroup → Hits → NextStates
with_group_and_hits group hits row = let grouped = state_with_group group row in later_state (next_by_hits hits row.device (state_or row.state grouped)) grouped
