-- How the rows of a session change between two commands.
use Rattle.std.specs.Prelude.{ℕ, zero, suc, ◌==◌, ◌&&◌, not, List, [], ◌∷◌, ◌++◌, length, map, Bool, true, false, Option, Some, None, nat_le, bytes_eq, if◌then◌else◌}
use Rattle.std.specs.List.{list_any, list_all}
use Rattle.pair_table.specs.declared.level.Level.{Level}
use Rattle.pair_table.specs.declared.level.Level.TheVariants.{Volume as VolumeLevel, Session as SessionLevel, Group as GroupLevel}
use Rattle.pair_table.specs.declared.row.PairRow.{PairRow}
use Rattle.pair_table.specs.declared.row.PairState.{PairState}
use Rattle.pair_table.specs.declared.row.PairState.TheVariants.{Pending, Copy, Duplex, Suspended}
use Rattle.pair_table.specs.declared.row.SuspendCause.{SuspendCause}
use Rattle.pair_table.specs.declared.row.SuspendCause.TheVariants.{Device as ByDevice, Session as BySession, Control as ByControl, Group as ByGroup}
use Rattle.pair_table.specs.Rows.{is_suspended}
use Rattle.pair_table.specs.Tables.{changed_row as row_in_state, in_state, is_of, row_of}
use Rattle.pair_table.specs.Devices.{is_among}

-- A change of rows. Rows are named by their devices.
--   Mature: a pending row becomes copying or duplex, or a copying row duplex.
--   Break: every row of the controller that isn't suspended is suspended by the controller.
--   Hit: volumes failed at one time. Their rows, suspended or not, are suspended by the device; and every other row that isn't suspended
--     and that the hit reaches is suspended: by the session under level SESSION, by its group under level GROUP.
--   MarkedHit: the same of a hit that stands in a mark which logging makes before its record, where the other rows still wait.
--   Reached: after hits of these devices in such a mark, with the record: the rows that these reach are suspended.
pub data RowChange : Type 0 where
  Mature : (device : ℕ) → (state : PairState) → RowChange
  Break : (control : ℕ) → RowChange
  Hit : (devices : List ℕ) → RowChange
  MarkedHit : (devices : List ℕ) → RowChange
  Reached : (devices : List ℕ) → RowChange

-- a change at a time
pub record Timed : Type 0 where
  pub time : ℕ
  pub change : RowChange

-- ---- what each does to a row

abbrev pub since : SuspendCause → (time : ℕ) → PairState
since cause time = Suspended cause (record { 0 = time })

-- a row that isn't suspended is suspended
abbrev pub suspended_by : SuspendCause → (time : ℕ) → PairRow → PairRow
suspended_by cause time r = if is_suspended r.state then r else in_state (since cause time) r

abbrev pub broken_row : (control time : ℕ) → PairRow → PairRow
broken_row control time r = if r.control == control then suspended_by ByControl time r else r

-- a row is suspended, whether it was or not
abbrev pub hit_row : (devices : List ℕ) → (time : ℕ) → PairRow → PairRow
hit_row devices time r = if is_among r.device devices then in_state (since ByDevice time) r else r

abbrev pub are_same_group : Option (List ℕ) → Option (List ℕ) → Bool
are_same_group (Some g) (Some h) = bytes_eq g h
are_same_group (Some g) None = false
are_same_group None h = false

-- whether a row of one of these devices has the row's group
abbrev pub shares_group : List PairRow → (devices : List ℕ) → PairRow → Bool
shares_group rows devices r = list_any (λ s. is_among s.device devices && are_same_group s.group r.group) rows

-- What failures reach: by which cause a row is suspended then, and which rows hits of some devices reach.
pub record FaultReach : Type 0 where
  pub cause : SuspendCause
  pub reaches : (devices : List ℕ) → PairRow → Bool

-- Among rows: none under level VOLUME, all but those hit under level SESSION, and those of them with the group of a row that is hit under
-- level GROUP.
abbrev pub reach_of : Level → List PairRow → FaultReach
reach_of VolumeLevel rows = record { cause = BySession; reaches = λ devices r. false }
reach_of SessionLevel rows = record { cause = BySession; reaches = λ devices r. not (is_among r.device devices) }
reach_of GroupLevel rows = record { cause = ByGroup; reaches = λ devices r. not (is_among r.device devices) && shares_group rows devices r }

-- a row that hits of these devices reach is suspended
abbrev pub reached_row : FaultReach → (devices : List ℕ) → (time : ℕ) → PairRow → PairRow
reached_row reach devices time r = if reach.reaches devices r then suspended_by reach.cause time r else r

abbrev pub row_after_change : FaultReach → Timed → PairRow → PairRow
row_after_change reach t r = elim t.change [
  | Mature device state ↦ row_in_state device state r
  | Break control ↦ broken_row control t.time r
  | Hit devices ↦ reached_row reach devices t.time (hit_row devices t.time r)
  | MarkedHit devices ↦ hit_row devices t.time r
  | Reached devices ↦ reached_row reach devices t.time r
]

abbrev pub after_change : Level → Timed → List PairRow → List PairRow
after_change level t rows = map (row_after_change (reach_of level rows) t) rows

abbrev pub after_changes : Level → List Timed → List PairRow → List PairRow
after_changes level [] rows = rows
after_changes level (t ∷ changes) rows = after_changes level changes (after_change level t rows)

-- ---- when each may come

abbrev pub may_mature : PairState → PairState → Bool
may_mature Pending Copy = true
may_mature Pending Duplex = true
may_mature Copy Duplex = true
may_mature Pending Pending = false
may_mature Pending (Suspended cause time) = false
may_mature Copy Pending = false
may_mature Copy Copy = false
may_mature Copy (Suspended cause time) = false
may_mature Duplex state = false
may_mature (Suspended cause time) state = false

-- The break times of the controllers, in order. A controller without one never breaks.
abbrev pub break_time_of : (control : ℕ) → List (Option ℕ) → Option ℕ
break_time_of k [] = None
break_time_of zero (b ∷ breaks) = b
break_time_of (suc k) (b ∷ breaks) = break_time_of k breaks

abbrev pub is_at : (time : ℕ) → Option ℕ → Bool
is_at time None = false
is_at time (Some b) = b == time

abbrev pub row_may_mature : PairState → Option PairRow → Bool
row_may_mature state None = false
row_may_mature state (Some r) = may_mature r.state state

-- Devices that are hit have rows, and there is one at least.
abbrev pub are_hit : (devices : List ℕ) → List PairRow → Bool
are_hit devices rows = nat_le 1 (length devices) && list_all (λ d. list_any (is_of d) rows) devices

-- whether a failure may reach other rows
abbrev pub reaches_others : Level → Bool
reaches_others VolumeLevel = false
reaches_others SessionLevel = true
reaches_others GroupLevel = true

-- ---- what a hit in a mark leaves due

-- After hits that stand in a mark the others are due: they come with the record for which the mark was made.
--   NoneDue: none is due.
--   DueSince: the others are, since a mark at this time in which these devices were hit.
--   DueIn: the others are, with the record of this cut, of which other changes have come already.
pub data Due : Type 0 where
  NoneDue : Due
  DueSince : (mark : ℕ) → (devices : List ℕ) → Due
  DueIn : (cut : ℕ) → (devices : List ℕ) → Due

-- Changes of one record come at its cut.
abbrev pub is_of_record : Due → (time : ℕ) → Bool
is_of_record NoneDue time = true
is_of_record (DueSince mark devices) time = true
is_of_record (DueIn cut devices) time = time == cut

-- The hits of one mark come at its time, and none of a mark comes while a record's changes do.
abbrev pub is_of_mark : Due → (time : ℕ) → Bool
is_of_mark NoneDue time = true
is_of_mark (DueSince mark devices) time = time == mark
is_of_mark (DueIn cut devices) time = false

-- the devices of whose hits others are due, in order of the hits
abbrev pub devices_hit : Due → List ℕ
devices_hit NoneDue = []
devices_hit (DueSince mark devices) = devices
devices_hit (DueIn cut devices) = devices

-- Others are due, of hits of exactly these devices.
abbrev pub are_due : (devices : List ℕ) → Due → Bool
are_due devices NoneDue = false
are_due devices (DueSince mark due) = bytes_eq devices due
are_due devices (DueIn cut due) = bytes_eq devices due

-- what is due once a record's changes come at a time
abbrev pub due_in_record : Due → (time : ℕ) → Due
due_in_record NoneDue time = NoneDue
due_in_record (DueSince mark devices) time = DueIn time devices
due_in_record (DueIn cut devices) time = DueIn cut devices

-- what is due after a hit of these devices in a mark at a time
abbrev pub due_after_mark : Level → Due → (time : ℕ) → (devices : List ℕ) → Due
due_after_mark level due time devices = if reaches_others level then DueSince time (devices_hit due ++ devices) else NoneDue

-- what is due after a change
abbrev pub due_after : Level → Due → Timed → Due
due_after level due t = elim t.change [
  | Mature device state ↦ due_in_record due t.time
  | Break control ↦ due_in_record due t.time
  | Hit devices ↦ due_in_record due t.time
  | MarkedHit devices ↦ due_after_mark level due t.time devices
  | Reached devices ↦ NoneDue
]

-- A controller breaks at its break time. Others are reached on their own only where they are due.
abbrev pub may_come : (breaks : List (Option ℕ)) → Due → List PairRow → Timed → Bool
may_come breaks due rows t = elim t.change [
  | Mature device state ↦ is_of_record due t.time && row_may_mature state (row_of device rows)
  | Break control ↦ is_of_record due t.time && is_at t.time (break_time_of control breaks)
  | Hit devices ↦ is_of_record due t.time && are_hit devices rows
  | MarkedHit devices ↦ is_of_mark due t.time && are_hit devices rows
  | Reached devices ↦ are_due devices due && is_of_record due t.time
]

-- At the end none is due, or others are since a mark at the very end, where that may be: its record hasn't come.
abbrev pub may_end : (may_be_due : Bool) → (end : ℕ) → Due → Bool
may_end may_be_due end NoneDue = true
may_end may_be_due end (DueSince mark devices) = may_be_due && mark == end
may_end may_be_due end (DueIn cut devices) = false

-- Each change may come where it comes, and times don't fall and lie from `from` to `to`.
abbrev pub may_all_come : Level → (breaks : List (Option ℕ)) → (may_be_due : Bool) → Due → (from to : ℕ) → List PairRow → List Timed → Bool
may_all_come level breaks may_be_due due from to rows [] = may_end may_be_due to due
may_all_come level breaks may_be_due due from to rows (t ∷ changes) =
    nat_le from t.time && nat_le t.time to && may_come breaks due rows t
    && may_all_come level breaks may_be_due (due_after level due t) t.time to (after_change level t rows) changes
