-- Rows of pairs: the ranges that a row keeps by itself, its one spelling in 38 bytes, and reading it. Rows of version 1 are read too.
use Rattle.std.specs.Prelude.{ℕ, ◌-◌, ◌^◌, ◌==◌, ◌&&◌, not, List, [], ◌∷◌, ◌++◌, length, take, replicate, slice_range, slice_index, Bool, true, false, Option, Some, None, nat_lt, nat_le, bytes_eq, is_none, if◌then◌else◌}
use Rattle.std.specs.Int.{w16, w32, w64, to_be_bytes, from_be_bytes}
use Rattle.xrc_edge.specs.declared.limits.TheConstants.{MOST_CONTROLS, MOST_CONTROL_VOLUMES, MOST_CYLINDERS, MOST_NARROW_CYLINDERS}
use Rattle.tod_stamp.specs.Fields.{within}
use Rattle.tod_stamp.specs.Names.{is_serial, serial_field, name_in}
use Rattle.pair_table.specs.declared.limits.TheConstants.{NARROW_ROW_LENGTH, ROW_LENGTH}
use Rattle.pair_table.specs.declared.row.SuspendCause.{SuspendCause}
use Rattle.pair_table.specs.declared.row.SuspendCause.TheVariants.{Command, Device, Session, Control, Group}
use Rattle.pair_table.specs.declared.row.PairState.{PairState}
use Rattle.pair_table.specs.declared.row.PairState.TheVariants.{Pending, Copy, Duplex, Suspended}
use Rattle.pair_table.specs.declared.row.PairRow.{PairRow}
use Rattle.pair_table.specs.States.{is_group_suspended}
use Rattle.tod_stamp.specs.Options.{◌>>=◌}

-- ---- ranges

-- Controller and volume are below their numbers, and there are 1 to the most cylinders.
abbrev pub are_in_ranges : (control volume cylinders : ℕ) → Bool
are_in_ranges control volume cylinders = nat_le control (MOST_CONTROLS - 1) && nat_le volume (MOST_CONTROL_VOLUMES - 1) && within 1 MOST_CYLINDERS cylinders

-- the rules of a row that its types leave open
abbrev pub keeps_row_rules : PairRow → Bool
keeps_row_rules r = are_in_ranges r.control r.volume r.cylinders

abbrev pub is_suspended : PairState → Bool
is_suspended (Suspended cause since) = true
is_suspended Pending = false
is_suspended Copy = false
is_suspended Duplex = false

-- A state's time is a number of 64 bits.
abbrev pub is_state : PairState → Bool
is_state Pending = true
is_state Copy = true
is_state Duplex = true
is_state (Suspended cause since) = nat_lt since.0 (2 ^ 64)

-- A group's name has a serial's form.
abbrev pub is_group : Option (List ℕ) → Bool
is_group None = true
is_group (Some name) = is_serial name

-- a row by itself: two serials, a device of 16 bits, a state, a group, and the rules above
abbrev pub is_row : PairRow → Bool
is_row r = is_serial r.primary && is_serial r.secondary && keeps_row_rules r && nat_lt r.device (2 ^ 16) && is_state r.state && is_group r.group

-- ---- the spelling

-- 1 command, 2 device, 3 session, 4 control, 5 group
abbrev pub cause_number : SuspendCause → ℕ
cause_number Command = 1
cause_number Device = 2
cause_number Session = 3
cause_number Control = 4
cause_number Group = 5

-- State, cause and time: 0 pending, 1 copying, 2 duplex, 3 suspended. Where a row isn't suspended, cause and time are 0.
abbrev pub state_numbers : PairState → ℕ × ℕ × ℕ
state_numbers Pending = (0, 0, 0)
state_numbers Copy = (1, 0, 0)
state_numbers Duplex = (2, 0, 0)
state_numbers (Suspended cause since) = (3, cause_number cause, since.0)

-- one byte each for state and cause, and 8 for the time
abbrev pub state_spelling : PairState → List ℕ
state_spelling state = (state_numbers state).0 ∷ (state_numbers state).1 ∷ to_be_bytes w64 (state_numbers state).2

-- the two names' fields of 6 bytes
abbrev pub names_spelling : PairRow → List ℕ
names_spelling r = serial_field r.primary ++ serial_field r.secondary

-- controller, volume and device, of 2 bytes each, and 4 bytes of cylinders
abbrev pub numbers_spelling : PairRow → List ℕ
numbers_spelling r = to_be_bytes w16 r.control ++ to_be_bytes w16 r.volume ++ to_be_bytes w16 r.device ++ to_be_bytes w32 r.cylinders

-- Six spaces are no group.
abbrev pub no_group : List ℕ
no_group = replicate 6 32

-- the group's field of 6 bytes
abbrev pub group_field : Option (List ℕ) → List ℕ
group_field None = no_group
group_field (Some name) = serial_field name

-- the 38 bytes of a row
abbrev pub row_spelling : PairRow → List ℕ
row_spelling r = names_spelling r ++ numbers_spelling r ++ state_spelling r.state ++ group_field r.group

-- ---- reading it

-- the second step, if the first gave a value
abbrev pub cause_of_number : (number : ℕ) → Option SuspendCause
cause_of_number n = if n == 1 then Some Command else if n == 2 then Some Device else if n == 3 then Some Session else if n == 4 then Some Control else if n == 5 then Some Group else None

-- the states without a cause
abbrev pub causeless_state : (number : ℕ) → Option PairState
causeless_state n = if n == 0 then Some Pending else if n == 1 then Some Copy else if n == 2 then Some Duplex else None

-- the state that three numbers are
abbrev pub state_of_numbers : (state cause since : ℕ) → Option PairState
state_of_numbers state cause since =
    if state == 3 then (do
      named ← cause_of_number cause
      Some (Suspended named (record { 0 = since })))
    else if cause == 0 && since == 0 then causeless_state state
    else None

-- the group in a field
abbrev pub group_of_field : List ℕ → Option (Option (List ℕ))
group_of_field field = if bytes_eq field no_group then Some None else (do
  name ← name_in 6 field
  Some (Some name))

-- the row, where it keeps the rules
abbrev pub allowed : PairRow → Option PairRow
allowed r = if keeps_row_rules r then Some r else None

-- the row of these names, this state and this group, with the numbers that stand at their offsets
abbrev pub row_with : List ℕ → (primary secondary : List ℕ) → PairState → Option (List ℕ) → PairRow
row_with bytes primary secondary state group = record {
  primary = primary;
  secondary = secondary;
  control = from_be_bytes w16 (slice_range bytes 12 14);
  volume = from_be_bytes w16 (slice_range bytes 14 16);
  device = from_be_bytes w16 (slice_range bytes 16 18);
  cylinders = from_be_bytes w32 (slice_range bytes 18 22);
  state = state;
  group = group;
}

-- the fields of 38 bytes
abbrev pub fields_of : List ℕ → Option PairRow
fields_of bytes = do
  primary ← name_in 6 (slice_range bytes 0 6)
  secondary ← name_in 6 (slice_range bytes 6 12)
  state ← state_of_numbers (slice_index bytes 22) (slice_index bytes 23) (from_be_bytes w64 (slice_range bytes 24 32))
  group ← group_of_field (slice_range bytes 32 38)
  allowed (row_with bytes primary secondary state group)

-- The row that the bytes spell: there are 38, and each field stands at its offset and is in its range.
abbrev pub row_at : List ℕ → Option PairRow
row_at bytes = if length bytes == ROW_LENGTH then fields_of bytes else None

-- ---- version 1

-- Version 1 has no row of more cylinders than these, and none that is suspended by its group.
abbrev pub is_narrow : PairRow → Bool
is_narrow r = nat_le r.cylinders MOST_NARROW_CYLINDERS && not (is_group_suspended r.state)

-- In a row of version 1 the cylinders have two bytes less, and no group stands at its end. With these it would be this row.
abbrev pub widened : List ℕ → List ℕ
widened bytes = take 18 bytes ++ (0 ∷ 0 ∷ []) ++ slice_range bytes 18 NARROW_ROW_LENGTH ++ no_group

abbrev pub if_narrow : PairRow → Option PairRow
if_narrow r = if is_narrow r then Some r else None

-- The row that bytes of version 1 spell: there are 30.
abbrev pub narrow_row_at : List ℕ → Option PairRow
narrow_row_at bytes = if length bytes == NARROW_ROW_LENGTH then row_at (widened bytes) >>= if_narrow else None

-- the 30 bytes of a row of version 1
abbrev pub narrow_spelling : PairRow → List ℕ
narrow_spelling r = take 18 (row_spelling r) ++ slice_range (row_spelling r) 20 32

-- a row of version 1 by itself
abbrev pub is_narrow_row : PairRow → Bool
is_narrow_row r = is_row r && is_narrow r && is_none r.group

-- ---- either version

-- the bytes of a row
abbrev pub row_length : (version : ℕ) → ℕ
row_length version = if version == 1 then NARROW_ROW_LENGTH else ROW_LENGTH

abbrev pub row_text : (version : ℕ) → PairRow → List ℕ
row_text version r = if version == 1 then narrow_spelling r else row_spelling r

-- the row that bytes spell
abbrev pub row_by : (version : ℕ) → List ℕ → Option PairRow
row_by version bytes = if version == 1 then narrow_row_at bytes else row_at bytes

abbrev pub is_version_row : (version : ℕ) → PairRow → Bool
is_version_row version r = if version == 1 then is_narrow_row r else is_row r
