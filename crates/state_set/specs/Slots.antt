-- The state device: two slots, each one half of it. Each begins with the level and the rows of a session.
use Rattle.std.specs.Prelude.{◌≡◌, ◌≢◌, ℕ, zero, suc, ◌+◌, ◌*◌, ◌≤◌, ◌==◌, ◌&&◌, List, [], ◌∷◌, ◌++◌, length, take, drop, Bool, true, false, Option, Some, None, Result, ok_or, nat_le, if◌then◌else◌, slice_index, slice_range, bytes_eq, codes}
use Rattle.state_set.specs.declared.lengths.TheConstants.{HEAD, SLOT}
use Rattle.pair_table.specs.declared.limits.TheConstants.{ROW_LENGTH}
use Rattle.std.specs.List.{flat_map}
use Rattle.std.specs.Int.{w16, to_be_bytes, from_be_bytes}
use Rattle.tod_stamp.specs.Names.{session_field}
use Rattle.crash_plant.specs.Bytes.{Torn}
use Rattle.pair_table.specs.declared.level.Level.{Level}
use Rattle.pair_table.specs.declared.level.Level.TheVariants.{Volume, Session, Group}
use Rattle.pair_table.specs.declared.row.PairRow.{PairRow}
use Rattle.pair_table.specs.Rows.{row_by, row_length, row_text}
use Rattle.pair_table.specs.Tables.{Table, are_below, most_rows, none_clash}
use Rattle.tod_stamp.specs.Options.{◌>>=◌}

-- what a slot holds of a session
pub record Stored : Type 0 where
  pub level : Level
  pub rows : List PairRow

-- the place of a slot, 0 or 1
abbrev pub state_slot_place : (slot : ℕ) → ℕ
state_slot_place slot = SLOT * slot

-- ---- the spelling in a version

-- the first 12 bytes, `XST1` or `XST2` and the session
abbrev pub title : (version : ℕ) → (session : List ℕ) → List ℕ
title version session = codes "XST" ++ (48 + version) ∷ session_field session

abbrev pub level_number : Level → ℕ
level_number Volume = 0
level_number Session = 1
level_number Group = 2

-- the bytes before the rows
abbrev pub head_spelling : (version : ℕ) → (session : List ℕ) → Level → (count : ℕ) → List ℕ
head_spelling version session level count = title version session ++ level_number level ∷ to_be_bytes w16 count

-- the rows
abbrev pub rows_spelling : (version : ℕ) → List PairRow → List ℕ
rows_spelling version rows = flat_map (row_text version) rows

-- the bytes that a slot begins with
abbrev pub slot_text : (version : ℕ) → (session : List ℕ) → Level → List PairRow → List ℕ
slot_text version session level rows = head_spelling version session level (length rows) ++ rows_spelling version rows

-- how many they are
abbrev pub slot_length : (version : ℕ) → List PairRow → ℕ
slot_length version rows = HEAD + row_length version * length rows

-- ---- what is written, in version 2

abbrev pub slot_spelling : (session : List ℕ) → Level → List PairRow → List ℕ
slot_spelling session level rows = slot_text 2 session level rows

abbrev pub state_length : List PairRow → ℕ
state_length rows = HEAD + ROW_LENGTH * length rows

-- ---- the rules over several rows and over the plant

-- no more rows than a table has, none of which clash, of devices of the plant
abbrev pub are_rows : (volumes : ℕ) → List PairRow → Bool
are_rows volumes rows = nat_le (length rows) most_rows && none_clash rows && are_below volumes rows

-- ---- reading it

-- Version 1 has no groups.
abbrev pub is_level : (version : ℕ) → Level → Bool
is_level version Volume = true
is_level version Session = true
is_level version Group = version == 2

abbrev pub level_of_number : (version number : ℕ) → Option Level
level_of_number version n = if n == 0 then Some Volume else if n == 1 then Some Session else if n == 2 && version == 2 then Some Group else None

-- so many rows, each by itself
abbrev pub rows_at : (version count : ℕ) → List ℕ → Option (List PairRow)
rows_at version zero bytes = Some []
rows_at version (suc count) bytes = do
  first ← row_by version (take (row_length version) bytes)
  others ← rows_at version count (drop (row_length version) bytes)
  Some (first ∷ others)

-- the rows, where together they keep the rules
abbrev pub kept : (volumes : ℕ) → Option (List PairRow) → Option (List PairRow)
kept volumes None = None
kept volumes (Some rows) = if are_rows volumes rows then Some rows else None

abbrev pub rows_in : (version volumes count : ℕ) → List ℕ → Option (List PairRow)
rows_in version volumes count bytes = kept volumes (rows_at version count bytes)

-- whether the bytes reach to the rows, and begin as those of this version and this session
abbrev pub has_title : (version : ℕ) → (session : List ℕ) → List ℕ → Bool
has_title version session bytes = nat_le HEAD (length bytes) && bytes_eq (title version session) (take 12 bytes)

-- the level and the rows of these bytes, of which those before the rows are there
abbrev pub slot_fields : (version volumes : ℕ) → List ℕ → Option Stored
slot_fields version volumes bytes = do
  level ← level_of_number version (slice_index bytes 12)
  rows ← rows_in version volumes (from_be_bytes w16 (slice_range bytes 13 HEAD)) (drop HEAD bytes)
  Some (record { level = level; rows = rows })

-- What the bytes hold of this session, if they begin with it in either version. The volumes are those of the plant.
abbrev pub state_at : (volumes : ℕ) → (session : List ℕ) → List ℕ → Option Stored
state_at volumes session bytes =
    if has_title 2 session bytes then slot_fields 2 volumes bytes
    else if has_title 1 session bytes then slot_fields 1 volumes bytes
    else None

-- What a slot of these bytes of the device holds of this session. A slot that breaks a rule is damaged at its first byte.
abbrev pub state_of : (volumes : ℕ) → (session : List ℕ) → (slot : ℕ) → (state : List ℕ) → Result Stored ℕ
state_of volumes session slot state = ok_or (state_at volumes session (drop (state_slot_place slot) state)) (state_slot_place slot)

-- ---- writing it

-- While n bytes are written into a slot, all else is as it was, and the other slot holds what it held.
pub record OneSlot (slot n : ℕ) (old new : List ℕ) : Type 0 where
  pub torn : Torn (state_slot_place slot) n old new
  pub others : (volumes : ℕ) (session : List ℕ) (other : ℕ) → other ≤ 1 → other ≢ slot → state_of volumes session other new ≡ state_of volumes session other old

-- ---- tables

-- the table of a session that is started
abbrev pub started_table : (session : List ℕ) → List PairRow → Table
started_table session rows = record { session = session; is_started = true; is_ended = false; rows = rows }

-- the level and the table of what a slot holds
abbrev pub with_table : (session : List ℕ) → Stored → Level × Table
with_table session s = (s.level, started_table session s.rows)
