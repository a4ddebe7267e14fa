-- Tables of pairs: what a table is to its callers, how its rows change, and the rules over several rows.
use Rattle.std.specs.Prelude.{ℕ, ◌≤◌, ◌==◌, ◌&&◌, ◌||◌, not, List, [], ◌∷◌, length, map, filter, find, Bool, true, false, Option, if◌then◌else◌, IsTrue, bytes_eq, nat_lt}
use Rattle.std.specs.List.{list_any, list_all}
use Rattle.pair_table.specs.declared.limits.TheConstants.{MOST_ROWS}
use Rattle.pair_table.specs.declared.row.PairState.{PairState}
use Rattle.pair_table.specs.declared.row.PairState.TheVariants.{Pending}
use Rattle.pair_table.specs.declared.row.PairRow.{PairRow}
use Rattle.pair_table.specs.Devices.{is_among}
use Rattle.pair_table.specs.Rows.{keeps_row_rules, is_row}

pub record Table : Type 0 where
  -- the session's name
  pub session : List ℕ
  pub is_started : Bool
  -- whether the session has ended
  pub is_ended : Bool
  -- the rows in order of adding
  pub rows : List PairRow

-- the table of a session before its start
abbrev pub new_table : (session : List ℕ) → Table
new_table session = record { session = session; is_started = false; is_ended = false; rows = [] }

-- the table with other rows
abbrev pub with_rows : Table → List PairRow → Table
with_rows table rows = record table { rows = rows }

-- ---- rows of a device

abbrev pub is_of : (device : ℕ) → PairRow → Bool
is_of device r = device == r.device

-- the device's row
abbrev pub row_of : (device : ℕ) → List PairRow → Option PairRow
row_of device rows = find (is_of device) rows

abbrev pub HasRow : (device : ℕ) → List PairRow → Type 0
HasRow device rows = IsTrue (list_any (is_of device) rows)

-- the devices of the rows are below a number of devices
abbrev pub are_below : (devices : ℕ) → List PairRow → Bool
are_below devices rows = list_all (λ r. nat_lt r.device devices) rows

-- the rows with one more: it takes the place of its device's row, or goes last
abbrev pub with_row : PairRow → List PairRow → List PairRow
with_row row [] = row ∷ []
with_row row (r ∷ rows) = if is_of row.device r then row ∷ rows else r ∷ with_row row rows

-- the rows without the device's
abbrev pub without_row : (device : ℕ) → List PairRow → List PairRow
without_row device rows = filter (λ r. not (is_of device r)) rows

-- the row in another state
abbrev pub in_state : PairState → PairRow → PairRow
in_state state r = record r { state = state }

-- the row changed, where it is the device's
abbrev pub row_changed : (device : ℕ) → (PairRow → PairRow) → PairRow → PairRow
row_changed device change r = if is_of device r then change r else r

abbrev pub changed_row : (device : ℕ) → PairState → PairRow → PairRow
changed_row device state r = row_changed device (in_state state) r

-- the rows with the device's in another state
abbrev pub with_state : (device : ℕ) → PairState → List PairRow → List PairRow
with_state device state rows = map (changed_row device state) rows

-- a row that is resumed: it is pending, in this group or in none
abbrev pub resumed_in : (group : Option (List ℕ)) → PairRow → PairRow
resumed_in group r = record r { state = Pending; group = group }

-- the rows with the device's resumed
abbrev pub with_resumed : (device : ℕ) → (group : Option (List ℕ)) → List PairRow → List PairRow
with_resumed device group rows = map (row_changed device (resumed_in group)) rows

-- the rows with those of several devices in another state
abbrev pub with_states : (devices : List ℕ) → PairState → List PairRow → List PairRow
with_states devices state rows = map (λ r. if is_among r.device devices then in_state state r else r) rows

-- ---- the rules over several rows

-- Two rows clash where they have one primary, one device, or one pair of controller and volume.
abbrev pub clashes : PairRow → PairRow → Bool
clashes r s = bytes_eq r.primary s.primary || r.device == s.device || (r.control == s.control && r.volume == s.volume)

abbrev pub none_clash : List PairRow → Bool
none_clash [] = true
none_clash (r ∷ rows) = not (list_any (clashes r) rows) && none_clash rows

-- a row of another device that clashes with a row
abbrev pub clashes_apart : PairRow → PairRow → Bool
clashes_apart row r = not (is_of row.device r) && clashes row r

-- the most rows of a table
abbrev pub most_rows : ℕ
most_rows = MOST_ROWS

-- The rows of a table are sound: each is a row, no two clash, and there are no more than a table has.
pub record AreRowsSound (rows : List PairRow) : Type 0 where
  pub each : IsTrue (list_all is_row rows)
  pub apart : IsTrue (none_clash rows)
  pub few : length rows ≤ most_rows

-- A row may be put where it keeps the rules that its types leave open, and the rows with it keep those over several rows.
pub record MayPut (row : PairRow) (rows : List PairRow) : Type 0 where
  pub rules : IsTrue (keeps_row_rules row)
  pub apart : IsTrue (none_clash (with_row row rows))
  pub few : length (with_row row rows) ≤ most_rows
