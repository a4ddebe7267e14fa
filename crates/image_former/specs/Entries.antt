-- Which track of which device an entry is on, by the rows of a table.
use Rattle.std.specs.Prelude.{ℕ, ◌==◌, ◌&&◌, List, Bool, false, Option, Some, None, find, IsTrue}
use Rattle.std.specs.List.{list_any}
use Rattle.pair_table.specs.declared.row.PairRow.{PairRow}
use Rattle.pending_queue.specs.declared.head.EntryHead.{EntryHead}
use Rattle.pending_queue.specs.Entries.{WaitingEntry}

-- whether a row is that of an entry: it has its controller and volume
abbrev pub is_row_of : EntryHead → PairRow → Bool
is_row_of head row = row.control == head.control && row.volume == head.volume

-- the row of an entry
abbrev pub entry_row : List PairRow → WaitingEntry → Option PairRow
entry_row rows entry = find (is_row_of entry.head) rows

abbrev pub row_device : Option PairRow → Option ℕ
row_device (Some row) = Some row.device
row_device None = None

-- the device of an entry: that of its row
abbrev pub entry_device : List PairRow → WaitingEntry → Option ℕ
entry_device rows entry = row_device (entry_row rows entry)

abbrev pub is_device : (device : ℕ) → Option ℕ → Bool
is_device device (Some d) = d == device
is_device device None = false

-- whether an entry is on this track of the device
abbrev pub is_entry_on : List PairRow → (device track : ℕ) → WaitingEntry → Bool
is_entry_on rows device track entry = is_device device (entry_device rows entry) && entry.head.track == track

-- Some entry is on this track of the device.
abbrev pub HasEntry : List PairRow → (device track : ℕ) → List WaitingEntry → Type 0
HasEntry rows device track entries = IsTrue (list_any (is_entry_on rows device track) entries)
