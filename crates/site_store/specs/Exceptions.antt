-- Tracks whose content isn't told: those of a device that failed, or that has no row, until a group has a whole image of them.
use Rattle.std.specs.Prelude.{ℕ, ◌&&◌, ◌||◌, not, List, [], ◌∷◌, Bool}
use Rattle.std.specs.List.{list_any}
use Rattle.pair_table.specs.declared.row.PairRow.{PairRow}
use Rattle.pair_table.specs.Tables.{is_of}
use Rattle.pending_queue.specs.Entries.{WaitingEntry, is_whole}
use Rattle.image_former.specs.Entries.{is_entry_on}
use Rattle.pair_table.specs.States.{is_device_suspended}
use Rattle.record_rows.specs.Deeds.{Deed, entries_by_deed, rows_by_deed}

-- A track is excepted where an item of it was logged before its device's job last failed, and wasn't applied. Once a mark counts after
-- that item, the slot may hold anything.
abbrev pub Exceptions : Type 0
Exceptions = (device track : ℕ) → Bool

-- A device is kept by rows of which one is its row, and isn't suspended by the device's failure. Of a device without a row no
-- failure is told.
abbrev pub is_kept : (device : ℕ) → List PairRow → Bool
is_kept device rows = list_any (λ r. is_of device r && not (is_device_suspended r.state)) rows

-- whether an entry is a whole image of a device's track
abbrev pub is_whole_on : List PairRow → (device track : ℕ) → WaitingEntry → Bool
is_whole_on rows device track entry = is_entry_on rows device track entry && is_whole entry.kind

-- The exceptions after a deed: each track of a device that its rows don't keep, and those before it of which it logs no whole image.
abbrev pub excepted_by_deed : List PairRow → Deed → Exceptions → Exceptions
excepted_by_deed rows deed excepted = λ d x. not (is_kept d (rows_by_deed deed)) || (excepted d x && not (list_any (is_whole_on rows d x) (entries_by_deed deed)))

abbrev pub excepted_after : List PairRow → List Deed → Exceptions → Exceptions
excepted_after rows [] excepted = excepted
excepted_after rows (deed ∷ deeds) excepted = excepted_after (rows_by_deed deed) deeds (excepted_by_deed rows deed excepted)
