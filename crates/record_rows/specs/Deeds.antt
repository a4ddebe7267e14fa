-- Deeds: what is done to a site, one deed after another, and the rows and the time that are meant after them.
use Rattle.std.specs.Prelude.{ℕ, List, [], ◌∷◌, Bool}
use Rattle.crash_plant.specs.declared.spot.Spot.{Spot}
use Rattle.pair_table.specs.declared.row.PairRow.{PairRow}
use Rattle.pending_queue.specs.Entries.{WaitingEntry}

-- A deed, with the rows that are meant after it.
--   Logged: a group is logged.
--   Changed: rows alone are, by a command or because devices failed.
--   Marked: a mark is made. Its rows may have suspensions that no record has.
pub data Deed : Type 0 where
  Logged : (cut : ℕ) → (entries : List WaitingEntry) → (rows : List PairRow) → Deed
  Changed : (time : ℕ) → (rows : List PairRow) → Deed
  Marked : (spot : Spot) → (ended : Bool) → (rows : List PairRow) → Deed

-- ---- one deed

abbrev pub rows_by_deed : Deed → List PairRow
rows_by_deed (Logged cut entries rows) = rows
rows_by_deed (Changed time rows) = rows
rows_by_deed (Marked spot ended rows) = rows

abbrev pub entries_by_deed : Deed → List WaitingEntry
entries_by_deed (Logged cut entries rows) = entries
entries_by_deed (Changed time rows) = []
entries_by_deed (Marked spot ended rows) = []

-- the time that is meant after a deed; a mark leaves it
abbrev pub time_by_deed : (time : ℕ) → Deed → ℕ
time_by_deed time (Logged cut entries rows) = cut
time_by_deed time (Changed at rows) = at
time_by_deed time (Marked spot ended rows) = time

-- ---- deeds one after another

abbrev pub rows_after_deeds : List Deed → List PairRow → List PairRow
rows_after_deeds [] rows = rows
rows_after_deeds (deed ∷ deeds) rows = rows_after_deeds deeds (rows_by_deed deed)

abbrev pub time_meant_after : List Deed → (time : ℕ) → ℕ
time_meant_after [] time = time
time_meant_after (deed ∷ deeds) time = time_meant_after deeds (time_by_deed time deed)
