-- Hits of devices: which ones no record or mark has told yet, what rows are once they are told, and the changes of rows that this is.
use Rattle.std.specs.Prelude.{ℕ, ◌&&◌, not, List, [], ◌∷◌, ◌++◌, map, filter, Bool, false, slice_index_or, if◌then◌else◌}
use Rattle.pair_table.specs.declared.level.Level.{Level}
use Rattle.pair_table.specs.declared.row.PairRow.{PairRow}
use Rattle.pair_table.specs.States.{is_device_suspended}
use Rattle.row_changes.specs.Changes.{Due, FaultReach, Timed, due_after_mark, hit_row, reach_of, reached_row, reaches_others}
use Rattle.row_changes.specs.Changes.Due.{NoneDue}
use Rattle.row_changes.specs.Changes.RowChange.{Hit, MarkedHit, Reached}

-- ---- who is hit

-- whether the job of a device has failed, by the flags of the devices in order
abbrev pub is_down : (failed : List Bool) → (device : ℕ) → Bool
is_down failed device = slice_index_or failed device false

-- A job that failed stays failed. So a row is hit now if its device's job has failed and the device doesn't suspend the row yet.
abbrev pub is_hit_now : (failed : List Bool) → PairRow → Bool
is_hit_now failed r = is_down failed r.device && not (is_device_suspended r.state)

-- The devices that are hit now, in order of their rows. No record and no mark has told these hits yet.
abbrev pub hit_now : (failed : List Bool) → List PairRow → List ℕ
hit_now failed rows = map (λ r. r.device) (filter (is_hit_now failed) rows)

-- ---- the rows

-- whether hits of these devices reach a row; without a hit none is reached
abbrev pub is_reached : FaultReach → (devices : List ℕ) → PairRow → Bool
is_reached reach [] r = false
is_reached reach (d ∷ devices) r = reach.reaches (d ∷ devices) r

-- The rows after hits at a time, with those that the hits reach. If no device is hit, they are as they were.
abbrev pub rows_hit : Level → (time : ℕ) → (hit : List ℕ) → List PairRow → List PairRow
rows_hit level time [] rows = rows
rows_hit level time (d ∷ hit) rows = map (λ r. reached_row (reach_of level rows) (d ∷ hit) time (hit_row (d ∷ hit) time r)) rows

-- The rows after hits in a mark that is made before a record. The other rows wait for the record.
abbrev pub rows_marked : (time : ℕ) → (hit : List ℕ) → List PairRow → List PairRow
rows_marked time hit rows = map (hit_row hit time) rows

-- The rows that the record brings which these hits in the mark before it have left due.
abbrev pub rows_reached : Level → (time : ℕ) → (marked : List ℕ) → List PairRow → List PairRow
rows_reached level time [] rows = rows
rows_reached level time (d ∷ marked) rows = map (reached_row (reach_of level rows) (d ∷ marked) time) rows

-- The rows after what a record tells: first the rows that were due, then its own hits.
abbrev pub rows_told : Level → (time : ℕ) → (marked hit : List ℕ) → List PairRow → List PairRow
rows_told level time marked hit rows = rows_hit level time hit (rows_reached level time marked rows)

-- ---- the changes

abbrev pub hit_changes : (time : ℕ) → (hit : List ℕ) → List Timed
hit_changes time [] = []
hit_changes time (d ∷ hit) = record { time = time; change = Hit (d ∷ hit) } ∷ []

abbrev pub marked_changes : (time : ℕ) → (hit : List ℕ) → List Timed
marked_changes time [] = []
marked_changes time (d ∷ hit) = record { time = time; change = MarkedHit (d ∷ hit) } ∷ []

-- Under level VOLUME nothing is due.
abbrev pub reached_changes : Level → (time : ℕ) → (marked : List ℕ) → List Timed
reached_changes level time [] = []
reached_changes level time (d ∷ marked) = if reaches_others level then record { time = time; change = Reached (d ∷ marked) } ∷ [] else []

abbrev pub told_changes : Level → (time : ℕ) → (marked hit : List ℕ) → List Timed
told_changes level time marked hit = reached_changes level time marked ++ hit_changes time hit

-- what is due after a mark with these hits
abbrev pub due_once_marked : Level → (time : ℕ) → (hit : List ℕ) → Due
due_once_marked level time [] = NoneDue
due_once_marked level time (d ∷ hit) = due_after_mark level NoneDue time (d ∷ hit)
