-- The rows after a group's record, which tells hits too, and the changes of rows that it brings.
use Rattle.std.specs.Prelude.{ℕ, List, ◌++◌, Bool}
use Rattle.pair_table.specs.declared.level.Level.{Level}
use Rattle.pair_table.specs.declared.row.PairRow.{PairRow}
use Rattle.pending_queue.specs.Groups.{FormedGroup}
use Rattle.row_changes.specs.Changes.{Timed}
use Rattle.record_rows.specs.GroupRows.{group_changes, rows_with_group}
use Rattle.record_rows.specs.Hits.{hit_changes, hit_now, rows_hit, rows_told, told_changes}

-- ---- hits alone

-- The rows after hits that are told at a time: by a record of suspensions, by a mark that no record follows, or after the rows that a
-- command made.
abbrev pub rows_with_hits : Level → (time : ℕ) → (failed : List Bool) → List PairRow → List PairRow
rows_with_hits level time failed rows = rows_hit level time (hit_now failed rows) rows

-- ---- a record with no mark made for it

-- First what the group brings, then the hits at its cut: a row that breaks or matures with the group and is hit is suspended by its device.
abbrev pub rows_with_record : Level → FormedGroup → (failed : List Bool) → List PairRow → List PairRow
rows_with_record level group failed rows = rows_hit level group.cut.0 (hit_now failed rows) (rows_with_group group rows)

abbrev pub record_changes : FormedGroup → (failed : List Bool) → List PairRow → List Timed
record_changes group failed rows = group_changes group rows ++ hit_changes group.cut.0 (hit_now failed rows)

-- ---- a record after a mark that was made for it, in which these devices were hit

-- `rows` are the mark's.
abbrev pub rows_after_mark : Level → (marked : List ℕ) → FormedGroup → (failed : List Bool) → List PairRow → List PairRow
rows_after_mark level marked group failed rows = rows_told level group.cut.0 marked (hit_now failed rows) (rows_with_group group rows)

abbrev pub changes_after_mark : Level → (marked : List ℕ) → FormedGroup → (failed : List Bool) → List PairRow → List Timed
changes_after_mark level marked group failed rows = group_changes group rows ++ told_changes level group.cut.0 marked (hit_now failed rows)
