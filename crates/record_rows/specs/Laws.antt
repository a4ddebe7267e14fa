-- The laws of records' and marks' rows. Each is the contract of a public function without parameters.
use Rattle.std.specs.Prelude.{◌≡◌, ℕ, ◌+◌, ◌≤◌, List, [], ◌++◌, Bool, true, false, Option, IsTrue, if◌then◌else◌}
use Rattle.std.specs.List.{list_all}
use Rattle.pair_table.specs.declared.level.Level.{Level}
use Rattle.pair_table.specs.declared.row.PairRow.{PairRow}
use Rattle.pair_table.specs.declared.row.PairState.{PairState}
use Rattle.pair_table.specs.Devices.{is_among}
use Rattle.pair_table.specs.Tables.{none_clash}
use Rattle.pending_queue.specs.Groups.{FormedGroup}
use Rattle.row_changes.specs.Changes.{Due, Timed, after_changes, may_all_come, reach_of}
use Rattle.row_changes.specs.Changes.Due.{NoneDue}
use Rattle.row_changes.specs.Spans.{hit_count, is_hit_at}
use Rattle.record_rows.specs.GroupRows.{are_breaks_at_cut}
use Rattle.record_rows.specs.ChangedRows.{changed_rows, rows_in_states, state_told, state_with_record, with_rows_put}
use Rattle.record_rows.specs.Hits.{due_once_marked, hit_changes, hit_now, is_down, marked_changes, rows_marked}
use Rattle.record_rows.specs.Records.{changes_after_mark, record_changes, rows_after_mark, rows_with_hits, rows_with_record}
use Rattle.record_rows.specs.ToldRows.{AreGrouped, AreTold, due_after_changes}

-- ---- records

-- A record's rows come by its changes, in order.
abbrev pub RecordsAreChanges : Type 0
RecordsAreChanges = (level : Level) (breaks : List (Option ℕ)) (group : FormedGroup) (failed : List Bool) (rows : List PairRow) → IsTrue (none_clash rows) → IsTrue (are_breaks_at_cut breaks group)
    → rows_with_record level group failed rows ≡ after_changes level (record_changes group failed rows) rows

-- They may all come up to its cut, from any time before, with nothing due before and after.
abbrev pub RecordsMayCome : Type 0
RecordsMayCome = (level : Level) (breaks : List (Option ℕ)) (group : FormedGroup) (failed : List Bool) (from : ℕ) (rows : List PairRow) → IsTrue (none_clash rows) → IsTrue (are_breaks_at_cut breaks group)
    → from ≤ group.cut.0 → IsTrue (may_all_come level breaks false NoneDue from group.cut.0 rows (record_changes group failed rows))

-- ---- hits alone

-- So come the rows of hits alone, at a time: of a record of suspensions, of a mark that no record follows, and after a command's rows.
abbrev pub HitsAreChanges : Type 0
HitsAreChanges = (level : Level) (time : ℕ) (failed : List Bool) (rows : List PairRow) → rows_with_hits level time failed rows ≡ after_changes level (hit_changes time (hit_now failed rows)) rows

abbrev pub HitsMayCome : Type 0
HitsMayCome = (level : Level) (breaks : List (Option ℕ)) (failed : List Bool) (from time : ℕ) (rows : List PairRow) → from ≤ time
    → IsTrue (may_all_come level breaks false NoneDue from time rows (hit_changes time (hit_now failed rows))) × IsTrue (list_all (is_hit_at time) (hit_changes time (hit_now failed rows)))

-- ---- a mark that is made for a record, and the record after it

abbrev pub MarksAreChanges : Type 0
MarksAreChanges = (level : Level) (time : ℕ) (hit : List ℕ) (rows : List PairRow) → rows_marked time hit rows ≡ after_changes level (marked_changes time hit) rows

-- The mark's hits may come at its time. Others are due after them.
abbrev pub MarksMayCome : Type 0
MarksMayCome = (level : Level) (breaks : List (Option ℕ)) (failed : List Bool) (from time : ℕ) (rows : List PairRow) → from ≤ time
    → IsTrue (may_all_come level breaks true NoneDue from time rows (marked_changes time (hit_now failed rows)))
    × (due_after_changes level NoneDue (marked_changes time (hit_now failed rows)) ≡ due_once_marked level time (hit_now failed rows))

-- The rows of the record after it come by its changes.
abbrev pub AfterMarksAreChanges : Type 0
AfterMarksAreChanges = (level : Level) (breaks : List (Option ℕ)) (marked : List ℕ) (group : FormedGroup) (failed : List Bool) (rows : List PairRow) → IsTrue (none_clash rows) → IsTrue (are_breaks_at_cut breaks group)
    → rows_after_mark level marked group failed rows ≡ after_changes level (changes_after_mark level marked group failed rows) rows

-- These may come while others are due since the mark, and leave nothing due.
abbrev pub AfterMarksMayCome : Type 0
AfterMarksMayCome = (level : Level) (breaks : List (Option ℕ)) (marked : List ℕ) (group : FormedGroup) (failed : List Bool) (time from : ℕ) (rows : List PairRow) → IsTrue (none_clash rows) → IsTrue (are_breaks_at_cut breaks group)
    → from ≤ group.cut.0 → IsTrue (may_all_come level breaks false (due_once_marked level time marked) from group.cut.0 rows (changes_after_mark level marked group failed rows))

-- Both in a row. `early` are the jobs that have failed by the mark, `late` those by the record.
abbrev pub MarkedRecordsAreChanges : Type 0
MarkedRecordsAreChanges = (level : Level) (breaks : List (Option ℕ)) (group : FormedGroup) (early late : List Bool) (time : ℕ) (rows : List PairRow) → IsTrue (none_clash rows) → IsTrue (are_breaks_at_cut breaks group)
    → let hit = hit_now early rows in
    rows_after_mark level hit group late (rows_marked time hit rows) ≡ after_changes level (marked_changes time hit ++ changes_after_mark level hit group late (rows_marked time hit rows)) rows

abbrev pub MarkedRecordsMayCome : Type 0
MarkedRecordsMayCome = (level : Level) (breaks : List (Option ℕ)) (group : FormedGroup) (early late : List Bool) (from time : ℕ) (rows : List PairRow) → IsTrue (none_clash rows) → IsTrue (are_breaks_at_cut breaks group)
    → from ≤ time → time ≤ group.cut.0 → let hit = hit_now early rows in
    IsTrue (may_all_come level breaks false NoneDue from group.cut.0 rows (marked_changes time hit ++ changes_after_mark level hit group late (rows_marked time hit rows)))

-- ---- what is told

-- A record tells each failed job, and so do hits alone and a mark.
abbrev pub RecordsTell : Type 0
RecordsTell = (level : Level) (group : FormedGroup) (failed : List Bool) (rows : List PairRow) → IsTrue (none_clash rows) → AreTold failed group.cut.0 rows (rows_with_record level group failed rows)

abbrev pub AfterMarksTell : Type 0
AfterMarksTell = (level : Level) (marked : List ℕ) (group : FormedGroup) (failed : List Bool) (rows : List PairRow) → IsTrue (none_clash rows) → AreTold failed group.cut.0 rows (rows_after_mark level marked group failed rows)

abbrev pub HitsTell : Type 0
HitsTell = (level : Level) (time : ℕ) (failed : List Bool) (rows : List PairRow) → IsTrue (none_clash rows) → AreTold failed time rows (rows_with_hits level time failed rows)

abbrev pub MarksTell : Type 0
MarksTell = (time : ℕ) (failed : List Bool) (rows : List PairRow) → IsTrue (none_clash rows) → AreTold failed time rows (rows_marked time (hit_now failed rows) rows)

-- Only devices whose jobs have failed are hit.
abbrev pub OnlyFailedAreHit : Type 0
OnlyFailedAreHit = (device : ℕ) (failed : List Bool) (rows : List PairRow) → IsTrue (is_among device (hit_now failed rows)) → IsTrue (is_down failed device)

-- Once the failed jobs are told, none of them is hit again.
abbrev pub ToldHitNoMore : Type 0
ToldHitNoMore = (failed : List Bool) (time : ℕ) (rows next : List PairRow) → AreTold failed time rows next → hit_now failed next ≡ []

-- ---- what a group makes of rows

abbrev pub RecordsGroup : Type 0
RecordsGroup = (level : Level) (group : FormedGroup) (failed : List Bool) (rows : List PairRow) → AreGrouped group rows (rows_with_record level group failed rows)

abbrev pub AfterMarksGroup : Type 0
AfterMarksGroup = (level : Level) (marked : List ℕ) (group : FormedGroup) (failed : List Bool) (rows : List PairRow) → AreGrouped group rows (rows_after_mark level marked group failed rows)

-- ---- the rows that a record names

-- Rows of different pairs become what they are in their new states, once those that change are put in order.
abbrev pub ChangedRowsMake : Type 0
ChangedRowsMake = (state : PairRow → Option PairState) (rows : List PairRow) → IsTrue (none_clash rows) → with_rows_put (changed_rows state rows) rows ≡ rows_in_states state rows

-- The rows after a record, after one with a mark made for it, and after hits alone are rows in their new states.
abbrev pub RecordsChangeStates : Type 0
RecordsChangeStates = (level : Level) (group : FormedGroup) (failed : List Bool) (rows : List PairRow) → rows_with_record level group failed rows ≡ rows_in_states (state_with_record (reach_of level rows) [] (hit_now failed rows) group) rows

abbrev pub AfterMarksChangeStates : Type 0
AfterMarksChangeStates = (level : Level) (marked : List ℕ) (group : FormedGroup) (failed : List Bool) (rows : List PairRow)
    → rows_after_mark level marked group failed rows ≡ rows_in_states (state_with_record (reach_of level rows) marked (hit_now failed rows) group) rows

abbrev pub HitsChangeStates : Type 0
HitsChangeStates = (level : Level) (time : ℕ) (failed : List Bool) (rows : List PairRow) → rows_with_hits level time failed rows ≡ rows_in_states (state_told (reach_of level rows) time [] (hit_now failed rows)) rows

-- ---- how often devices are hit

abbrev pub RecordsCount : Type 0
RecordsCount = (device : ℕ) (group : FormedGroup) (failed : List Bool) (rows : List PairRow) → hit_count device (record_changes group failed rows) ≡ (if is_among device (hit_now failed rows) then 1 else 0)

abbrev pub AfterMarksCount : Type 0
AfterMarksCount = (device : ℕ) (level : Level) (marked : List ℕ) (group : FormedGroup) (failed : List Bool) (rows : List PairRow)
    → hit_count device (changes_after_mark level marked group failed rows) ≡ (if is_among device (hit_now failed rows) then 1 else 0)

abbrev pub HitsCount : Type 0
HitsCount = (device time : ℕ) (hit : List ℕ) → hit_count device (hit_changes time hit) ≡ (if is_among device hit then 1 else 0)

abbrev pub MarksCount : Type 0
MarksCount = (device time : ℕ) (hit : List ℕ) → hit_count device (marked_changes time hit) ≡ (if is_among device hit then 1 else 0)

-- A mark and its record together hit a device once at most.
abbrev pub MarkedRecordsCount : Type 0
MarkedRecordsCount = (device : ℕ) (level : Level) (group : FormedGroup) (early late : List Bool) (time : ℕ) (rows : List PairRow) → let hit = hit_now early rows in
    hit_count device (marked_changes time hit ++ changes_after_mark level hit group late (rows_marked time hit rows)) ≤ 1

-- ---- changes in a row

abbrev pub ChangesGoOn : Type 0
ChangesGoOn = (level : Level) (xs ys : List Timed) (rows : List PairRow) → after_changes level (xs ++ ys) rows ≡ after_changes level ys (after_changes level xs rows)

-- Changes that may come up to a time, and others that may come after them from it on, may come in a row.
abbrev pub ChangesMayGoOn : Type 0
ChangesMayGoOn = (level : Level) (breaks : List (Option ℕ)) (first_may_be_due may_be_due : Bool) (due : Due) (from mid to : ℕ) (rows : List PairRow) (xs ys : List Timed) → from ≤ mid → mid ≤ to
    → IsTrue (may_all_come level breaks first_may_be_due due from mid rows xs) → IsTrue (may_all_come level breaks may_be_due (due_after_changes level due xs) mid to (after_changes level xs rows) ys)
    → IsTrue (may_all_come level breaks may_be_due due from to rows (xs ++ ys))

abbrev pub HitsAddUp : Type 0
HitsAddUp = (device : ℕ) (xs ys : List Timed) → hit_count device (xs ++ ys) ≡ hit_count device xs + hit_count device ys
