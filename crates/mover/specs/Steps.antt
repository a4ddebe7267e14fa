-- What each deed of the mover's work is, with its changes of rows.
use Rattle.std.specs.Prelude.{◌≡◌, ◌≢◌, ℕ, ◌≤◌, List, [], ◌∷◌, Bool, IsTrue}
use Rattle.pair_table.specs.declared.level.Level.{Level}
use Rattle.pair_table.specs.declared.row.PairRow.{PairRow}
use Rattle.crash_plant.specs.declared.spot.Spot.{Spot}
use Rattle.pending_queue.specs.Groups.{FormedGroup}
use Rattle.group_state.specs.Groups.{shown_in}
use Rattle.group_state.specs.Runs.{Answer}
use Rattle.row_changes.specs.Changes.{Due}
use Rattle.row_changes.specs.Changes.Due.{NoneDue}
use Rattle.record_rows.specs.Deeds.{rows_by_deed, time_by_deed}
use Rattle.record_rows.specs.Deeds.Deed.{Changed, Logged, Marked}
use Rattle.record_rows.specs.Hits.{due_once_marked, hit_changes, hit_now, marked_changes, rows_marked}
use Rattle.record_rows.specs.Records.{changes_after_mark, record_changes, rows_after_mark, rows_with_hits, rows_with_record}
use Rattle.record_rows.specs.ToldRows.{due_after_changes}
use Rattle.site_store.specs.DeedChanges.{DeedOfChanges}
use Rattle.fed_logs.specs.LogLaws.{WasShown}
use Rattle.mover.specs.Groups.{is_to_log}

-- the record of a group after a mark with these rows, in which these devices were hit
abbrev pub record_after_mark : Level → (marked : List ℕ) → FormedGroup → (failed : List Bool) → List PairRow → DeedOfChanges
record_after_mark level marked group failed rows =
    record { deed = Logged group.cut.0 group.entries (rows_after_mark level marked group failed rows); changes = changes_after_mark level marked group failed rows }

-- A deed of the mover's, from a time, from rows and from what is due. The failed jobs are those that are known when it is done. Marks leave whether
-- the session has ended.
--   Suspends: a record of the rows that failures suspend, of which there are some
--   Marks: a mark, with those suspensions
--   MarksFirst: a mark that a record needs first, with hits. What these reach is due with the record
--   Records: the record of a group that a form showed and that is to be logged, with what the group and the failures make of the rows
--   RecordsAfter: the same after a mark that was made first, in which these devices were hit. The group is to be logged by the rows before it
pub data IsDeedMade (level : Level) (flag : Bool) (answers : List Answer) : (time : ℕ) → List PairRow → Due → DeedOfChanges → Type 0 where
  Suspends : (time : ℕ) (rows : List PairRow) (failed : List Bool) → hit_now failed rows ≢ []
      → IsDeedMade level flag answers time rows NoneDue (record { deed = Changed time (rows_with_hits level time failed rows); changes = hit_changes time (hit_now failed rows) })
  Marks : (time : ℕ) (rows : List PairRow) (failed : List Bool) (spot : Spot)
      → IsDeedMade level flag answers time rows NoneDue (record { deed = Marked spot flag (rows_with_hits level time failed rows); changes = hit_changes time (hit_now failed rows) })
  MarksFirst : (time : ℕ) (rows : List PairRow) (failed : List Bool) (spot : Spot)
      → IsDeedMade level flag answers time rows NoneDue (record { deed = Marked spot flag (rows_marked time (hit_now failed rows) rows); changes = marked_changes time (hit_now failed rows) })
  Records : (time : ℕ) (rows : List PairRow) (group : FormedGroup) (failed : List Bool)
      → WasShown answers (shown_in group) → time ≤ group.cut.0 → IsTrue (is_to_log group time rows)
      → IsDeedMade level flag answers time rows NoneDue (record { deed = Logged group.cut.0 group.entries (rows_with_record level group failed rows); changes = record_changes group failed rows })
  RecordsAfter : (time : ℕ) (was : List PairRow) (group : FormedGroup) (failed : List Bool) (marked : List ℕ)
      → WasShown answers (shown_in group) → time ≤ group.cut.0 → IsTrue (is_to_log group time was)
      → IsDeedMade level flag answers time (rows_marked time marked was) (due_once_marked level time marked) (record_after_mark level marked group failed (rows_marked time marked was))

-- So is each of these deeds, one after the other. This is due at the end.
abbrev pub AreMade : Level → (flag : Bool) → List Answer → (time : ℕ) → List PairRow → Due → List DeedOfChanges → (last : Due) → Type 0
AreMade level flag answers time rows due [] last = due ≡ last
AreMade level flag answers time rows due (step ∷ steps) last =
    IsDeedMade level flag answers time rows due step × AreMade level flag answers (time_by_deed time step.deed) (rows_by_deed step.deed) (due_after_changes level due step.changes) steps last
