-- The laws of records that are steps. Each is the contract of a public function without parameters.
use Rattle.std.specs.Prelude.{◌≡◌, ℕ, ◌≤◌, List, Bool, IsTrue}
use Rattle.pair_table.specs.declared.level.Level.{Level}
use Rattle.pair_table.specs.declared.row.PairRow.{PairRow}
use Rattle.pair_table.specs.Tables.{none_clash}
use Rattle.pending_queue.specs.Groups.{FormedGroup}
use Rattle.group_state.specs.Groups.{Group, shown_in}
use Rattle.group_state.specs.Runs.{Answer}
use Rattle.row_changes.specs.Changes.Due.{NoneDue}
use Rattle.record_rows.specs.Deeds.Deed.{Logged}
use Rattle.record_rows.specs.Hits.{due_once_marked}
use Rattle.record_rows.specs.Records.{changes_after_mark, record_changes, rows_after_mark, rows_with_record}
use Rattle.site_store.specs.DeedChanges.{DeedOfChanges}
use Rattle.consistency.specs.Stages.{ScriptRun, breaks_of}
use Rattle.fed_logs.specs.LogLaws.{WasShown}
use Rattle.fed_logs.specs.Logs.{IsFedLog}
use Rattle.fed_logs.specs.ShownBreaks.{BrokeAsTraces}
use Rattle.consistency.specs.Leads.{Point}
use Rattle.mover.specs.Points.{IsStep}

-- the record of a group, and that of one after a mark that was made for it, in which these devices were hit
abbrev pub record_step : Level → FormedGroup → (failed : List Bool) → List PairRow → DeedOfChanges
record_step level group failed rows = record { deed = Logged group.cut.0 group.entries (rows_with_record level group failed rows); changes = record_changes group failed rows }

abbrev pub step_after_mark : Level → (marked : List ℕ) → FormedGroup → (failed : List Bool) → List PairRow → DeedOfChanges
step_after_mark level marked group failed rows = record {
  deed = Logged group.cut.0 group.entries (rows_after_mark level marked group failed rows);
  changes = changes_after_mark level marked group failed rows;
}

-- A group that a form of a run's fed log gave, whose cut isn't below a point's time. The log begins with controllers that broke as their traces do.
pub record IsGroupOfLog (run : ScriptRun) (p : Point) (group : FormedGroup) : Type 0 where
  pub begun : Group
  pub ended : Group
  pub log : List Answer
  pub fed : IsFedLog run.traces begun ended log
  pub broke : BrokeAsTraces run.traces begun
  pub shown : WasShown log (shown_in group)
  pub up : p.time ≤ group.cut.0

-- Its record is a step from a point where nothing is due.
abbrev pub RecordsAreSteps : Type 0
RecordsAreSteps = (run : ScriptRun) (p : Point) (group : FormedGroup) (failed : List Bool) → IsGroupOfLog run p group → IsTrue (none_clash p.rows) → p.due ≡ NoneDue
    → IsStep run.level (breaks_of run) p (record_step run.level group failed p.rows)

-- So is its record after a mark.
abbrev pub AfterMarksAreSteps : Type 0
AfterMarksAreSteps = (run : ScriptRun) (p : Point) (marked : List ℕ) (time : ℕ) (group : FormedGroup) (failed : List Bool) → IsGroupOfLog run p group → IsTrue (none_clash p.rows)
    → p.due ≡ due_once_marked run.level time marked → IsStep run.level (breaks_of run) p (step_after_mark run.level marked group failed p.rows)
