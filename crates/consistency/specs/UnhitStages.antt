-- What lines make of the table of a session of which no volume fails.
use Rattle.std.specs.Prelude.{ℕ, List, map, take, fold, if◌then◌else◌}
use Rattle.pair_table.specs.Tables.{Table, with_rows}
use Rattle.row_changes.specs.Spans.{next_row}
use Rattle.xrc_command.specs.declared.line.Line.{Line}
use Rattle.consistency.specs.Stages.{ScriptRun, Stage, breaks_of, names_of}
use Rattle.consistency.specs.Courses.{Answered, first_stage, replied_after}
use Rattle.consistency.specs.Steps.{commanded, is_active}

-- the table when a line takes effect, from that after the last reply: each row that wasn't suspended is duplex, or suspended by its
-- controller's break
abbrev pub table_by : ScriptRun → (from time : ℕ) → Table → Table
table_by run from time table = if is_active table then with_rows table (map (next_row (breaks_of run) from time) table.rows) else table

-- the stage after a line, by what it asks alone
abbrev pub unhit_after : ScriptRun → Stage → Line → Stage
unhit_after run s line = record s {
  table = commanded (breaks_of run) (names_of run) (table_by run s.replied line.time.0 s.table) line;
  replied = replied_after s line;
}

-- the stage after so many lines
abbrev pub unhit_stage_at : ScriptRun → List Answered → (answered : ℕ) → Stage
unhit_stage_at run lines n = fold (λ s a. unhit_after run s a.line) (first_stage run) (take n lines)
