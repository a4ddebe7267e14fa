-- What one line does to a session's table, with the changes before and after its command.
use Rattle.std.specs.Prelude.{◌≡◌, ℕ, ◌+◌, ◌==◌, ◌&&◌, not, List, [], ◌∷◌, Bool, false, Option, IsTrue, if◌then◌else◌}
use Rattle.std.specs.List.{list_all}
use Rattle.sidefile.specs.Breaks.{is_below}
use Rattle.pair_table.specs.declared.level.Level.{Level}
use Rattle.pair_table.specs.Commands.{table_after}
use Rattle.pair_table.specs.Naming.{Naming}
use Rattle.pair_table.specs.Tables.{Table, with_rows}
use Rattle.row_changes.specs.Changes.{Timed, may_all_come, after_changes}
use Rattle.row_changes.specs.Changes.Due.{NoneDue}
use Rattle.row_changes.specs.Spans.{Toward, is_break, is_hit_at}
use Rattle.pair_table.specs.States.{is_settled}
use Rattle.xrc_command.specs.declared.line.Line.{Line}

-- the controllers, from this one on, that have broken at a time: those with a break time below it
abbrev pub broken_at : (time control : ℕ) → (breaks : List (Option ℕ)) → List ℕ
broken_at time k [] = []
broken_at time k (b ∷ breaks) = if is_below b time then k ∷ broken_at time (k + 1) breaks else broken_at time (k + 1) breaks

-- the names as a command at a time sees them
abbrev pub names_at : (time : ℕ) → (breaks : List (Option ℕ)) → Naming → Naming
names_at time breaks names = record names { broken = broken_at time 0 breaks }

-- the table after a line's command alone
abbrev pub commanded : (breaks : List (Option ℕ)) → Naming → Table → Line → Table
commanded breaks names table line = table_after (names_at line.time.0 breaks names) table line.session line.command line.time.0

-- Only a session that has started and not ended changes by itself.
abbrev pub is_active : Table → Bool
is_active table = table.is_started && not table.is_ended

-- the table on the way, after these changes
abbrev pub table_on_the_way : Level → List Timed → Table → Table
table_on_the_way level changes table = with_rows table (after_changes level changes table.rows)

-- The table after a line: after changes on the way to its time, its command, and hits that follow it.
abbrev pub table_after_line : Level → (breaks : List (Option ℕ)) → Naming → Table → Line → (changes hits : List Timed) → Table
table_after_line level breaks names old line changes hits = table_on_the_way level hits (commanded breaks names (table_on_the_way level changes old) line)

-- The changes lead to the line's time, where no controller with that break time has broken and no row is pending or copying. After
-- the command volumes may be hit at that time.
pub record IsCommanded (level : Level) (breaks : List (Option ℕ)) (names : Naming) (from : ℕ) (old : Table) (line : Line) (changes hits : List Timed) : Type 0 where
  pub toward : Toward level breaks false from line.time.0 old.rows changes
  pub not_broken_yet : IsTrue (list_all (λ t. not (is_break t && t.time == line.time.0)) changes)
  pub settled : IsTrue (list_all (λ r. is_settled r.state) (table_on_the_way level changes old).rows)
  pub are_hits : IsTrue (list_all (is_hit_at line.time.0) hits)
  pub may_come : IsTrue (may_all_come level breaks false NoneDue line.time.0 line.time.0 (commanded breaks names (table_on_the_way level changes old) line).rows hits)

-- A step from a line with the stamp `from` to the next, by these changes before its command and these hits after it. Before a
-- session starts, and after it has ended, it is the command alone.
pub record IsLineStep (level : Level) (breaks : List (Option ℕ)) (names : Naming) (from : ℕ) (old : Table) (line : Line) (changes hits : List Timed) (new : Table) : Type 0 where
  pub active : IsTrue (is_active old) → IsCommanded level breaks names from old line changes hits
  pub still : is_active old ≡ false → (changes ≡ []) × (hits ≡ [])
  pub made : new ≡ table_after_line level breaks names old line changes hits
