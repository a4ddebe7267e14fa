-- The laws of times that are borne. Each is the contract of a public function without parameters.
use Rattle.std.specs.Prelude.{◌≡◌, ◌≤◌, ◌<◌, ◌^◌, ℕ, List, map, Option, Some, false, IsTrue, slice_get}
use Rattle.pair_table.specs.declared.level.Level.{Level}
use Rattle.pair_table.specs.Naming.{Naming}
use Rattle.pair_table.specs.Tables.{Table, none_clash}
use Rattle.row_changes.specs.Changes.{Timed, after_changes}
use Rattle.row_changes.specs.Spans.{has_no_hit, next_row}
use Rattle.site_means.specs.Images.{Images, Shape}
use Rattle.xrc_command.specs.declared.line.Line.{Line}
use Rattle.consistency.specs.Bearing.{Bears}
use Rattle.consistency.specs.Stages.{ScriptRun, Stage}
use Rattle.consistency.specs.Courses.{Answered, IsCourse, StandsAt}
use Rattle.consistency.specs.Replies.{reply_count}
use Rattle.consistency.specs.Steps.{IsCommanded}

-- A choice of images bears one time at most.
abbrev pub OneTime : Type 0
OneTime = (run : ScriptRun) (s : Stage) (shape : Shape) (images : Images) (a b : ℕ) → Bears run s shape images a → Bears run s shape images b → a ≡ b

-- It bears no time before the one that was replied last.
abbrev pub TimesAreNotEarlier : Type 0
TimesAreNotEarlier = (run : ScriptRun) (s : Stage) (shape : Shape) (images : Images) (time : ℕ) → Bears run s shape images time → s.replied ≤ time

-- It bears no time past a line that was heard, where the session hasn't ended.
abbrev pub TimesAreNotLater : Type 0
TimesAreNotLater = (run : ScriptRun) (s : Stage) (shape : Shape) (images : Images) (time : ℕ) (line : Line) → s.next ≡ Some line → s.table.is_ended ≡ false
    → Bears run s shape images time → time ≤ line.time.0

-- Without a hit the rows before a line's command are determined: each row that wasn't suspended is duplex, or suspended since its
-- controller's break time where that lies between.
abbrev pub StepsAreFunctions : Type 0
StepsAreFunctions = (level : Level) (breaks : List (Option ℕ)) (names : Naming) (from : ℕ) (old : Table) (line : Line) (changes hits : List Timed) → IsTrue (none_clash old.rows)
    → IsCommanded level breaks names from old line changes hits → IsTrue (has_no_hit changes)
    → after_changes level changes old.rows ≡ map (next_row breaks from line.time.0) old.rows

-- Where a run stands as many lines are answered as replies were said: the lines of its course are all that it replied to.
abbrev pub RepliesAreAnswers : Type 0
RepliesAreAnswers = (run : ScriptRun) (lines : List Answered) (heard said : List ℕ) → ((n : ℕ) (a : Answered) → slice_get lines n ≡ Some a → a.line.time.0 < 2 ^ 64) → IsCourse run lines → (at : StandsAt lines heard said) → reply_count said ≡ at.answered
