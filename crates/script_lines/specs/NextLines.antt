-- The next line of a script, after others.
use Rattle.std.specs.Prelude.{◌≡◌, ◌⊎◌, ℕ, ◌+◌, ◌-◌, List, [], length, Option, Some, None}
use Rattle.crash_plant.specs.Moments.{PlantState}
use Rattle.xrc_command.specs.declared.line.Line.{Line}
use Rattle.xrc_command.specs.Reading.{line_spelled}
use Rattle.consistency.specs.Stages.{ScriptRun}
use Rattle.consistency.specs.Courses.{Answered, first_line, last_line_time, later_line}
use Rattle.consistency.specs.Keeping.{Keeps, stage_now}
use Rattle.script_lines.specs.declared.next.Next.{Next}
use Rattle.script_lines.specs.declared.next.Next.TheVariants.{Bad, Line as NextLine, Nothing}
use Rattle.script_lines.specs.Texts.{IsNothing, IsTooLong, IsWhole}

-- What is next is a line that was heard whole, exactly where its text spells one that counts at this number, counted from 1, and after
-- a line of this time. Any other line is bad.
abbrev pub IsNextLine : (tells : Type 0) → (number before : ℕ) → (text left : List ℕ) → Next → Type 0
IsNextLine tells number before text left (NextLine line) = IsWhole tells text left × (later_line (number - 1) before (line_spelled (first_line text)) ≡ Some line)
IsNextLine tells number before text left Bad = (IsWhole tells text left × (later_line (number - 1) before (line_spelled (first_line text)) ≡ None)) ⊎ IsTooLong text
IsNextLine tells number before text left Nothing = IsNothing tells text left

-- the line that is next, if one is
abbrev pub asked_next : Next → Option Line
asked_next (NextLine line) = Some line
asked_next Bad = None
asked_next Nothing = None

-- This is the next line of each run that has answered the lines before, the last of them at this time, and has heard the text.
abbrev pub IsNextInRuns : (number before : ℕ) → (text : List ℕ) → Option Line → (first old : PlantState) → Type 0
IsNextInRuns number before text asked first old = (run : ScriptRun) (lines : List Answered) → Keeps run lines [] first old → number ≡ length lines + 1 → last_line_time lines (length lines) ≡ before
    → (stage_now run first.script lines text).next ≡ asked
