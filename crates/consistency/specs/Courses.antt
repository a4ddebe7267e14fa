-- The course of a run: the lines that it answers one after another, and where it stands once so much was heard and said.
use Rattle.std.specs.Prelude.{◌≡◌, ℕ, suc, ◌+◌, ◌<◌, ◌≤◌, ◌==◌, ◌&&◌, ◌||◌, List, [], ◌∷◌, ◌++◌, length, take, slice_get, fold, Bool, true, false, Option, Some, None, nat_le, nat_lt, IsTrue, if◌then◌else◌}
use Rattle.std.specs.List.{flat_map, list_any}
use Rattle.xrc_edge.specs.declared.limits.TheConstants.{MOST_LINES}
use Rattle.pair_table.specs.declared.command.Command.TheVariants.{Start}
use Rattle.pair_table.specs.declared.level.Level.{Level}
use Rattle.pair_table.specs.Tables.{Table, new_table}
use Rattle.row_changes.specs.Changes.{Timed}
use Rattle.row_changes.specs.Spans.{AreCounted}
use Rattle.xrc_command.specs.declared.line.Line.{Line}
use Rattle.xrc_command.specs.Reading.{line_spelled}
use Rattle.consistency.specs.Stages.{ScriptRun, Stage, accepts, breaks_of, names_of}
use Rattle.consistency.specs.Replies.{IsReply, has_reply}
use Rattle.consistency.specs.Steps.{IsLineStep, table_on_the_way}

-- A line that was answered: its text as it was heard, what it asks, the reply as it was said, the changes of rows before its command
-- and the hits after it, and the table then.
pub record Answered : Type 0 where
  pub text : List ℕ
  pub line : Line
  pub reply : List ℕ
  pub changes : List Timed
  pub hits : List Timed
  pub table : Table

-- ---- stages

abbrev pub first_stage : ScriptRun → Stage
first_stage run = record { table = new_table run.session; replied = 0; past = []; next = None }

-- The stamp of a reply is its line's time, or that of the end of the session in later ones.
abbrev pub replied_after : Stage → Line → ℕ
replied_after s line = if s.table.is_ended then s.replied else line.time.0

abbrev pub stage_after : Stage → Answered → Stage
stage_after s a = record { table = a.table; replied = replied_after s a.line; past = s.past ++ a.changes ++ a.hits; next = None }

-- the stage after so many lines
abbrev pub stage_at : ScriptRun → List Answered → (answered : ℕ) → Stage
stage_at run lines n = fold stage_after (first_stage run) (take n lines)

-- ---- courses

-- A line is answered at a stage: its table comes by a step, a device is hit at most as often as it failed, the start that the command
-- table accepts gives the session its level, and what was said is one reply, by which the command is accepted where the table accepts it.
pub record IsAnswered (run : ScriptRun) (s : Stage) (a : Answered) : Type 0 where
  pub step : IsLineStep run.level (breaks_of run) (names_of run) s.replied s.table a.line a.changes a.hits a.table
  pub counted : AreCounted run.rises (s.past ++ a.changes ++ a.hits)
  pub level : (level : Level) → a.line.command ≡ Start level → IsTrue (accepts run s.table a.line) → level ≡ run.level
  pub is_reply : IsReply (accepts run (table_on_the_way run.level a.changes s.table) a.line) a.line a.reply

-- Each line is answered at the stage after those before it.
abbrev pub IsCourse : ScriptRun → List Answered → Type 0
IsCourse run lines = (n : ℕ) (a : Answered) → slice_get lines n ≡ Some a → IsAnswered run (stage_at run lines n) a

-- ---- what is heard and said

abbrev pub texts_of : List Answered → List ℕ
texts_of lines = flat_map (λ a. a.text) lines

abbrev pub replies_of : List Answered → List ℕ
replies_of lines = flat_map (λ a. a.reply) lines

-- how many lines begin in a text, where its first byte stands inside a line or begins one
abbrev pub lines_begun_from : (is_inside : Bool) → (text : List ℕ) → ℕ
lines_begun_from is_inside [] = 0
lines_begun_from is_inside (b ∷ text) = (if is_inside then 0 else 1) + lines_begun_from (if b == 10 then false else true) text

abbrev pub lines_begun : (text : List ℕ) → ℕ
lines_begun text = lines_begun_from false text

-- what stands before the first line feed
abbrev pub first_line : (text : List ℕ) → List ℕ
first_line [] = []
first_line (b ∷ text) = if b == 10 then [] else b ∷ first_line text

-- A line is whole with its line feed, or with the end of the script.
abbrev pub is_whole_line : (at_end : Bool) → (text : List ℕ) → Bool
is_whole_line at_end text = list_any (λ b. b == 10) text || (at_end && nat_lt 0 (length text))

-- the most lines of a script
abbrev pub most_lines : ℕ
most_lines = MOST_LINES

-- the time of the last of so many lines; 0 where there is none
abbrev pub last_line_time : List Answered → (answered : ℕ) → ℕ
last_line_time lines n = fold (λ before a. a.line.time.0) 0 (take n lines)

-- A line after so many others counts where it isn't one too many and its time doesn't fall below that of the line before.
abbrev pub later_line : (lines before : ℕ) → Option Line → Option Line
later_line lines before None = None
later_line lines before (Some line) = if nat_lt lines most_lines && nat_le before line.time.0 then Some line else None

-- the line that was heard whole after the answered ones, if one was that counts
abbrev pub next_line : (answered before : ℕ) → (at_end : Bool) → (text : List ℕ) → Option Line
next_line answered before at_end text = if is_whole_line at_end text then later_line answered before (line_spelled (first_line text)) else None

-- A line was answered as what its text asks: one line that was heard whole.
pub record IsAsked (answered before : ℕ) (at_end : Bool) (a : Answered) : Type 0 where
  pub asks : next_line answered before at_end a.text ≡ Some a.line
  pub one_line : lines_begun a.text ≤ 1

-- Each line was, after those before it. The script's end is heard with its last byte.
abbrev pub AreAsked : (script : List ℕ) → List Answered → Type 0
AreAsked script lines = (n : ℕ) (a : Answered) → slice_get lines n ≡ Some a
    → IsAsked n (last_line_time lines n) (length (texts_of (take (suc n) lines)) == length script) a

-- Where a run stands once so much was heard of its script and so much was said: so many lines are answered, part of the next reply
-- or of a last line was said, in which no whole reply stands, and no byte of a line after the next was heard.
pub record StandsAt (lines : List Answered) (heard said : List ℕ) : Type 0 where
  pub answered : ℕ
  pub within : answered ≤ length lines
  pub text : List ℕ
  pub heard_is : heard ≡ texts_of (take answered lines) ++ text
  pub part : List ℕ
  pub said_is : said ≡ replies_of (take answered lines) ++ part
  pub not_whole : (a : Answered) → slice_get lines answered ≡ Some a → length part < length a.reply
  pub none_more : has_reply part ≡ false
  pub one_line : lines_begun text ≤ 1

-- the stage there; the script's end is heard with its last byte
abbrev pub stage_there : {lines : List Answered} {heard said : List ℕ} → ScriptRun → (script : List ℕ) → StandsAt lines heard said → Stage
stage_there {lines} {heard} {said} run script at = record (stage_at run lines at.answered) {
  next = next_line at.answered (last_line_time lines at.answered) (length heard == length script) at.text;
}
