-- How a line is answered at the end of a leg, and what its reply says.
use Rattle.std.specs.Prelude.{ℕ, ◌==◌, List, [], ◌∷◌, Bool, false, Option, Some, None, Result, if◌then◌else◌}
use Rattle.pair_table.specs.declared.command.Change.{Change}
use Rattle.pair_table.specs.declared.command.Command.{Command}
use Rattle.pair_table.specs.declared.command.Command.TheVariants.{Start, AddPair, DelPair, Suspend, Query, End}
use Rattle.pair_table.specs.declared.command.Refusal.{Refusal}
use Rattle.pair_table.specs.declared.row.PairRow.{PairRow}
use Rattle.pair_table.specs.Commands.{answer}
use Rattle.row_changes.specs.Changes.{Timed}
use Rattle.xrc_command.specs.declared.line.Line.{Line}
use Rattle.consistency.specs.Stages.{ScriptRun, Stage, breaks_of, names_of}
use Rattle.consistency.specs.Courses.{Answered, replied_after}
use Rattle.consistency.specs.Steps.{names_at, table_after_line, table_on_the_way}
use Rattle.consistency.specs.Leads.{Point}
use Rattle.consistency.specs.Owing.{tracks_asked}
use Rattle.consistency.specs.Ways.{PassedPoint, Way}
use Rattle.consistency.specs.Ways.Way.{Commanded, Ending, MarkedFor, OnTheWay}

-- a line that is answered at a stage, after changes and before hits
abbrev pub answered_by : ScriptRun → Stage → (text reply : List ℕ) → Line → (changes hits : List Timed) → Answered
answered_by run s text reply line changes hits = record {
  text = text;
  line = line;
  reply = reply;
  changes = changes;
  hits = hits;
  table = table_after_line run.level (breaks_of run) (names_of run) s.table line changes hits;
}

-- ---- what a reply says

-- whether a way is the command of the line with a number, or the mark that the command's record needed first
abbrev pub is_command_of : (line : ℕ) → Way → Bool
is_command_of line (Commanded n hits) = n == line
is_command_of line (MarkedFor n hits) = n == line
is_command_of line (OnTheWay changes) = false
is_command_of line (Ending n hits) = false

-- The points that were passed before the command of the line with a number. A mark that the command's record needed first is after them.
abbrev pub points_before : (line : ℕ) → List PassedPoint → List PassedPoint
points_before line [] = []
points_before line (n ∷ points) = if is_command_of line n.way then [] else n ∷ points_before line points

-- What a reply's line says after its command's word: the answer, the tracks that an accepted add has to copy, and the stamp after `T=`,
-- which stands there once the session has started.
pub record ReplyContent : Type 0 where
  pub answer : Result Change Refusal
  pub tracks : ℕ
  pub time : Option ℕ

-- the tracks that a command asks for, of these rows; 0 where it adds no pair
abbrev pub tracks_of_command : ScriptRun → (first : Point) → List PassedPoint → List PairRow → (time : ℕ) → Command → ℕ
tracks_of_command run first points rows time (AddPair primary secondary group) = tracks_asked run first points rows primary time
tracks_of_command run first points rows time (Start level) = 0
tracks_of_command run first points rows time (DelPair choice) = 0
tracks_of_command run first points rows time (Suspend choice) = 0
tracks_of_command run first points rows time Query = 0
tracks_of_command run first points rows time End = 0

-- What the reply to the line with a number tells, if the session has passed these points. Its tracks are told by those before its command.
abbrev pub reply_content : ScriptRun → Stage → (first : Point) → List PassedPoint → (number : ℕ) → Answered → ReplyContent
reply_content run s first points number a =
    let table = table_on_the_way run.level a.changes s.table in
    record {
      answer = answer (names_at a.line.time.0 (breaks_of run) (names_of run)) table a.line.session a.line.command;
      tracks = tracks_of_command run first (points_before number points) table.rows a.line.time.0 a.line.command;
      time = if a.table.is_started then Some (replied_after s a.line) else None;
    }
