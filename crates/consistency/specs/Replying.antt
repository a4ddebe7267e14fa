-- The exact reply to a line: the report before it, where the line is a query that is accepted, and the reply's own line.
use Rattle.std.specs.Prelude.{◌≡◌, ℕ, ◌<◌, ◌^◌, ◌&&◌, ◌++◌, List, [], ◌∷◌, map, Bool, true, false, Option, Some, None, Result, Ok, Err, if◌then◌else◌, IfSome, IsTrue}
use Rattle.std.specs.List.{list_all}
use Rattle.std.specs.Option.{option_map}
use Rattle.tod_stamp.specs.Names.{is_serial, is_session}
use Rattle.sidefile.specs.Breaks.{cause_at, stamp}
use Rattle.pair_table.specs.declared.command.Command.{Command}
use Rattle.pair_table.specs.declared.command.Command.TheVariants.{Start, AddPair, DelPair, Suspend, Query, End}
use Rattle.pair_table.specs.declared.command.Change.{Change}
use Rattle.pair_table.specs.declared.command.Refusal.{Refusal}
use Rattle.pair_table.specs.declared.command.Refusal.TheVariants.{NoSession, SessionExists, NoPrimary, NoSecondary, SecondaryInUse, AlreadyPaired, TooSmall, OtherSecondary, NotPaired, Ended, ControlBroken}
use Rattle.pair_table.specs.declared.row.PairRow.{PairRow}
use Rattle.pair_table.specs.Tables.{Table}
use Rattle.xquery_report.specs.Replies.{command_word, reply_line}
use Rattle.xquery_report.specs.Reports.{report_text}
use Rattle.xrc_command.specs.declared.line.Line.{Line}
use Rattle.consistency.specs.Stages.{ScriptRun, Stage, accepts, names_of}
use Rattle.consistency.specs.Courses.{Answered, replied_after}
use Rattle.consistency.specs.Steps.{table_on_the_way}
use Rattle.consistency.specs.Answering.{ReplyContent, reply_content}
use Rattle.consistency.specs.Leads.{Point}
use Rattle.consistency.specs.Ways.{PassedPoint}

-- ---- the text

abbrev pub is_query : Command → Bool
is_query Query = true
is_query (Start level) = false
is_query (AddPair primary secondary group) = false
is_query (DelPair choice) = false
is_query (Suspend choice) = false
is_query End = false

-- A query that is accepted is answered with a report.
abbrev pub is_reported : ScriptRun → Table → Line → Bool
is_reported run table line = is_query line.command && accepts run table line

-- the report of a table at a line's time, with the causes of the controllers that have broken by then; nothing before another line's reply
abbrev pub report_before : ScriptRun → Table → Line → List ℕ
report_before run table line = if is_reported run table line then report_text table run.level line.time.0 (map (cause_at line.time.0) run.traces) else []

-- the reply's own line
abbrev pub own_line : Line → ReplyContent → List ℕ
own_line line content = reply_line line.time.0 line.command content.answer content.tracks (option_map stamp content.time)

-- the reply to the line with a number at a stage, if the session has passed these points
abbrev pub reply_text : ScriptRun → Stage → (first : Point) → List PassedPoint → (number : ℕ) → Answered → List ℕ
reply_text run s first points number a =
    let content = reply_content run s first points number a in
    report_before run (table_on_the_way run.level a.changes s.table) a.line ++ own_line a.line content

-- What was said of a line is the reply, byte for byte.
abbrev pub IsExact : ScriptRun → Stage → (first : Point) → List PassedPoint → (number : ℕ) → Answered → Type 0
IsExact run s first points number a = a.reply ≡ reply_text run s first points number a

-- The times that a reply says, in order: that of the journal in its report, which is the line's, and the one after `T=`, once the session
-- has started.
abbrev pub times_replied : ScriptRun → Stage → Answered → List ℕ
times_replied run s a = (if is_reported run (table_on_the_way run.level a.changes s.table) a.line then a.line.time.0 ∷ [] else []) ++ (if a.table.is_started then replied_after s a.line ∷ [] else [])

-- ---- the names that a reply may show

-- whether a row's volumes have serials
abbrev pub has_row_serials : PairRow → Bool
has_row_serials r = is_serial r.primary && is_serial r.secondary

-- The session has a session's name, and the volumes of its rows have serials.
pub record HasNames (table : Table) : Type 0 where
  pub named : IsTrue (is_session table.session)
  pub serials : IsTrue (list_all has_row_serials table.rows)

-- What a run may speak of has names: its session, and the volumes and the labels that its commands may name.
pub record HasRunNames (run : ScriptRun) : Type 0 where
  pub named : IsTrue (is_session run.session)
  pub volumes : IsTrue (list_all (λ v. is_serial v.serial) (names_of run).primaries)
  pub labels : IsTrue (list_all (λ l. is_serial l.serial) run.labels)

-- ---- what can be read of a reply

-- why a line was refused, if it was
abbrev pub said_refusal : Result Change Refusal → Option Refusal
said_refusal (Ok change) = None
said_refusal (Err refusal) = Some refusal

-- the tracks that an accepted add has to copy
abbrev pub said_tracks : Command → Result Change Refusal → (tracks : ℕ) → Option ℕ
said_tracks (AddPair primary secondary group) (Ok change) tracks = Some tracks
said_tracks (AddPair primary secondary group) (Err refusal) tracks = None
said_tracks (Start level) answer tracks = None
said_tracks (DelPair choice) answer tracks = None
said_tracks (Suspend choice) answer tracks = None
said_tracks Query answer tracks = None
said_tracks End answer tracks = None

-- Two lines' replies say the same.
pub record SaysTheSame (a b : Line) (x y : ReplyContent) : Type 0 where
  pub time : a.time.0 ≡ b.time.0
  pub word : command_word a.command ≡ command_word b.command
  pub refusal : said_refusal x.answer ≡ said_refusal y.answer
  pub tracks : said_tracks a.command x.answer x.tracks ≡ said_tracks b.command y.answer y.tracks
  pub replied : x.time ≡ y.time

-- the number that a refusal says, of tracks or of a controller
abbrev pub said_number : Refusal → ℕ
said_number (TooSmall tracks) = tracks
said_number (ControlBroken control) = control
said_number NoSession = 0
said_number SessionExists = 0
said_number NoPrimary = 0
said_number NoSecondary = 0
said_number SecondaryInUse = 0
said_number AlreadyPaired = 0
said_number OtherSecondary = 0
said_number NotPaired = 0
said_number Ended = 0

-- The times and numbers of a reply lie below 2^64.
pub record HasShortNumbers (line : Line) (content : ReplyContent) : Type 0 where
  pub time : line.time.0 < 2 ^ 64
  pub tracks : IfSome (said_tracks line.command content.answer content.tracks) (λ n. n < 2 ^ 64)
  pub refusal : IfSome (said_refusal content.answer) (λ r. said_number r < 2 ^ 64)
  pub replied : IfSome content.time (λ t. t < 2 ^ 64)
