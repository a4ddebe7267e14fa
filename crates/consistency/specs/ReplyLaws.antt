-- The laws of exact replies, and of a run between its calls. Each is the contract of a public function.
use Rattle.std.specs.Prelude.{◌≡◌, ℕ, ◌<◌, ◌≤◌, ◌^◌, ◌++◌, List, [], ◌∷◌, length, map, Option, false, IfSome, IsTrue}
use Rattle.std.specs.List.{All}
use Rattle.crash_plant.specs.Calls.{Elapses, SameSite, Says, Silent, WorksOnConsole}
use Rattle.crash_plant.specs.Choices.{AtEveryMoment}
use Rattle.crash_plant.specs.Moments.{PlantState}
use Rattle.pair_table.specs.declared.command.Command.TheVariants.{Query, Start}
use Rattle.pair_table.specs.declared.level.Level.{Level}
use Rattle.row_changes.specs.Changes.{Timed}
use Rattle.row_changes.specs.Spans.{AreCounted}
use Rattle.sidefile.specs.Breaks.{cause_at}
use Rattle.xquery_report.specs.Reports.{report_text}
use Rattle.xrc_command.specs.declared.line.Line.{Line}
use Rattle.consistency.specs.Stages.{ScriptRun, Stage, accepts}
use Rattle.consistency.specs.Courses.{Answered, IsAnswered, IsCourse, replied_after, stage_at}
use Rattle.consistency.specs.Keeping.{stage_now}
use Rattle.consistency.specs.Moments.{AreUpTo, BearsThroughout}
use Rattle.consistency.specs.Replies.{IsReply}
use Rattle.consistency.specs.Steps.{is_active, table_on_the_way}
use Rattle.consistency.specs.Times.{times_said}
use Rattle.consistency.specs.Answering.{ReplyContent, answered_by, reply_content}
use Rattle.consistency.specs.Bearing.{GoesThroughPoints, MayBeMeant}
use Rattle.consistency.specs.Pauses.{MayReply, RunGoesOn, ShowsMeant}
use Rattle.consistency.specs.Leads.{Point}
use Rattle.consistency.specs.Replying.{HasNames, HasRunNames, HasShortNumbers, IsExact, SaysTheSame, own_line, report_before, times_replied}
use Rattle.consistency.specs.Ways.{IsCommanding, IsLegOf, Leg, PassedPoint}

-- Where a run speaks of names alone, each table of its course has names.
abbrev pub CoursesHaveNames : Type 0
CoursesHaveNames = (run : ScriptRun) (lines : List Answered) → HasRunNames run → IsCourse run lines → (n : ℕ) → n ≤ length lines → HasNames (stage_at run lines n).table

-- An exact reply is a reply to its line, also with a report before it: it tells whether the command table accepts the line.
abbrev pub ExactRepliesAreReplies : Type 0
ExactRepliesAreReplies = (run : ScriptRun) (s : Stage) (first : Point) (points : List PassedPoint) (number : ℕ) (a : Answered) → HasNames s.table → IsExact run s first points number a
    → IsReply (accepts run (table_on_the_way run.level a.changes s.table) a.line) a.line a.reply

-- It says the time of its report's journal and the one after `T=`, and no other.
abbrev pub ExactRepliesSayTimes : Type 0
ExactRepliesSayTimes = (run : ScriptRun) (s : Stage) (first : Point) (points : List PassedPoint) (number : ℕ) (a : Answered) → HasNames s.table → s.replied < 2 ^ 64 → a.line.time.0 < 2 ^ 64 → IsExact run s first points number a
    → times_said a.reply ≡ times_replied run s a

-- The reply to an accepted query begins with the report of the rows at the line's time.
abbrev pub ReportsComeFirst : Type 0
ReportsComeFirst = (run : ScriptRun) (s : Stage) (first : Point) (points : List PassedPoint) (number : ℕ) (a : Answered) → (let table = table_on_the_way run.level a.changes s.table in
    a.line.command ≡ Query → IsTrue (accepts run table a.line) → IsExact run s first points number a → (own : List ℕ) × (a.reply ≡ report_text table run.level a.line.time.0 (map (cause_at a.line.time.0) run.traces) ++ own))

-- It says no time after the one at which the session stands after the line.
abbrev pub ExactRepliesSayUpTo : Type 0
ExactRepliesSayUpTo = (run : ScriptRun) (s : Stage) (first : Point) (points : List PassedPoint) (number : ℕ) (a : Answered) → HasNames s.table → s.replied < 2 ^ 64 → a.line.time.0 < 2 ^ 64 → IsExact run s first points number a
    → AreUpTo (replied_after s a.line) (times_said a.reply)

-- Two replies' own lines are the same text only if they tell the same: the time of the line, the word of its command, whether and why it was
-- refused, the tracks of an added pair, and the time after `T=`.
abbrev pub ReplyLinesTellApart : Type 0
ReplyLinesTellApart = (a b : Line) (x y : ReplyContent) → HasShortNumbers a x → HasShortNumbers b y → own_line a x ≡ own_line b y → SaysTheSame a b x y

-- So do exact replies, of any lines of any runs, and the reports before them are the same text.
abbrev pub ExactRepliesTellApart : Type 0
ExactRepliesTellApart = (run other : ScriptRun) (s t : Stage) (first start : Point) (points passed : List PassedPoint) (number place : ℕ) (a b : Answered) → HasNames s.table → HasNames t.table
    → (let x = reply_content run s first points number a in
    let y = reply_content other t start passed place b in
    HasShortNumbers a.line x → HasShortNumbers b.line y → IsExact run s first points number a → IsExact other t start passed place b → a.reply ≡ b.reply
    → SaysTheSame a.line b.line x y × (report_before run (table_on_the_way run.level a.changes s.table) a.line ≡ report_before other (table_on_the_way other.level b.changes t.table) b.line))

-- A line's command is answered exactly: its step, with the one reply that is due.
abbrev pub CommandsAreAnsweredExactly : Type 0
CommandsAreAnsweredExactly = (run : ScriptRun) (s : Stage) (l : Leg) (q : Point) (hits : List Timed) (text reply : List ℕ) (first : Point) (points : List PassedPoint) (number : ℕ) → s.table.is_ended ≡ false → IsLegOf run s l
    → (c : IsCommanding run s.next l q hits) → AreCounted run.rises (s.past ++ l.changes ++ hits) → HasNames s.table
    → (let a = answered_by run s text reply c.line l.changes hits in IsExact run s first points number a → IsAnswered run s a)

-- So is any line before the session's start and after its end.
abbrev pub InactiveAreAnsweredExactly : Type 0
InactiveAreAnsweredExactly = (run : ScriptRun) (s : Stage) (text reply : List ℕ) (line : Line) (first : Point) (points : List PassedPoint) (number : ℕ) → is_active s.table ≡ false → AreCounted run.rises s.past
    → ((level : Level) → line.command ≡ Start level → IsTrue (accepts run s.table line) → level ≡ run.level) → HasNames s.table
    → (let a = answered_by run s text reply line [] [] in IsExact run s first points number a → IsAnswered run s a)

-- ---- between calls

-- A run that has made no call yet goes on with no line.
abbrev pub RunsBegin : PlantState → Type 0
RunsBegin plant = (run : ScriptRun) → RunGoesOn run [] [] plant plant

-- It goes on through calls that work on devices alone, where each choice of each of their moments shows a point that may be meant.
abbrev pub WorksGoOn : (first old new : PlantState) → Type 0
WorksGoOn first old new = (run : ScriptRun) (lines : List Answered) (text : List ℕ) → RunGoesOn run lines text first old → SameSite old new → Elapses old new → Silent old new
    → (let s = stage_now run first.script lines text in IsTrue s.table.is_started → AtEveryMoment (ShowsMeant run s new) old new) → RunGoesOn run lines text first new

-- So it does through calls that pass points, where each of these may be meant, and the one that is on its way.
abbrev pub PassagesGoOn : (first old new : PlantState) → Type 0
PassagesGoOn first old new = (run : ScriptRun) (lines : List Answered) (text : List ℕ) (p : Point) (points : List PassedPoint) (next : Option Point) → RunGoesOn run lines text first old
    → SameSite old new → Elapses old new → Silent old new
    → (let s = stage_now run first.script lines text in IsTrue s.table.is_started → GoesThroughPoints run new old.clock p points new.clock next × MayBeMeant run s p × All (λ n. MayBeMeant run s n.point) points × IfSome next (MayBeMeant run s))
    → RunGoesOn run lines text first new

-- It goes on with one line more answered, once the exact reply was said whole.
abbrev pub RepliesGoOn : (tells : Type 0) → (first old new : PlantState) → Type 0
RepliesGoOn tells first old new = (run : ScriptRun) (lines : List Answered) (from : Leg) (points : List PassedPoint) (a : Answered) → RunGoesOn run lines a.text first old
    → MayReply run (stage_now run first.script lines a.text) lines from points a old → WorksOnConsole tells old new → Says a.reply old new → new.said new.clock ≡ old.said old.clock ++ a.reply
    → RunGoesOn run (lines ++ a ∷ []) [] first new

-- Where a part of the reply was said each moment of the run still bears, on a plant that keeps its past.
abbrev pub RepliesFail : (tells : Type 0) → (first old new : PlantState) → Type 0
RepliesFail tells first old new = (run : ScriptRun) (lines : List Answered) (from : Leg) (points : List PassedPoint) (a : Answered) → RunGoesOn run lines a.text first old
    → MayReply run (stage_now run first.script lines a.text) lines from points a old → WorksOnConsole tells old new → Says a.reply old new → 0 < first.clock
    → BearsThroughout run (lines ++ a ∷ []) first new
