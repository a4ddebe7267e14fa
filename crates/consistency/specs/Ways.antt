-- How a session comes from point to point: on the way to a line's time, by a line's command, and by the mark that ends it.
use Rattle.std.specs.Prelude.{◌≡◌, ℕ, zero, suc, ◌≤◌, ◌+◌, max, ◌==◌, ◌&&◌, ◌++◌, not, List, [], Bool, true, false, Option, Some, None, IfSome, nat_le, IsTrue}
use Rattle.std.specs.List.{list_all}
use Rattle.pair_table.specs.declared.row.PairRow.{PairRow}
use Rattle.pair_table.specs.Tables.{Table}
use Rattle.row_changes.specs.Changes.{Timed}
use Rattle.row_changes.specs.Changes.Due.{NoneDue}
use Rattle.row_changes.specs.Spans.{all_broke, hit_count, is_break}
use Rattle.pair_table.specs.States.{is_settled}
use Rattle.xrc_command.specs.declared.line.Line.{Line}
use Rattle.consistency.specs.Stages.{ScriptRun, Stage, accepts_end, breaks_of, names_of}
use Rattle.consistency.specs.Steps.{commanded}
use Rattle.consistency.specs.Leads.{HitsLead, Leads, LeadsWhole, MarkedHitsLead, Point}
use Rattle.passages.specs.Points.{Passed}

-- The way from a point to the next one, by one record or one mark. Lines have numbers, counted from 0.
--   OnTheWay: changes of rows, on the way to the next line's time. A group with no change of rows has none, and so has a mark.
--   MarkedFor: a mark that the record of a line's command needs first, with hits in it. Its rows are those before the command. Without a hit
--     such a mark is on the way.
--   Commanded: the command of a line, and hits after it. After such a mark its hits stand there too. A command that changes nothing needs
--     no record.
--   Ending: the mark that ends the session after the command of its line, with hits in it.
pub data Way : Type 0 where
  OnTheWay : (changes : List Timed) → Way
  MarkedFor : (line : ℕ) → (hits : List Timed) → Way
  Commanded : (line : ℕ) → (hits : List Timed) → Way
  Ending : (line : ℕ) → (hits : List Timed) → Way

abbrev pub is_way_on : Way → Bool
is_way_on (OnTheWay changes) = true
is_way_on (MarkedFor line hits) = false
is_way_on (Commanded line hits) = false
is_way_on (Ending line hits) = false

abbrev pub PassedPoint : Type 0
PassedPoint = Passed Point Way

-- whether a point is on the way to the next line's time
abbrev pub is_on_the_way : PassedPoint → Bool
is_on_the_way n = is_way_on n.way

-- How far a session has come: the point that its next one comes from, the time of the last reply, all changes of rows since then, the hits
-- of a mark that the next command needs, the number of lines answered, and how often each device was hit before that reply. A line counts
-- as answered from its command on. So an ending is that of the line answered last.
pub record Leg : Type 0 where
  pub point : Point
  pub replied : ℕ
  pub changes : List Timed
  pub marked : List Timed
  pub answered : ℕ
  pub hit_before : (device : ℕ) → ℕ

-- How often a device was hit up to hits after a command. A hit of the mark stands after the command again, and counts once. It counts also
-- if the command took the row away.
abbrev pub hits_through : Leg → (hits : List Timed) → (device : ℕ) → ℕ
hits_through l hits device = l.hit_before device + hit_count device l.changes + max (hit_count device l.marked) (hit_count device hits)

-- how often a device was hit
abbrev pub hits_of_leg : Leg → (device : ℕ) → ℕ
hits_of_leg l device = l.hit_before device + hit_count device l.changes + hit_count device l.marked

-- Each hit of a device needs a fault of its own, also where its row has gone since.
abbrev pub HasCountedHits : ScriptRun → Leg → Type 0
HasCountedHits run l = (device : ℕ) → hits_of_leg l device ≤ run.rises device

-- a leg that has come to another point, by these changes
abbrev pub leg_to : Leg → Point → List Timed → Leg
leg_to l q changes = record l { point = q; changes = l.changes ++ changes }

-- the leg that a point leaves to those after it
abbrev pub leg_by : Leg → Point → Way → Leg
leg_by l q (OnTheWay changes) = leg_to l q changes
leg_by l q (MarkedFor line hits) = record l { marked = hits }
leg_by l q (Commanded line hits) = record { point = q; replied = q.time; changes = []; marked = []; answered = suc l.answered; hit_before = hits_through l hits }
leg_by l q (Ending line hits) = record { point = q; replied = q.time; changes = []; marked = []; answered = l.answered; hit_before = hits_through l hits }

abbrev pub leg_after : Leg → PassedPoint → Leg
leg_after l n = leg_by l n.point n.way

-- ---- a command

-- the table of a started session at a point
abbrev pub table_at : ScriptRun → Point → Table
table_at run p = record { session = run.session; is_started = true; is_ended = p.is_ended; rows = p.rows }

-- the point with the rows after a line's command
abbrev pub commanded_point : ScriptRun → Line → Point → Point
commanded_point run line p = record p { rows = (commanded (breaks_of run) (names_of run) (table_at run p) line).rows }

-- A line's command may take effect at its time, where nothing is due, no controller with that break time has broken, and no row is pending or
-- copying.
pub record MayTakeEffect (run : ScriptRun) (line : Line) (l : Leg) : Type 0 where
  pub at : l.point.time ≡ line.time.0
  pub none_due : l.point.due ≡ NoneDue
  pub not_broken_yet : IsTrue (list_all (λ t. not (is_break t && t.time == line.time.0)) l.changes)
  pub settled : IsTrue (list_all (λ r. is_settled r.state) l.point.rows)

-- It takes effect. Hits may follow it.
pub record TakesEffect (run : ScriptRun) (line : Line) (l : Leg) (q : Point) (hits : List Timed) : Type 0 where
  pub may : MayTakeEffect run line l
  pub leads : HitsLead run.level (breaks_of run) (commanded_point run line l.point) q hits

-- whether each device with a row is hit by these hits as often at least as in a mark
abbrev pub hits_stand : (marked hits : List Timed) → List PairRow → Bool
hits_stand marked hits rows = list_all (λ r. nat_le (hit_count r.device marked) (hit_count r.device hits)) rows

-- The next point is that of a line's command. The hits of a mark that was made for it stand after the command, but for those whose rows the
-- command took away. A command that leaves the rows as they are writes no record, so no hit stands after it. Once the session has ended a line
-- changes nothing, and the time stands still.
pub record IsCommanding (run : ScriptRun) (asked : Option Line) (l : Leg) (q : Point) (hits : List Timed) : Type 0 where
  pub line : Line
  pub heard : asked ≡ Some line
  pub stand : IsTrue (hits_stand l.marked hits q.rows)
  pub recorded : l.point.is_ended ≡ false → (commanded_point run line l.point).rows ≡ l.point.rows → hits ≡ []
  pub active : l.point.is_ended ≡ false → TakesEffect run line l q hits
  pub ended : l.point.is_ended ≡ true → (q ≡ l.point) × (hits ≡ [])

-- ---- the end

-- the point at which the session goes on still
abbrev pub going_on : Point → Point
going_on q = record q { is_ended = false }

-- The next point is the end of the session, by a line at its time that ends it and is accepted.
pub record IsEnding (run : ScriptRun) (asked : Option Line) (p q : Point) (hits : List Timed) : Type 0 where
  pub accepted : IsTrue (accepts_end run (table_at run p) asked)
  pub at : IfSome asked (λ line. p.time ≡ line.time.0)
  pub ended : q.is_ended ≡ true
  pub leads : HitsLead run.level (breaks_of run) p (going_on q) hits

-- ---- a mark that a command's record needs

-- The next point is that of a mark which the record of a line's command needs first. The command alters rows, and may take effect there.
pub record IsMarking (run : ScriptRun) (asked : Option Line) (l : Leg) (q : Point) (hits : List Timed) : Type 0 where
  pub line : Line
  pub heard : asked ≡ Some line
  pub may : MayTakeEffect run line l
  pub alters : ¬ ((commanded_point run line l.point).rows ≡ l.point.rows)
  pub some : ¬ (hits ≡ [])
  pub leads : MarkedHitsLead run.level (breaks_of run) l.point q hits

-- ---- from point to point

-- whether all changes come at a time, as those of one record or one mark do: at the record's cut, or at the time of the mark
abbrev pub are_at_time : (time : ℕ) → List Timed → Bool
are_at_time time changes = list_all (λ t. t.time == time) changes

-- The next point is on the way: changes lead to it at its own time, and each break that came due since the last reply has come. So a hit has
-- the time that is meant with it, and so has a break.
pub record IsOnTheWay (run : ScriptRun) (l : Leg) (q : Point) (changes : List Timed) : Type 0 where
  pub leads : Leads run.level (breaks_of run) l.point q changes
  pub together : IsTrue (are_at_time q.time changes)
  pub broken : IsTrue (all_broke l.replied q.time 0 (breaks_of run) (l.changes ++ changes))

-- the line answered last, if one was
abbrev pub last_answered : (asked : ℕ → Option Line) → (answered : ℕ) → Option Line
last_answered asked zero = None
last_answered asked (suc n) = asked n

-- whether an accepted end was the last line, and the mark that ends the session hasn't come
abbrev pub is_ending : ScriptRun → (asked : ℕ → Option Line) → Leg → Bool
is_ending run asked l = accepts_end run (table_at run l.point) (last_answered asked l.answered)

-- The session works for its next line: it neither has ended nor is to end next, and no mark was made for the line's command.
pub record IsAtWork (run : ScriptRun) (asked : ℕ → Option Line) (l : Leg) : Type 0 where
  pub goes_on : l.point.is_ended ≡ false
  pub not_ending : is_ending run asked l ≡ false
  pub none_marked : l.marked ≡ []

-- It ends, after the command of the line answered last and nothing else.
pub record IsToEnd (line : ℕ) (l : Leg) : Type 0 where
  pub last : l.answered ≡ suc line
  pub unchanged : l.changes ≡ []
  pub none_marked : l.marked ≡ []

-- The next point comes by a way. `asked` is the line with a number, where it was heard whole.
abbrev pub ComesBy : ScriptRun → (asked : ℕ → Option Line) → Leg → Point → Way → Type 0
ComesBy run asked l q (OnTheWay changes) = IsAtWork run asked l × IsOnTheWay run l q changes
ComesBy run asked l q (MarkedFor line hits) = (line ≡ l.answered) × IsAtWork run asked l × IsMarking run (asked line) l q hits
ComesBy run asked l q (Commanded line hits) = (line ≡ l.answered) × (is_ending run asked l ≡ false) × IsCommanding run (asked line) l q hits
ComesBy run asked l q (Ending line hits) = IsToEnd line l × IsEnding run (asked line) l.point q hits

-- A point comes next by its way, and each device was hit at most as often as it failed.
abbrev pub ComesNext : ScriptRun → (asked : ℕ → Option Line) → Leg → PassedPoint → Type 0
ComesNext run asked l n = ComesBy run asked l n.point n.way × HasCountedHits run (leg_after l n)

-- ---- legs and stages

-- the point of a stage, where its last reply has just been said whole
abbrev pub stage_point : Stage → Point
stage_point s = record { time = s.replied; rows = s.table.rows; due = NoneDue; is_ended = s.table.is_ended }

-- A leg that has begun at a stage of a started session. Each hit of the lines before is counted.
pub record IsLegOf (run : ScriptRun) (s : Stage) (l : Leg) : Type 0 where
  pub table : s.table ≡ table_at run (stage_point s)
  pub replied : l.replied ≡ s.replied
  pub whole : LeadsWhole run.level (breaks_of run) (stage_point s) l.point l.changes
  pub counted : (device : ℕ) → hit_count device s.past ≤ l.hit_before device

-- the leg that begins at a stage after so many lines
abbrev pub leg_at : Stage → (answered : ℕ) → Leg
leg_at s answered = record { point = stage_point s; replied = s.replied; changes = []; marked = []; answered = answered; hit_before = λ device. hit_count device s.past }
