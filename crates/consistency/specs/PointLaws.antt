-- The laws of points. Each is the contract of a public function.
use Rattle.std.specs.Prelude.{◌≡◌, ◌⊎◌, ℕ, ◌+◌, ◌<◌, ◌≤◌, max, List, [], ◌∷◌, ◌++◌, length, count_by, take, fold, Bool, true, false, not, Option, Some, None, is_none, is_ok, IfSome, IsTrue}
use Rattle.std.specs.List.{All, list_all, range_with_len}
use Rattle.crash_plant.specs.Calls.{Elapses, SameSite}
use Rattle.crash_plant.specs.Choices.{AtMoment, Choice, IsChoice}
use Rattle.crash_plant.specs.Moments.{PlantState}
use Rattle.pair_table.specs.declared.level.Level.{Level}
use Rattle.pair_table.specs.declared.row.PairRow.{PairRow}
use Rattle.pair_table.specs.declared.row.PairState.TheVariants.{Suspended}
use Rattle.pair_table.specs.declared.row.SuspendCause.{SuspendCause}
use Rattle.pair_table.specs.declared.row.SuspendCause.TheVariants.{Device as ByDevice}
use Rattle.pair_table.specs.declared.command.Command.TheVariants.{Start}
use Rattle.pair_table.specs.Refusals.{row_of_primary}
use Rattle.pair_table.specs.Rows.{is_suspended}
use Rattle.pair_table.specs.Tables.{none_clash}
use Rattle.row_changes.specs.Changes.{Timed, since}
use Rattle.row_changes.specs.Changes.Due.{NoneDue}
use Rattle.row_changes.specs.Spans.{AreCounted, Toward, hit_count}
use Rattle.site_means.specs.Images.{shape_of}
use Rattle.tod_stamp.specs.declared.stamp.Stamp.{Stamp}
use Rattle.xrc_command.specs.declared.line.Line.{Line}
use Rattle.consistency.specs.Stages.{IsTime, ScriptRun, Stage, accepts, accepts_end, breaks_of, names_of, tracks_of_row}
use Rattle.consistency.specs.Courses.{Answered, IsAnswered, IsCourse, stage_after, stage_at}
use Rattle.consistency.specs.Replies.{IsReply}
use Rattle.consistency.specs.Steps.{IsLineStep, is_active, table_after_line, table_on_the_way}
use Rattle.consistency.specs.Answering.{answered_by, points_before, reply_content}
use Rattle.consistency.specs.Bearing.{Bears, GoesThroughPoints, MayBeMeant, ShowsPoint}
use Rattle.consistency.specs.Pauses.{HasPassed}
use Rattle.consistency.specs.Leads.{HitsLead, Leads, LeadsWhole, Point, may_rest}
use Rattle.pair_table.specs.States.{is_by_device}
use Rattle.consistency.specs.Owing.{HasBeenDuplex, is_changed, owes_track, tracks_asked, tracks_owed, was_duplex}
use Rattle.passages.specs.Points.{AreLinked, Throughout, last_point}
use Rattle.consistency.specs.UnhitStages.{unhit_stage_at}
use Rattle.consistency.specs.Ways.{ComesBy, ComesNext, HasCountedHits, IsCommanding, IsEnding, IsLegOf, IsMarking, Leg, PassedPoint, Way, hits_of_leg, is_on_the_way, leg_after, leg_at, leg_by, leg_to, table_at, stage_point}
use Rattle.consistency.specs.Ways.Way.{Commanded, Ending, MarkedFor}

-- ---- changes

-- Changes that lead from a point to a second one, and from there to a third, lead from the first to the third in a row.
abbrev pub LeadsGoOn : Type 0
LeadsGoOn = (level : Level) (breaks : List (Option ℕ)) (p q r : Point) (xs ys : List Timed) → Leads level breaks p q xs → Leads level breaks q r ys → Leads level breaks p r (xs ++ ys)

-- No change leads whole from a point to itself.
abbrev pub LeadsToItself : Type 0
LeadsToItself = (level : Level) (breaks : List (Option ℕ)) (p : Point) → LeadsWhole level breaks p p []

-- Rows are on their way at a point to which changes lead whole, where nothing was due at first.
abbrev pub LeadsAreToward : Type 0
LeadsAreToward = (level : Level) (breaks : List (Option ℕ)) (may_be_due : Bool) (p q : Point) (changes : List Timed) → p.due ≡ NoneDue → IsTrue (may_rest may_be_due q) → LeadsWhole level breaks p q changes
    → Toward level breaks may_be_due p.time q.time p.rows changes

-- Hits at a point's own time leave whole what led to it.
abbrev pub HitsStayWhole : Type 0
HitsStayWhole = (level : Level) (breaks : List (Option ℕ)) (p q r : Point) (xs hits : List Timed) → LeadsWhole level breaks p q xs → HitsLead level breaks q r hits → LeadsWhole level breaks p r (xs ++ hits)

-- ---- points in a row

-- What is passed up to a moment, with nothing on its way, and what is passed from it on, is passed in a row.
abbrev pub PointsGoInARow : PlantState → Type 0
PointsGoInARow plant = (run : ScriptRun) (from mid to : ℕ) (p : Point) (xs ys : List PassedPoint) (next : Option Point) → GoesThroughPoints run plant from p xs mid None → GoesThroughPoints run plant mid (last_point p xs) ys to next
    → GoesThroughPoints run plant from p (xs ++ ys) to next

-- What was passed stays passed while a plant keeps its past.
abbrev pub PointsStayPassed : PlantState → PlantState → Type 0
PointsStayPassed old new = SameSite old new → Elapses old new → 0 < old.clock → (run : ScriptRun) (from to : ℕ) (p : Point) (points : List PassedPoint) (next : Option Point) → to ≤ old.clock
    → GoesThroughPoints run old from p points to next → GoesThroughPoints run new from p points to next

-- Each choice of each moment shows the last of the points up to some place: of the deeds that they are, some first ones are done.
abbrev pub PointsAreSeen : PlantState → Type 0
PointsAreSeen plant = (run : ScriptRun) (from to : ℕ) (p : Point) (points : List PassedPoint) → GoesThroughPoints run plant from p points to None
    → Throughout (IsChoice plant) from to (λ c. (n : ℕ) × (n ≤ length points) × ShowsPoint run (shape_of plant) (last_point p (take n points)) c)

-- Where each point may be meant, each choice of each moment bears a time.
abbrev pub PointsBearThroughout : PlantState → Type 0
PointsBearThroughout plant = (run : ScriptRun) (s : Stage) (from to : ℕ) (p : Point) (points : List PassedPoint) (next : Option Point) → MayBeMeant run s p → All (λ n. MayBeMeant run s n.point) points → IfSome next (MayBeMeant run s)
    → GoesThroughPoints run plant from p points to next → Throughout (IsChoice plant) from to (λ c. (time : ℕ) × Bears run s (shape_of plant) c time)

-- ---- legs

-- A leg begins at the point of a stage of a started session.
abbrev pub LegsBegin : Type 0
LegsBegin = (run : ScriptRun) (s : Stage) (answered : ℕ) → s.table ≡ table_at run (stage_point s) → IsLegOf run s (leg_at s answered)

-- It goes on over points on the way, each led to from the one before.
abbrev pub LegsGoOn : Type 0
LegsGoOn = (run : ScriptRun) (s : Stage) (asked : ℕ → Option Line) (l : Leg) (points : List PassedPoint) → IsLegOf run s l → IsTrue (list_all is_on_the_way points) → AreLinked (ComesNext run asked) leg_after l points
    → IsLegOf run s (fold leg_after l points)

-- A leg stays one after hits at its point's time, and after a mark that a command's record needs first.
abbrev pub LegsAreHit : Type 0
LegsAreHit = (run : ScriptRun) (s : Stage) (l : Leg) (q : Point) (hits : List Timed) → IsLegOf run s l → HitsLead run.level (breaks_of run) l.point q hits → IsLegOf run s (leg_to l q hits)

abbrev pub LegsAreMarked : Type 0
LegsAreMarked = (run : ScriptRun) (s : Stage) (l : Leg) (q : Point) (number : ℕ) (hits : List Timed) → IsLegOf run s l → IsLegOf run s (leg_by l q (MarkedFor number hits))

-- Times don't fall from point to point, whatever leads to them.
abbrev pub PointsRise : Type 0
PointsRise = (run : ScriptRun) (asked : ℕ → Option Line) (l : Leg) (points : List PassedPoint) → AreLinked (ComesNext run asked) leg_after l points → All (λ n. l.point.time ≤ n.point.time) points

-- The point of a leg may be meant, where its time may be, what is due may be, and each device is hit at most as often as it failed.
abbrev pub LegsMayBeMeant : Type 0
LegsMayBeMeant = (run : ScriptRun) (s : Stage) (l : Leg) → s.table.is_ended ≡ false → IsLegOf run s l → IsTime s l.point.time → AreCounted run.rises (s.past ++ l.changes) → IsTrue (may_rest (not (is_none s.next)) l.point)
    → MayBeMeant run s l.point

-- So may each point on the way to the time of the next line.
abbrev pub WaysMayBeMeant : Type 0
WaysMayBeMeant = (run : ScriptRun) (s : Stage) (asked : ℕ → Option Line) (line : Line) (l : Leg) (points : List PassedPoint) → s.table.is_ended ≡ false → s.next ≡ Some line → IsLegOf run s l
    → IsTrue (list_all is_on_the_way points) → AreLinked (ComesNext run asked) leg_after l points → All (λ n. (n.point.time ≤ line.time.0) × IsTrue (may_rest true n.point)) points
    → All (λ n. MayBeMeant run s n.point) points

-- So may the point of a mark that the record of the next line's command needs first.
abbrev pub MarksMayBeMeant : Type 0
MarksMayBeMeant = (run : ScriptRun) (s : Stage) (l : Leg) (q : Point) (hits : List Timed) → s.table.is_ended ≡ false → IsLegOf run s l → IsMarking run s.next l q hits → AreCounted run.rises (s.past ++ l.changes ++ hits) → MayBeMeant run s q

-- After such a mark comes the command for which it was made, and nothing else.
abbrev pub MarksAreCommanded : Type 0
MarksAreCommanded = (run : ScriptRun) (asked : ℕ → Option Line) (l : Leg) (n m : PassedPoint) (line : ℕ) (hits : List Timed) → n.way ≡ MarkedFor line hits → ComesNext run asked l n → ComesNext run asked (leg_after l n) m
    → (more : List Timed) × (m.way ≡ Commanded line more)

-- After such a mark and the command each row whose device the mark hit stands as the hit left it, suspended by its device.
abbrev pub MarkedRowsStand : Type 0
MarkedRowsStand = (run : ScriptRun) (asked : Option Line) (l : Leg) (q : Point) (hits : List Timed) → l.point.is_ended ≡ false → IsCommanding run asked l q hits
    → All (λ r. 0 < hit_count r.device l.marked → r.state ≡ since ByDevice l.point.time) q.rows

-- After the command of an end that is accepted comes its ending point, and nothing else.
abbrev pub EndsAreEnded : Type 0
EndsAreEnded = (run : ScriptRun) (asked : ℕ → Option Line) (l : Leg) (n m : PassedPoint) (line : ℕ) (hits : List Timed) → n.way ≡ Commanded line hits → ComesNext run asked l n → IsTrue (accepts_end run (table_at run n.point) (asked line))
    → ComesNext run asked (leg_after l n) m → (more : List Timed) × (m.way ≡ Ending line more)

-- No ending point comes but after its line's command.
abbrev pub EndsAreCommanded : Type 0
EndsAreCommanded = (run : ScriptRun) (asked : ℕ → Option Line) (l : Leg) (n m : PassedPoint) (line : ℕ) (more : List Timed) → ComesNext run asked l n → m.way ≡ Ending line more → ComesNext run asked (leg_after l n) m
    → (hits : List Timed) × (n.way ≡ Commanded line hits)

-- Nothing changes once the session has ended: each point after that is the one at which it ended.
abbrev pub EndedPointsStay : Type 0
EndedPointsStay = (run : ScriptRun) (asked : ℕ → Option Line) (l : Leg) (points : List PassedPoint) → l.point.is_ended ≡ true → AreLinked (ComesNext run asked) leg_after l points → All (λ n. n.point ≡ l.point) points

-- ---- hits are counted

-- A device's hits up to a leg don't become fewer by the next point.
abbrev pub HitsStayCounted : Type 0
HitsStayCounted = (run : ScriptRun) (asked : ℕ → Option Line) (l : Leg) (q : Point) (way : Way) (device : ℕ) → ComesBy run asked l q way → hits_of_leg l device ≤ hits_of_leg (leg_by l q way) device

-- The hits of a mark that a command's record needs first are counted, also if the command takes away the row. Those that stand after the
-- command again are counted once.
abbrev pub MarkedHitsAreCounted : Type 0
MarkedHitsAreCounted = (run : ScriptRun) (asked : ℕ → Option Line) (l : Leg) (p q : Point) (number : ℕ) (hits more : List Timed) (device : ℕ) → ComesBy run asked l p (MarkedFor number hits)
    → hits_of_leg (leg_by (leg_by l p (MarkedFor number hits)) q (Commanded number more)) device ≡ hits_of_leg l device + max (hit_count device hits) (hit_count device more)

-- So a leg of which each hit is counted has no more hits of a device than it failed, and neither has a command or an end after it.
abbrev pub LegsAreCounted : Type 0
LegsAreCounted = (run : ScriptRun) (s : Stage) (l : Leg) → IsLegOf run s l → HasCountedHits run l → AreCounted run.rises (s.past ++ l.changes)

abbrev pub CommandsAreCounted : Type 0
CommandsAreCounted = (run : ScriptRun) (s : Stage) (l : Leg) (q : Point) (number : ℕ) (hits : List Timed) → IsLegOf run s l → HasCountedHits run (leg_by l q (Commanded number hits)) → AreCounted run.rises (s.past ++ l.changes ++ hits)

abbrev pub EndingsAreCounted : Type 0
EndingsAreCounted = (run : ScriptRun) (s : Stage) (l : Leg) (q r : Point) (number : ℕ) (hits more : List Timed) → IsLegOf run s l → HasCountedHits run (leg_by (leg_by l q (Commanded number hits)) r (Ending number more))
    → AreCounted run.rises (s.past ++ l.changes ++ (hits ++ more))

abbrev pub MarksAreCounted : Type 0
MarksAreCounted = (run : ScriptRun) (s : Stage) (l : Leg) (q : Point) (number : ℕ) (hits : List Timed) → IsLegOf run s l → HasCountedHits run (leg_by l q (MarkedFor number hits)) → AreCounted run.rises (s.past ++ l.changes ++ hits)

-- ---- lines

-- The point of the next line's command may be meant.
abbrev pub CommandsMayBeMeant : Type 0
CommandsMayBeMeant = (run : ScriptRun) (s : Stage) (l : Leg) (q : Point) (hits : List Timed) → s.table.is_ended ≡ false → IsLegOf run s l → IsCommanding run s.next l q hits → AreCounted run.rises (s.past ++ l.changes ++ hits) → MayBeMeant run s q

-- The line is a step from its stage, to the rows of that point.
abbrev pub CommandsAreSteps : Type 0
CommandsAreSteps = (run : ScriptRun) (s : Stage) (l : Leg) (q : Point) (hits : List Timed) → s.table.is_ended ≡ false → IsLegOf run s l → (c : IsCommanding run s.next l q hits)
    → let new = table_after_line run.level (breaks_of run) (names_of run) s.table c.line l.changes hits in
    IsLineStep run.level (breaks_of run) (names_of run) s.replied s.table c.line l.changes hits new × (q.rows ≡ new.rows)

-- The end after that point may be meant.
abbrev pub EndingsMayBeMeant : Type 0
EndingsMayBeMeant = (run : ScriptRun) (s : Stage) (l : Leg) (q r : Point) (hits more : List Timed) → s.table.is_ended ≡ false → IsLegOf run s l → IsCommanding run s.next l q hits → IsEnding run s.next q r more
    → AreCounted run.rises (s.past ++ l.changes ++ (hits ++ more)) → MayBeMeant run s r

-- Once the session has ended its one point may be meant, whatever is heard.
abbrev pub EndedMayBeMeant : Type 0
EndedMayBeMeant = (run : ScriptRun) (s : Stage) → s.table.is_ended ≡ true → MayBeMeant run s (stage_point s)

-- The point of a stage may be meant at it, until a line is heard.
abbrev pub StagesMayBeMeant : Type 0
StagesMayBeMeant = (run : ScriptRun) (s : Stage) → s.next ≡ None → AreCounted run.rises s.past → MayBeMeant run s (stage_point s)

-- A line's command is answered so: its step, with what its reply says.
abbrev pub CommandsAreAnswered : Type 0
CommandsAreAnswered = (run : ScriptRun) (s : Stage) (l : Leg) (q : Point) (hits : List Timed) (text reply : List ℕ) → s.table.is_ended ≡ false → IsLegOf run s l → (c : IsCommanding run s.next l q hits)
    → AreCounted run.rises (s.past ++ l.changes ++ hits) → IsReply (accepts run (table_at run l.point) c.line) c.line reply → IsAnswered run s (answered_by run s text reply c.line l.changes hits)

-- So is any line before the session's start and after its end, by its command alone.
abbrev pub InactiveAreAnswered : Type 0
InactiveAreAnswered = (run : ScriptRun) (s : Stage) (text reply : List ℕ) (line : Line) → is_active s.table ≡ false → AreCounted run.rises s.past
    → ((level : Level) → line.command ≡ Start level → IsTrue (accepts run s.table line) → level ≡ run.level) → IsReply (accepts run s.table line) line reply → IsAnswered run s (answered_by run s text reply line [] [])

-- The next leg begins at the point of the command, at the stage after the line, where the line isn't an end that is accepted.
abbrev pub LegsBeginAfterCommands : Type 0
LegsBeginAfterCommands = (run : ScriptRun) (s : Stage) (l : Leg) (q : Point) (hits : List Timed) (text reply : List ℕ) (number : ℕ) → s.table.is_ended ≡ false → IsLegOf run s l → (c : IsCommanding run s.next l q hits) → accepts_end run (table_at run l.point) s.next ≡ false
    → IsLegOf run (stage_after s (answered_by run s text reply c.line l.changes hits)) (leg_by l q (Commanded number hits))

-- After an accepted end it begins at the ending point.
abbrev pub LegsBeginAfterEnds : Type 0
LegsBeginAfterEnds = (run : ScriptRun) (s : Stage) (l : Leg) (q r : Point) (hits more : List Timed) (text reply : List ℕ) (number : ℕ) → s.table.is_ended ≡ false → IsLegOf run s l → (c : IsCommanding run s.next l q hits) → IsEnding run s.next q r more
    → IsLegOf run (stage_after s (answered_by run s text reply c.line l.changes (hits ++ more))) (leg_by (leg_by l q (Commanded number hits)) r (Ending number more))

-- Where no volume fails, the table after each line of a course, and the time of its reply, are what its lines ask for.
abbrev pub UnhitCoursesAreFunctions : Type 0
UnhitCoursesAreFunctions = (run : ScriptRun) (lines : List Answered) → IsCourse run lines → ((device : ℕ) → run.rises device ≡ 0) → ((n : ℕ) → IsTrue (none_clash (stage_at run lines n).table.rows)) → (n : ℕ) → n ≤ length lines
    → ((stage_at run lines n).table ≡ (unhit_stage_at run lines n).table) × ((stage_at run lines n).replied ≡ (unhit_stage_at run lines n).replied)

-- A reply says OK exactly where the command table accepts the command.
abbrev pub RepliesSayAccepted : Type 0
RepliesSayAccepted = (run : ScriptRun) (s : Stage) (first : Point) (points : List PassedPoint) (number : ℕ) (text reply : List ℕ) (line : Line) (changes hits : List Timed)
    → is_ok (reply_content run s first points number (answered_by run s text reply line changes hits)).answer ≡ accepts run (table_on_the_way run.level changes s.table) line

-- A reply speaks of the points before the command of its line, or before the mark that the command's record needed first.
abbrev pub RepliesSayBefore : Type 0
RepliesSayBefore = (run : ScriptRun) (s : Stage) (first : Point) (xs ys : List PassedPoint) (n : PassedPoint) (number : ℕ) (hits : List Timed) (a : Answered) → (n.way ≡ Commanded number hits) ⊎ (n.way ≡ MarkedFor number hits)
    → reply_content run s first (xs ++ n ∷ ys) number a ≡ reply_content run s first xs number a

-- ---- owed tracks

-- A way of a run's devices over points from a first one, which each choice shows at its beginning. At each moment there is a choice.
pub record IsWalked (run : ScriptRun) (plant : PlantState) (from to : ℕ) (first : Point) (points : List PassedPoint) : Type 0 where
  pub begins : AtMoment (ShowsPoint run (shape_of plant) first) plant from
  pub goes : GoesThroughPoints run plant from first points to None
  pub some : (t : ℕ) → from ≤ t → t ≤ to → (c : Choice) × IsChoice plant t c

-- The test over points tells what moments say: at one of them every choice had the pair duplex, and since then every choice had it duplex
-- or as it is now.
abbrev pub DuplexIsByMoments : PlantState → Type 0
DuplexIsByMoments plant = (run : ScriptRun) (row : PairRow) (from to : ℕ) (first : Point) (points : List PassedPoint) → IsWalked run plant from to first points
    → (IsTrue (was_duplex row first points) → HasBeenDuplex row plant from to) × (HasBeenDuplex row plant from to → IsTrue (was_duplex row first points))

-- The points that a reply speaks of are such a way, up to some moment. So its tracks are those that the moments say.
abbrev pub ToldPointsAreWalked : PlantState → Type 0
ToldPointsAreWalked plant = (run : ScriptRun) (asked : ℕ → Option Line) (first : Leg) (points : List PassedPoint) (number by : ℕ) (passed : HasPassed run asked first points plant by)
    → ((t : ℕ) → passed.from ≤ t → t ≤ by → (c : Choice) × IsChoice plant t c) → (to : ℕ) × (to ≤ by) × IsWalked run plant passed.from to first.point (points_before number points)

-- A suspended row whose own device hasn't failed owes exactly the tracks written since, where it has been duplex so. Else it owes all.
abbrev pub SuspendedOweChanges : PlantState → Type 0
SuspendedOweChanges plant = (run : ScriptRun) (row : PairRow) (cause : SuspendCause) (since : Stamp) (from to : ℕ) (first : Point) (points : List PassedPoint) (time track : ℕ) → IsWalked run plant from to first points → row.state ≡ Suspended cause since
    → (is_by_device cause ≡ false → HasBeenDuplex row plant from to → owes_track run first points row time track ≡ is_changed run row.control row.volume since.0 time track)
    × ((is_by_device cause ≡ true) ⊎ ¬ HasBeenDuplex row plant from to → IsTrue (owes_track run first points row time track))

-- A row that isn't suspended owes all its tracks.
abbrev pub OthersOweAll : Type 0
OthersOweAll = (run : ScriptRun) (row : PairRow) (first : Point) (points : List PassedPoint) (time : ℕ) → is_suspended row.state ≡ false → tracks_owed run first points row time ≡ tracks_of_row row

-- A row that wasn't duplex before it was suspended owes all its tracks, also where the session suspended it.
abbrev pub NeverDuplexOweAll : Type 0
NeverDuplexOweAll = (run : ScriptRun) (row : PairRow) (first : Point) (points : List PassedPoint) (time : ℕ) → was_duplex row first points ≡ false → tracks_owed run first points row time ≡ tracks_of_row row

-- A suspended pair that was duplex, and that its own device didn't suspend, asks for exactly the tracks written since when it is added
-- again.
abbrev pub ResumedPairsAskForChanges : Type 0
ResumedPairsAskForChanges = (run : ScriptRun) (row : PairRow) (cause : SuspendCause) (since : Stamp) (first : Point) (points : List PassedPoint) (rows : List PairRow) (primary : List ℕ) (time : ℕ)
    → row_of_primary primary rows ≡ Some row → row.state ≡ Suspended cause since → is_by_device cause ≡ false → was_duplex row first points ≡ true
    → tracks_asked run first points rows primary time ≡ count_by (is_changed run row.control row.volume since.0 time) (range_with_len 0 (tracks_of_row row))
