-- The work for a line's time: what it begins with, and its log with the deeds that are kept of it.
use Rattle.std.specs.Prelude.{◌≡◌, ◌⊎◌, ℕ, ◌<◌, ◌≤◌, List, take, fold, true, false, Option, Some, None, IfSome, IsTrue}
use Rattle.std.specs.List.{All, list_all, Contains}
use Rattle.crash_plant.specs.Choices.{AtNow, Choice, IsChoice}
use Rattle.crash_plant.specs.Moments.{PlantState}
use Rattle.pair_table.specs.declared.row.PairRow.{PairRow}
use Rattle.pair_table.specs.Tables.{are_below, none_clash}
use Rattle.group_state.specs.Groups.{Group}
use Rattle.group_state.specs.Runs.{Answer}
use Rattle.row_changes.specs.Changes.{break_time_of}
use Rattle.record_rows.specs.Deeds.{Deed, time_meant_after}
use Rattle.site_means.specs.Images.{shape_of}
use Rattle.xrc_command.specs.declared.line.Line.{Line}
use Rattle.site_store.specs.DeedChanges.{DeedOfChanges, changes_of, deeds_of}
use Rattle.site_store.specs.Exceptions.{Exceptions, excepted_after}
use Rattle.site_store.specs.Seeing.{SeesAfter}
use Rattle.passages.specs.Points.{AreLinked, last_point}
use Rattle.consistency.specs.Stages.{ScriptRun, Stage, breaks_of, tracks_of_row}
use Rattle.fed_logs.specs.Feeds.{part_of_mover}
use Rattle.fed_logs.specs.LogLaws.{is_limited}
use Rattle.fed_logs.specs.Logs.{AwaitsBreak, BeginsLog, IsFedLog, Sizes}
use Rattle.fed_logs.specs.Moves.{MakesAllDeeds, MakesDeeds, Plans}
use Rattle.consistency.specs.Bearing.{GoesThroughPoints, MayBeMeant, ShowsPoint}
use Rattle.consistency.specs.Leads.{Point, may_rest}
use Rattle.consistency.specs.Ways.{ComesBy, ComesNext, HasCountedHits, IsLegOf, Leg, PassedPoint, Way, leg_after, leg_to}
use Rattle.mover.specs.Points.{AreSteps, point_after_deeds, points_by}
use Rattle.mover.specs.SilentBreaks.{all_silent}
use Rattle.mover.specs.OwedTracks.{CarriedAsLive, ExceptedAreOwed, FailedAreOwed, KeptHaveRows, held_by_choice}

-- The work for a line's time, from a leg of a run's stage on.
--   size: how many tracks each volume has
--   excepted: the tracks of which no content is told at first
--   begun, ended: what readers and mover share before and after the work, which goes from the one to the other by the log of their calls
--   done: the plans that are known to be done at first
--   steps: the deeds that are kept of the mover's calls, each with its changes of rows
pub record Work : Type 0 where
  pub run : ScriptRun
  pub stage : Stage
  pub line : Line
  pub leg : Leg
  pub size : Sizes
  pub excepted : Exceptions
  pub begun : Group
  pub ended : Group
  pub log : List Answer
  pub done : Plans
  pub steps : List DeedOfChanges

-- the first of its deeds
abbrev pub first_done : (n : ℕ) → Work → List Deed
first_done n work = take n (deeds_of work.steps)

-- the point, and the time, that is meant once so many of its deeds are done
abbrev pub point_then : (n : ℕ) → Work → Point
point_then n work = point_after_deeds work.run.level work.leg.point (take n work.steps)

abbrev pub time_then : (n : ℕ) → Work → ℕ
time_then n work = time_meant_after (first_done n work) work.leg.point.time

-- the point after all of its deeds, and the tracks of which no content is told then
abbrev pub last_point_of : Work → Point
last_point_of work = point_after_deeds work.run.level work.leg.point work.steps

abbrev pub excepted_last : Work → Exceptions
excepted_last work = excepted_after work.leg.point.rows (deeds_of work.steps) work.excepted

-- A choice shows that so many of its deeds are done since a start.
abbrev pub SeesFirst : PlantState → Work → (n : ℕ) → Choice → Type 0
SeesFirst start work n c = SeesAfter start work.excepted work.leg.point.rows (first_done n work) c

-- ---- what it begins with

-- What the shared state is to rows and devices between two epochs.
--   apart, below: the rows are those of a table, on devices of the plant
--   sized: each row's volume has at least its tracks
--   holds: whatever a crash leaves now, what it holds is what was told, up to the time that is meant
--   rowed: each volume that is kept has a row
--   owed, failed: tracks of which no content is told are owed, and so are all of a row that its device suspends
--   carried: the volumes of rows are carried as the rows are live
pub record StandsForRows (run : ScriptRun) (size : Sizes) (start : PlantState) (excepted : Exceptions) (s : Group) (p : Point) (done : Plans) : Type 0 where
  pub apart : IsTrue (none_clash p.rows)
  pub below : IsTrue (are_below start.volumes p.rows)
  pub sized : (r : PairRow) → Contains p.rows r → tracks_of_row r ≤ size r.control r.volume
  pub holds : (c : Choice) → IsChoice start start.clock c → BeginsLog size run.traces (held_by_choice start c p.rows) s p.time p.rows done
  pub rowed : KeptHaveRows s p.rows
  pub owed : ExceptedAreOwed size excepted s p.rows
  pub failed : FailedAreOwed size s p.rows
  pub carried : CarriedAsLive s p.rows

-- ---- its log

-- The leg has begun at the stage, which has the line next. No row waits for a record that was due before, and each device is hit at most as
-- often as it failed.
pub record IsAtLine (work : Work) : Type 0 where
  pub goes_on : work.stage.table.is_ended ≡ false
  pub heard : work.stage.next ≡ Some work.line
  pub leg_is : IsLegOf work.run work.stage work.leg
  pub rests : IsTrue (may_rest true work.leg.point)
  pub counted : HasCountedHits work.run (leg_to work.leg work.leg.point (changes_of work.steps))

-- The log's readers are fed, and its forms go up to the line's time. Deeds are kept of its mover's calls, each of which is a step.
--   awaits: each break to come is still awaited
pub record IsLogOfWork (work : Work) : Type 0 where
  pub fed : IsFedLog work.run.traces work.begun work.ended work.log
  pub kept : MakesDeeds work.leg.point.time work.leg.point.rows work.done (part_of_mover work.log) (deeds_of work.steps)
  pub each : AreSteps work.run.level (breaks_of work.run) work.leg.point work.steps
  pub up : work.leg.point.time ≤ work.line.time.0
  pub limited : IsTrue (list_all (is_limited work.line.time.0) work.log)
  pub awaits : (k b : ℕ) → break_time_of k (breaks_of work.run) ≡ Some b → work.leg.point.time ≤ b → AwaitsBreak work.begun k b

-- The work begins at a plant's state, which shows the leg's point.
pub record WorkBegins (start : PlantState) (work : Work) : Type 0 where
  pub at_line : IsAtLine work
  pub shows : AtNow (ShowsPoint work.run (shape_of start) work.leg.point) start
  pub stands : StandsForRows work.run work.size start work.excepted work.begun work.leg.point work.done
  pub logged : IsLogOfWork work

-- All of its mover's calls were kept, up to this time, with these rows, and with these plans known to be done.
abbrev pub IsKeptToEnd : Work → (time : ℕ) → List PairRow → (known : Plans) → Type 0
IsKeptToEnd work time rows known =
    MakesAllDeeds work.leg.point.time work.leg.point.rows work.done (part_of_mover work.log) (deeds_of work.steps) time rows known

-- ---- the points that it passes

-- the line with a number, if it was heard whole
abbrev pub LinesAsked : Type 0
LinesAsked = (number : ℕ) → Option Line

-- the work's deeds with the changes by which points come: those of its steps, and the silent breaks below the line's time
abbrev pub named_steps : Work → List DeedOfChanges
named_steps work = all_silent work.line.time.0 (breaks_of work.run) work.steps

-- the points of the first deeds at moments, where deeds come by these changes
abbrev pub points_in : Work → (moments : List ℕ) → (named : List DeedOfChanges) → List PassedPoint
points_in work moments named = points_by work.run.level work.leg.point moments named

-- Nothing new is on its way from a leg, or a point that comes next by some way.
abbrev pub IsOnItsWay : ScriptRun → LinesAsked → Leg → Point → Type 0
IsOnItsWay run asked l q = (q ≡ l.point) ⊎ ((way : Way) × ComesBy run asked l q way)

-- A choice shows the last of some points, or the one that is on its way.
abbrev pub ShowsLast : ScriptRun → PlantState → (last : Point) → (on_its_way : Option Point) → Choice → Type 0
ShowsLast run plant last None c = ShowsPoint run (shape_of plant) last c
ShowsLast run plant last (Some q) c = ShowsPoint run (shape_of plant) last c ⊎ ShowsPoint run (shape_of plant) q c

-- The work passes points, and one may be on its way. Each comes next on the way to the line's time, and each may be meant. The deeds are those
-- of the work, with the changes by which the points come. The past of a plant that keeps one tells the points' moments.
--   comes_next: the one on its way comes next after the others, if it isn't the last of these
--   now: whatever a crash leaves now shows the last of the others, or the one on its way
pub record PassesPoints (old new : PlantState) (work : Work) (asked : LinesAsked) (moments : List ℕ) (by : List DeedOfChanges) (next : Option Point) : Type 0 where
  pub same : deeds_of by ≡ deeds_of work.steps
  pub goes : 0 < old.clock → GoesThroughPoints work.run new old.clock work.leg.point (points_in work moments by) new.clock next
  pub linked : AreLinked (ComesNext work.run asked) leg_after work.leg (points_in work moments by)
  pub may : All (λ n. MayBeMeant work.run work.stage n.point) (points_in work moments by)
  pub may_next : IfSome next (MayBeMeant work.run work.stage)
  pub comes_next : IfSome next (IsOnItsWay work.run asked (fold leg_after work.leg (points_in work moments by)))
  pub now : AtNow (ShowsLast work.run new (last_point work.leg.point (points_in work moments by)) next) new
