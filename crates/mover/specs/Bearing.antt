-- What the moments of an epoch bear, and what a session has again once its limit was reached.
use Rattle.std.specs.Prelude.{◌≡◌, ◌||◌, ℕ, ◌+◌, ◌<◌, ◌≤◌, not, nat_lt, List, [], fold, Bool, false, Option, Some, None, IfSome, IsTrue}
use Rattle.std.specs.List.{All, list_all}
use Rattle.crash_plant.specs.declared.device.Device.TheVariants.{Volume}
use Rattle.crash_plant.specs.Choices.{AtEveryMoment, AtNow, Choice, IsChoice}
use Rattle.crash_plant.specs.Moments.{PlantState}
use Rattle.write_trace.specs.declared.trace.Trace.{Trace}
use Rattle.group_state.specs.Groups.{Group}
use Rattle.group_state.specs.SoundStates.{IsGroupSound}
use Rattle.row_changes.specs.Changes.{Timed}
use Rattle.row_changes.specs.Spans.{is_break}
use Rattle.site_means.specs.Images.{shape_of}
use Rattle.xrc_command.specs.declared.line.Line.{Line}
use Rattle.site_store.specs.Exceptions.{Exceptions}
use Rattle.passages.specs.Points.{AreLinked, last_point}
use Rattle.consistency.specs.Stages.{ScriptRun, Stage}
use Rattle.fed_logs.specs.Logs.{Sizes}
use Rattle.fed_logs.specs.Moves.{Plans}
use Rattle.fed_logs.specs.ShownBreaks.{BreaksAreToCome, BrokeAsTraces}
use Rattle.consistency.specs.Bearing.{Bears, GoesThroughPoints, MayBeMeant, ShowsPoint}
use Rattle.consistency.specs.Leads.{Point}
use Rattle.consistency.specs.Ways.{ComesNext, IsAtWork, IsLegOf, Leg, MayTakeEffect, PassedPoint, hits_of_leg, is_on_the_way, leg_after}
use Rattle.mover.specs.Working.{LinesAsked, IsOnItsWay, ShowsLast, StandsForRows}
use Rattle.site_store.specs.Sites.{SiteState}
use Rattle.site_store.specs.Standing.{SiteStands}
use Rattle.mover.specs.declared.ends.EpochEnd.{EpochEnd}
use Rattle.mover.specs.declared.ends.EpochEnd.TheVariants as ends
use Rattle.mover.specs.declared.lane.Lane.{Lane}
use Rattle.mover.specs.Moves.{most_faults}
use Rattle.mover.specs.Epochs.{AllTurnOut, EpochGoes, ReachedBy, point_of}

-- ---- between two epochs

-- A run so far: its stage, and the leg that the points passed by then leave.
--   size: how many tracks each volume has
--   counts: the count of faults of each volume when the run began
--   excepted: the tracks of which no content is told
--   done: the plans that are known to be done
pub record RunSoFar : Type 0 where
  pub run : ScriptRun
  pub stage : Stage
  pub leg : Leg
  pub size : Sizes
  pub counts : (device : ℕ) → ℕ
  pub excepted : Exceptions
  pub done : Plans

-- the same run, with another leg, other tracks of which no content is told, and other plans
abbrev pub run_on : RunSoFar → Leg → Exceptions → Plans → RunSoFar
run_on so leg excepted done = record so { leg = leg; excepted = excepted; done = done }

-- The session goes on at the run's level, no item waits, and every crash now leaves the site.
pub record HasSite (so : RunSoFar) (site : SiteState) (plant : PlantState) : Type 0 where
  pub level : so.run.level ≡ site.level
  pub goes_on : site.mark.ended ≡ false
  pub idle : site.waiting ≡ []
  pub stands : SiteStands so.excepted site plant

-- The shared state is one that every call keeps. Its controllers broke as the traces do, and breaks from a time on are still to come.
pub record HasSharedState (traces : List Trace) (time : ℕ) (group : Group) : Type 0 where
  pub keeps : IsGroupSound group
  pub broke : BrokeAsTraces traces group
  pub awaits : BreaksAreToCome traces time group

-- Each hit had a fault of its own since the run began.
abbrev pub AreHitsSoFar : RunSoFar → PlantState → Type 0
AreHitsSoFar so plant = (d : ℕ) → hits_of_leg so.leg d + so.counts d ≤ plant.faults (Volume d)

-- a break comes before a time
abbrev pub is_early_break : (time : ℕ) → Timed → Bool
is_early_break time t = not (is_break t) || nat_lt t.time time

-- What a session has between two epochs.
--   at: the leg has come to what is meant of the site
--   early: the breaks on the leg came before the time that is meant
--   some: a crash may leave something now
pub record StandsSoFar (so : RunSoFar) (group : Group) (site : SiteState) (plant : PlantState) : Type 0 where
  pub leg_is : IsLegOf so.run so.stage so.leg
  pub at : so.leg.point ≡ point_of site
  pub early : IsTrue (list_all (is_early_break site.time) so.leg.changes)
  pub hits : AreHitsSoFar so plant
  pub shows : AtNow (ShowsPoint so.run (shape_of plant) so.leg.point) plant
  pub rows : StandsForRows so.run so.size plant so.excepted group so.leg.point so.done
  pub has_site : HasSite so site plant
  pub has_state : HasSharedState so.run.traces site.time group
  pub some : (c : Choice) × IsChoice plant plant.clock c

-- ---- the epoch

-- A line was heard whole, and the run's traces turn out so after the readers. No count of faults stands at its end, and each volume
-- fails so often in the run as its count has risen by then.
pub record IsForLine {S : Type 0} (left : S → Option (List ℕ)) (so : RunSoFar) (line : Line) (old new : List (Lane S)) (now : PlantState) : Type 0 where
  pub heard : so.stage.next ≡ Some line
  pub turns : AllTurnOut left so.run.traces old new
  pub counted : (d : ℕ) → (now.faults (Volume d) < most_faults) × (now.faults (Volume d) ≤ so.run.rises d + so.counts d)

-- An epoch is for a line of a run: up to the line's time, from what a session has between two epochs.
pub record IsEpochOf {S : Type 0} (tells : Type 0) (left : S → Option (List ℕ)) (faults : S → ℕ) (so : RunSoFar) (line : Line) (group : Group) (old new : List (Lane S)) (site after : SiteState) (was is : PlantState) (result : EpochEnd) : Type 0 where
  pub told : tells
  pub stands : StandsSoFar so group site was
  pub for_line : IsForLine left so line old new is
  pub goes : EpochGoes tells left faults line.time.0 group old new site after was is result

-- ---- what it bears

-- A choice bears some time.
abbrev pub BearsSome : RunSoFar → PlantState → Choice → Type 0
BearsSome so plant c = (time : ℕ) × Bears so.run so.stage (shape_of plant) c time

-- From the leg on points were passed, and one may be on its way. Each comes next on the way to the line's time, and may be meant. The past of a
-- plant that keeps one tells the points' moments.
--   on_the_way: none of those passed comes by a line's command
--   comes_next: the one on its way comes next after the others, if it isn't the last of these
--   now: whatever a crash leaves now shows the last of the others, or the one on its way
pub record PassesOn (so : RunSoFar) (asked : LinesAsked) (old new : PlantState) (points : List PassedPoint) (next : Option Point) : Type 0 where
  pub goes : 0 < old.clock → GoesThroughPoints so.run new old.clock so.leg.point points new.clock next
  pub linked : AreLinked (ComesNext so.run asked) leg_after so.leg points
  pub on_the_way : IsTrue (list_all is_on_the_way points)
  pub may : All (λ n. MayBeMeant so.run so.stage n.point) points
  pub may_next : IfSome next (MayBeMeant so.run so.stage)
  pub comes_next : IfSome next (IsOnItsWay so.run asked (fold leg_after so.leg points))
  pub now : AtNow (ShowsLast so.run new (last_point so.leg.point points) next) new

-- Whatever a crash leaves at a moment, and now, bears some time. While the session works for the line, points are passed.
pub record BearsAtEachMoment (so : RunSoFar) (was is : PlantState) : Type 0 where
  pub moments : 0 < was.clock → AtEveryMoment (BearsSome so is) was is
  pub now : AtNow (BearsSome so is) is
  pub passes : (asked : LinesAsked) → IsAtWork so.run asked so.leg → (points : List PassedPoint) × (next : Option Point) × PassesOn so asked was is points next

-- Each moment of an epoch for a line bears, whatever the epoch answers.
abbrev pub EpochsBear : {S : Type 0} → (tells : Type 0) → (left : S → Option (List ℕ)) → (faults : S → ℕ) → (was is : PlantState) → Type 0
EpochsBear {S} tells left faults was is =
    (so : RunSoFar) (line : Line) (group : Group) (old new : List (Lane S)) (site after : SiteState) (result : EpochEnd) → IsEpochOf tells left faults so line group old new site after was is result
    → BearsAtEachMoment so was is

-- ---- at the limit

-- After an epoch that reached its limit a session has again what an epoch begins with, for the next group and the site after it.
--   passes: while the session works for the line, all points are passed, and leave the leg
--   effect: the line's command may take effect
pub record StandsAtLimit (so : RunSoFar) (line : Line) (next : Group) (after : SiteState) (was is : PlantState) : Type 0 where
  pub leg : Leg
  pub excepted : Exceptions
  pub done : Plans
  pub stands : StandsSoFar (run_on so leg excepted done) next after is
  pub passes : (asked : LinesAsked) → IsAtWork so.run asked so.leg → (points : List PassedPoint) × PassesOn so asked was is points None × (fold leg_after so.leg points ≡ leg)
  pub effect : MayTakeEffect so.run line leg

-- Where an epoch for a line reaches its limit, the session may take the line's command, and the next line's epoch may begin.
abbrev pub EpochsStandAgain : {S : Type 0} → (tells : Type 0) → (left : S → Option (List ℕ)) → (faults : S → ℕ) → (was is : PlantState) → Type 0
EpochsStandAgain {S} tells left faults was is =
    (so : RunSoFar) (line : Line) (group next : Group) (old new : List (Lane S)) (site after : SiteState) → IsEpochOf tells left faults so line group old new site after was is (ends.Reached next)
    → ReachedBy tells left line.time.0 group old new site next after is → StandsAtLimit so line next after was is
