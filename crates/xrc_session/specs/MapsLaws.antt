-- What is mapped of suspended rows is what they owe, over an epoch.
use Rattle.std.specs.Prelude.{◌≡◌, ℕ, ◌<◌, ◌++◌, List, false, Option, IsTrue}
use Rattle.crash_plant.specs.Moments.{PlantState}
use Rattle.pair_table.specs.Tables.{none_clash}
use Rattle.group_state.specs.Groups.{Group}
use Rattle.group_state.specs.SoundStates.{IsGroupSound}
use Rattle.passages.specs.Points.{last_point}
use Rattle.consistency.specs.Stages.{ScriptRun}
use Rattle.consistency.specs.Leads.{Point}
use Rattle.consistency.specs.Ways.{PassedPoint}
use Rattle.site_store.specs.DeedChanges.{deeds_of}
use Rattle.site_store.specs.Sites.{SiteState}
use Rattle.fed_logs.specs.Logs.{BeginsLog, Sizes}
use Rattle.fed_logs.specs.Moves.{Plans}
use Rattle.fed_logs.specs.ShownBreaks.{BreaksAreToCome, BrokeAsTraces}
use Rattle.fed_logs.specs.ToldTracks.{HeldTracks}
use Rattle.mover.specs.declared.ends.EpochEnd.TheVariants as ends
use Rattle.mover.specs.declared.lane.Lane.{Lane}
use Rattle.mover.specs.Epochs.{AllTurnOut, EpochGoes, ReachedBy, point_of}
use Rattle.mover.specs.OwedTracks.{CarriedAsLive}
use Rattle.mover.specs.Moves.{LogsEntriesOf}
use Rattle.xrc_session.specs.MapsOwed.{HasCutOrNoRow, HaveRowsOf, MapsOwed, MapsRest}

-- ---- an epoch

-- An epoch of a run reached its limit, from a state that stands for the site's rows, and whose controllers broke as the run's traces do.
pub record ReachesLimit {S : Type 0} (tells : Type 0) (left : S → Option (List ℕ)) (faults : S → ℕ) (limit : ℕ) (run : ScriptRun) (group next : Group) (old new : List (Lane S)) (site after : SiteState) (was is : PlantState) : Type 0 where
  pub goes : EpochGoes tells left faults limit group old new site after was is (ends.Reached next)
  pub reached : ReachedBy tells left limit group old new site next after is
  pub up : 0 < limit
  pub turns : AllTurnOut left run.traces old new
  pub level : run.level ≡ site.level
  pub going : site.mark.ended ≡ false
  pub keeps : IsGroupSound group
  pub broke : BrokeAsTraces run.traces group
  pub come : BreaksAreToCome run.traces site.time group
  pub size : Sizes
  pub held : HeldTracks
  pub done : Plans
  pub begins : BeginsLog size run.traces held group site.time site.told done
  pub apart : IsTrue (none_clash site.told)
  pub carried : CarriedAsLive group site.told

-- Where the maps have what rows owe, they do so after such an epoch, at the points that its deeds pass.
abbrev pub MapsOwedAfterEpochs : {S : Type 0} → (tells : Type 0) → (left : S → Option (List ℕ)) → (faults : S → ℕ) → (was is : PlantState) → Type 0
MapsOwedAfterEpochs {S} tells left faults was is =
    (limit : ℕ) (run : ScriptRun) (group next : Group) (old new : List (Lane S)) (site after : SiteState) (first : Point) (points more : List PassedPoint) → (e : ReachesLimit tells left faults limit run group next old new site after was is)
    → LogsEntriesOf site.told (deeds_of e.goes.ran.steps) → HaveRowsOf more (deeds_of e.goes.ran.steps) → (last_point first points).rows ≡ site.told → MapsRest (point_of site) group → HasCutOrNoRow site.time site.told group
    → MapsOwed run first points (point_of site) group
    → MapsOwed run first (points ++ more) (point_of after) next × MapsRest (point_of after) next
