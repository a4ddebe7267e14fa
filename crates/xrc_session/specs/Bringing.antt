-- What the work for a line's time leaves of a site.
use Rattle.std.specs.Prelude.{◌≡◌, ℕ, ◌≤◌, List, Option, Result, IsTrue, IfErr, IsErrOf, OnOk}
use Rattle.std.specs.List.{list_all}
use Rattle.applier.specs.Returns.{WorksOnLent}
use Rattle.crash_plant.specs.Moments.{PlantState}
use Rattle.pair_table.specs.Tables.{with_rows}
use Rattle.record_rows.specs.ToldRows.{InPlaces}
use Rattle.pair_table.specs.States.{is_settled}
use Rattle.site_store.specs.Sites.{SiteState}
use Rattle.write_trace.specs.declared.trace.Trace.{Trace}
use Rattle.mover.specs.declared.lane.Lane.{Lane}
use Rattle.mover.specs.Epochs.{AllTurnOut, IsSamePair, LanesBrokeAs}
use Rattle.mover.specs.Moves.{IsOfMover}
use Rattle.xrc_status.specs.declared.stop.Stop.{Stop}
use Rattle.xrc_status.specs.declared.stop.Stop.TheVariants.{Spent}
use Rattle.xrc_session.specs.Frames.{SuspendsByCounts}
use Rattle.xrc_session.specs.Stops.{HasStopCause, IsSpentNow, StopsByCount}

-- A site was brought to a time. Its table is the session's with the rows that the devices tell, of the same pairs, and no row is pending or
-- copying.
pub record IsSiteBrought (time : ℕ) (old new : SiteState) : Type 0 where
  pub at : new.time ≡ time
  pub controls : new.controls ≡ old.controls
  pub level : new.level ≡ old.level
  pub table : new.table ≡ with_rows old.table new.told
  pub pairs : InPlaces IsSamePair old.told new.told
  pub settled : IsTrue (list_all (λ r. is_settled r.state) new.told)
  pub goes_on : new.mark.ended ≡ old.mark.ended

-- Calls on a site's devices alone, which stop by the count of what failed, or where numbers are spent. Rows are suspended by devices that failed.
pub record IsWorkOfStore {T : Type 0} (tells : Type 0) (site after : SiteState) (old new : PlantState) (result : Result T Stop) : Type 0 where
  pub works : WorksOnLent tells (IsOfMover site) old new
  pub cause : IfErr result (HasStopCause old new)
  pub counts : StopsByCount old new result
  pub spent : tells → IsErrOf result Spent → IsSpentNow new
  pub hits : OnOk result (SuspendsByCounts site.told after.told old new)

-- For all traces that turn out so, lanes that broke as these do below an earlier time do so below this one.
abbrev pub BreakOnAsTraces : {S : Type 0} → (left : S → Option (List ℕ)) → (time : ℕ) → (lanes after : List (Lane S)) → Type 0
BreakOnAsTraces left time lanes after = (traces : List Trace) (before : ℕ) → before ≤ time → AllTurnOut left traces lanes after → LanesBrokeAs before traces lanes → LanesBrokeAs time traces after
