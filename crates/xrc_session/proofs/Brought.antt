-- A session that was brought to a limit.
use Rattle.std.proofs.Common.{◌≡◌, ℕ, ◌≤◌, false, List, length, ◌++◌, Option, Some, None, Ok, Err, arith, sym, ap, subst, ◌∙◌}
use Rattle.std.specs.Prelude.{IsSomeAnd, fold}
use Rattle.crash_plant.specs.declared.device.Device.{Device}
use Rattle.crash_plant.specs.Calls.{IsThere}
use Rattle.crash_plant.specs.Moments.{PlantState}
use Rattle.pair_table.specs.declared.row.PairRow.{PairRow}
use Rattle.pair_table.specs.Tables.{with_rows}
use Rattle.group_state.specs.Groups.{Group}
use Rattle.row_changes.specs.Changes.Due.{NoneDue}
use Rattle.fed_logs.specs.Feeds.{part_of_mover, part_of_reader}
use Rattle.site_store.specs.Sites.{SiteState}
use Rattle.consistency.specs.Ways.{leg_after}
use Rattle.mover.specs.declared.ends.EpochEnd.{EpochEnd}
use Rattle.mover.specs.declared.ends.EpochEnd.TheVariants as ends
use Rattle.mover.specs.declared.lane.Lane.{Lane}
use Rattle.mover.specs.Epochs.{EpochGoes, MayBeginEpoch, ReachedBy, end_result}
use Rattle.mover.specs.Moves.{MoverWorks}
use Rattle.mover.specs.Rounds.{AreLanesOf}
use Rattle.xrc_status.specs.declared.stop.Stop.{Stop}
use Rattle.xrc_session.specs.declared.kept.SessionParts.{SessionParts}
use Rattle.xrc_session.specs.LinePauses.{IsReadyForEpoch}
use Rattle.xrc_session.specs.Bringing.{IsSiteBrought}
use Rattle.xrc_session.specs.Frames.{SuspendsByCounts}
use Rattle.xrc_session.specs.Joins.{RestsAt}
use Rattle.xrc_session.specs.Lanes.{AllWent}
use Rattle.xrc_session.specs.Starting.{StaysStarted}
use Rattle.xrc_session.specs.Steps.{BringsOn, HasBrought, MayBring}
use Rattle.xrc_session.proofs.BroughtHits.{suspends_by_counts}
use Rattle.xrc_session.proofs.BroughtPoints.{IsInRun, begins_to_pass, ends_bringing}
use Rattle.xrc_session.proofs.JoinsLanes.{epochs_later, lanes_later}
use Rattle.xrc_session.proofs.JoinsLogs.{epochs_rest}
use Rattle.xrc_session.proofs.StartedStill.{stays_started}

-- ---- before

pub lanes_may : {S : Type 0} (tells : Type 0) (limit : ℕ) (lanes : List (Lane S)) (site : SiteState) (plant : PlantState) (group : Group) → site.time ≤ limit → IsReadyForEpoch tells lanes site plant group → AreLanesOf group limit lanes
lanes_may tells limit lanes site plant group up ready = lanes_later lanes group site.time limit up ready.lanes_of

pub epoch_may : {S : Type 0} (tells : Type 0) (limit : ℕ) (lanes : List (Lane S)) (site : SiteState) (plant : PlantState) (group : Group) → site.time ≤ limit → IsReadyForEpoch tells lanes site plant group → MayBeginEpoch tells limit group site plant
epoch_may tells limit lanes site plant group up ready = epochs_later tells plant group site site.time limit up ready.begins

-- A shared state that is there is the one that was taken.
pub taken : (P : Group → Type 0) (o : Option Group) (group : Group) → o ≡ Some group → IsSomeAnd o P → P group
taken P o group is some = subst (λ (x : Option Group). IsSomeAnd x P) is some

pub none_taken : (P : Group → Type 0) (o : Option Group) → o ≡ None → IsSomeAnd o P → ⊥
none_taken P o is some = subst (λ (x : Option Group). IsSomeAnd x P) is some

-- There are few lanes.
pub lanes_few : {S : Type 0} (tells : Type 0) (old new : List (Lane S)) (site : SiteState) (plant : PlantState) (group : Group) → IsReadyForEpoch tells old site plant group → length new ≡ length old → length new ≤ 16
lanes_few tells old new site plant group ready same = let many = ready.lanes_of.many in let few = ready.kept.keeps.controls_kept.few in omega (arith, many, few, same)

-- ---- whatever the epoch answers

module _ {S : Type 0} (tells : Type 0) (left : S → Option (List ℕ)) (faults : S → ℕ) (limit : ℕ) (group : Group) (old new : List (Lane S)) (site after : SiteState) (was is : PlantState) (result : EpochEnd) (goes : EpochGoes tells left faults limit group old new site after was is result) where
  pub all_went : length new ≡ length old → AllWent left faults old new
  all_went many = record { many = many; each = λ k d low. (part_of_reader k goes.ran.log, goes.ran.lanes k d low) }

  pub stays_so : MayBeginEpoch tells limit group site was → site.mark.ended ≡ false → tells → StaysStarted limit site was is
  stays_so may goes_on told =
      let stands = may.rests.fast.stands told in
      stays_started tells told left faults limit group old new site after was is result goes stands.0 stands.1 goes_on

  -- In each run points are passed, if the work stops.
  pub brings_badly : tells → (began : PlantState) (kept kept_now : SessionParts) (stop : Stop) → kept.group ≡ Some group → MayBeginEpoch tells limit group site was → site.mark.ended ≡ false → MoverWorks tells site after was is (end_result result)
      → BringsOn left limit old new kept kept_now site after began was is (Err stop)
  brings_badly told began kept kept_now stop shared may goes_on works run stage line asked l first points at level bring turns rises =
      begins_to_pass tells left faults group old new site after began was is result (record {
        told = told;
        run = run;
        stage = stage;
        line = line;
        asked = asked;
        leg = l;
        first = first;
        points = points;
        level = level;
        goes_on = goes_on;
        idle = may.rests.idle;
        may = taken (MayBring run stage line asked l first points site began was) kept.group group shared bring;
        turns = turns;
        rises = rises;
        works = works;
        goes = subst (λ (n : ℕ). EpochGoes tells left faults n group old new site after was is result) (sym at) goes;
      })

-- ---- at the limit

module _ {S : Type 0} (tells : Type 0) (left : S → Option (List ℕ)) (faults : S → ℕ) (limit : ℕ) (group next : Group) (old new : List (Lane S)) (site after : SiteState) (was is : PlantState) (goes : EpochGoes tells left faults limit group old new site after was is (ends.Reached next))
    (reached : ReachedBy tells left limit group old new site next after is) where
  rests : IsReadyForEpoch tells old site was group → RestsAt tells limit new next after is
  rests ready = epochs_rest tells left faults was is limit group next old new site after goes.ran reached ready.kept

  pub ready_again : IsReadyForEpoch tells old site was group → IsReadyForEpoch tells new after is next
  ready_again ready =
      let rest = rests ready in
      record { begins = subst (λ (n : ℕ). MayBeginEpoch tells n next after is) (sym rest.time) rest.begins; lanes_of = subst (λ (n : ℕ). AreLanesOf next n new) (sym rest.time) rest.lanes_of; kept = rest.kept }

  pub is_brought : site.mark.ended ≡ false → after.told ≡ after.table.rows → IsSiteBrought limit site after
  is_brought goes_on same = record {
    at = reached.time.time;
    controls = reached.time.is_left.controls;
    level = reached.time.is_left.level;
    table = reached.time.is_left.table ∙ ap (λ (rows : List PairRow). with_rows site.table rows) (sym same);
    pairs = reached.time.pairs;
    settled = reached.settled;
    goes_on = reached.time.going goes_on ∙ sym goes_on;
  }

  pub hits_by_counts : site.mark.ended ≡ false → SuspendsByCounts site.told after.told was is
  hits_by_counts goes_on = suspends_by_counts site.level false (part_of_mover goes.ran.log) site.time site.told after.told NoneDue goes.ran.steps NoneDue was is (goes.ran.made goes_on) goes.ran.changes goes.ran.is_left.rows goes.ran.counted

  -- In each run the points of the deeds are passed, and the line's time is reached.
  pub brings_well : tells → (began : PlantState) (kept kept_now : SessionParts) → kept.group ≡ Some group → kept_now.group ≡ Some next → MayBeginEpoch tells limit group site was → site.mark.ended ≡ false → MoverWorks tells site after was is (Ok tt)
      → (tells → (d : Device) → IsThere is d → is.images is.clock d (is.bytes d)) → BringsOn left limit old new kept kept_now site after began was is (Ok tt)
  brings_well told began kept kept_now shared shared_now may goes_on works read run stage line asked l first points at level bring turns rises =
      let b : IsInRun tells left faults group old new site after began was is (ends.Reached next) = record {
        told = told;
        run = run;
        stage = stage;
        line = line;
        asked = asked;
        leg = l;
        first = first;
        points = points;
        level = level;
        goes_on = goes_on;
        idle = may.rests.idle;
        may = taken (MayBring run stage line asked l first points site began was) kept.group group shared bring;
        turns = turns;
        rises = rises;
        works = works;
        goes = subst (λ (n : ℕ). EpochGoes tells left faults n group old new site after was is (ends.Reached next)) (sym at) goes;
      } in
      let found = ends_bringing tells left faults group next old new site after began was is b (subst (λ (n : ℕ). ReachedBy tells left n group old new site next after is) (sym at) reached) read in
      (found.0, found.1, subst (λ (o : Option Group). IsSomeAnd o (HasBrought run stage line asked (fold leg_after l found.0) first (points ++ found.0) after began is)) (sym shared_now) found.2)
