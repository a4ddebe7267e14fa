-- The devices on which the mover works, call by call.
use Rattle.std.proofs.Common.{◌≡◌, inl, inr, ℕ, Result, Ok, refl, sym, subst, ◌∙◌}
use Rattle.std.specs.Prelude.{IsTrue}
use Rattle.xrc_edge.specs.Causes.{Rose}
use Rattle.crash_plant.specs.declared.device.Device.{Device}
use Rattle.crash_plant.specs.Moments.{PlantState}
use Rattle.applier.specs.Returns.{WorksOnLent}
use Rattle.applier.proofs.Works.{works_lent_more, works_lent_trans}
use Rattle.site_store.specs.declared.store_error.StoreError.{StoreError}
use Rattle.site_store.specs.Causes.{HasStoreCause}
use Rattle.site_store.specs.Records.{IsStore}
use Rattle.site_store.specs.Sites.{SiteState}
use Rattle.site_store.proofs.LogFails.{fails_trans, none_fails}
use Rattle.mover.specs.Moves.{IsOfMover, MoverWorks, is_worked_on}
use Rattle.mover.proofs.InSlots.{slots_here, slots_then}
use Rattle.mover.proofs.MovedOn.{on_ok}

-- A cause after a call that ended well is the cause of both.
cause_then : (old mid new : Device → ℕ) (result : Result (Unit {0}) StoreError) → HasStoreCause old mid (Ok tt) → HasStoreCause mid new result → HasStoreCause old new result
cause_then old mid new result first then = record {
  counts = record {
    fault = λ d is. let one = then.counts.fault d is in (one.0, subst (λ (n : ℕ). Rose n (new d)) (stays d one.0) one.1);
    others = λ d store none. then.counts.others d store none ∙ stays d store;
  };
  memory = then.memory;
}
  where
    stays : (d : Device) → IsStore d → mid d ≡ old d
    stays d store = first.counts.others d store (λ none. cc none)

module _ (tells : Type 0) (site mid after : SiteState) (old between new : PlantState) (result : Result (Unit {0}) StoreError) where
  pub works_then : MoverWorks tells site mid old between (Ok tt) → MoverWorks tells mid after between new result → MoverWorks tells site after old new result
  works_then first then = record {
    others = works_lent_trans tells (IsOfMover site) old between new first.others (works_lent_more tells (IsOfMover mid) (IsOfMover site) between new wider then.others);
    cause = cause_then old.faults between.faults new.faults result first.cause then.cause;
    failed = fails_trans site.failed mid.failed after.failed old.faults between.faults new.faults first.failed then.failed;
    rest = on_ok result (λ (rest : (v : ℕ) → IsTrue (is_worked_on after v) → IsTrue (is_worked_on mid v)). λ v is. first.rest v (rest v is)) then.rest;
    slots = slots_then tells site after old new result mid between first.others.site.volumes first.others.elapses then.others.elapses first.slots then.slots;
    spent = then.spent;
  }
    where
      wider : (d : Device) → IsOfMover mid d → IsOfMover site d
      wider d (inl store) = inl store
      wider d (inr volume) = inr (volume.0, volume.1, first.rest volume.0 volume.2)

-- No call, no work.
pub no_work : (tells : Type 0) (site : SiteState) (plant : PlantState) (result : Result (Unit {0}) StoreError) → WorksOnLent tells (IsOfMover site) plant plant → result ≡ Ok tt → MoverWorks tells site site plant plant result
no_work tells site plant result works is = subst (λ (r : Result (Unit {0}) StoreError). MoverWorks tells site site plant plant r) (sym is) (record {
  others = works;
  cause = record { counts = record { fault = λ d none. cc none; others = λ d store none. refl }; memory = λ none. cc none };
  failed = none_fails site.failed plant.faults plant.faults (λ d. refl);
  rest = λ v is. is;
  slots = slots_here tells site plant;
  spent = λ none. cc none;
})
