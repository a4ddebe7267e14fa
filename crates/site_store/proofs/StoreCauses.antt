-- Why a record isn't put, as the cause of a site's call.
use Rattle.std.proofs.Common.{◌≡◌, ◌≤◌, ◌<◌, ℕ, Err, Result, sym, ap, subst, ◌∙◌, arith}
use Rattle.xrc_edge.specs.Causes.{Rose}
use Rattle.crash_plant.specs.declared.device.Device.{Device}
use Rattle.crash_plant.specs.declared.device.Device.TheVariants.{Journal}
use Rattle.site_store.specs.declared.store_error.StoreError.{StoreError}
use Rattle.site_store.specs.declared.store_error.StoreError.TheVariants.{Fault}
use Rattle.crash_plant.specs.Moments.{PlantState}
use Rattle.xrc_journal.specs.declared.journal.AppendError.{AppendError}
use Rattle.xrc_journal.specs.declared.journal.AppendError.TheVariants.{Fault as FaultOf}
use Rattle.xrc_journal.specs.Appending.{GrowCause}
use Rattle.site_store.specs.Causes.{HasStoreCause}
use Rattle.site_store.specs.Records.{IsStore}

fault_named : (d e : Device) → (let a : Result (Unit {0}) StoreError = Err (Fault d) in let b : Result (Unit {0}) StoreError = Err (Fault e) in a ≡ b) → e ≡ d
fault_named d e same = cc

-- A journal whose count rose alone is named.
pub journal_fault : (set : ℕ) (before now : Device → ℕ) → Rose (before (Journal set)) (now (Journal set)) → ((d : Device) → ¬ (d ≡ Journal set) → now d ≡ before d) → HasStoreCause before now (Err (Fault (Journal set)))
journal_fault set before now rose others = record {
  counts = record {
    fault = λ d named. subst (λ (e : Device). IsStore e × Rose (before e) (now e)) (sym (fault_named (Journal set) d named)) (tt, rose);
    others = λ d store not. others d (λ is. not (ap (λ (e : Device). Err (Fault e)) (sym is)));
  };
  memory = λ e. cc e;
}

-- So it is where calls worked on this journal alone.
pub one_journal_fault : (at set : ℕ) (before now : Device → ℕ) → (let j : Device = Journal set in j ≡ Journal at) → Rose (before (Journal set)) (now (Journal set)) → ((d : Device) → ¬ (d ≡ Journal at) → now d ≡ before d) → HasStoreCause before now (Err (Fault (Journal set)))
one_journal_fault at set before now same rose others = journal_fault set before now rose (λ d not. others d (λ is. not (is ∙ sym same)))

-- What has room isn't full.
pub not_full : (needed size : ℕ) → needed ≤ size → size < needed → ⊥
not_full needed size room full = omega (arith, room, full)

named_set : (set j : ℕ) → (let a : Result (Unit {0}) AppendError = Err (FaultOf set) in let b : Result (Unit {0}) AppendError = Err (FaultOf j) in a ≡ b) → j ≡ set
named_set set j same = cc

-- A switch names the journal whose count rose, and no other count rises.
pub switch_fault : (among : Device → Type 0) (old new : PlantState) (set : ℕ) (result : Result (Unit {0}) AppendError) → result ≡ Err (FaultOf set) → GrowCause among old new result → HasStoreCause old.faults new.faults (Err (Fault (Journal set)))
switch_fault among old new set result is cause =
    journal_fault set old.faults new.faults (cause.fault set is).1 (λ d not. cause.others d (λ j named same. not (same ∙ ap Journal (named_set set j (sym is ∙ named)))))
