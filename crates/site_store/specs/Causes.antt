-- Why a site's call fails, and which jobs fail in it.
use Rattle.std.specs.Prelude.{◌≡◌, ℕ, ◌<◌, List, length, Bool, true, false, slice_index_or, Result, IsErrOf}
use Rattle.xrc_edge.specs.Causes.{Rose}
use Rattle.crash_plant.specs.declared.device.Device.{Device}
use Rattle.crash_plant.specs.declared.device.Device.TheVariants.{Volume}
use Rattle.xrc_journal.specs.Jobs.{FailsByCount}
use Rattle.site_store.specs.declared.store_error.StoreError.{StoreError}
use Rattle.site_store.specs.declared.store_error.StoreError.TheVariants.{Fault, NoMemory}
use Rattle.site_store.specs.Records.{IsStore}

-- A fault is one of the control, the state or a journal, whose count rose; and no count of these rises with another answer.
pub record FaultsByCount {T : Type 0} (before now : Device → ℕ) (result : Result T StoreError) : Type 0 where
  pub fault : (d : Device) → IsErrOf result (Fault d) → IsStore d × Rose (before d) (now d)
  pub others : (d : Device) → IsStore d → ¬ IsErrOf result (Fault d) → now d ≡ before d

-- The same of a call that takes no memory.
pub record HasStoreCause (before now : Device → ℕ) (result : Result (Unit {0}) StoreError) : Type 0 where
  pub counts : FaultsByCount before now result
  pub memory : ¬ IsErrOf result NoMemory

-- A job had failed and its volume is left alone, or it fails where the volume's count rises, by one.
pub record FailsAlone (was is : Bool) (before now : ℕ) : Type 0 where
  pub alone : was ≡ true → (is ≡ true) × (now ≡ before)
  pub by_count : was ≡ false → FailsByCount is before now

-- The same of each volume.
pub record FailByCounts (old new : List Bool) (before now : Device → ℕ) : Type 0 where
  pub size : length new ≡ length old
  pub alone : (d : ℕ) → d < length old → slice_index_or old d false ≡ true → (slice_index_or new d false ≡ true) × (now (Volume d) ≡ before (Volume d))
  pub by_count : (d : ℕ) → d < length old → slice_index_or old d false ≡ false → FailsByCount (slice_index_or new d false) (before (Volume d)) (now (Volume d))
