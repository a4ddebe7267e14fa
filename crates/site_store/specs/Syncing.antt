-- What syncs of volumes leave of their jobs.
use Rattle.std.specs.Prelude.{◌≡◌, ℕ, List, map, Bool, true, false, slice_index_or}
use Rattle.crash_plant.specs.declared.device.Device.{Device}
use Rattle.crash_plant.specs.declared.device.Device.TheVariants.{Volume}
use Rattle.crash_plant.specs.Moments.{IsDurable, PlantState, on}
use Rattle.xrc_journal.specs.declared.job.VolumeJob.{VolumeJob}
use Rattle.site_store.specs.Causes.{FailByCounts, FailsAlone}
use Rattle.site_store.specs.Jobs.{has_job_failed}

-- A job fails by the count of its volume, or had failed.
abbrev pub JobFailsAlone : {V : Type 0} → (old new : VolumeJob V) → (before now : Device → ℕ) → Type 0
JobFailsAlone old new before now = FailsAlone old.failed new.failed (before (Volume old.device)) (now (Volume old.device))

-- The same of each job.
abbrev pub JobsFail : {V : Type 0} → (old new : List (VolumeJob V)) → (before now : Device → ℕ) → Type 0
JobsFail old new before now = FailByCounts (map has_job_failed old) (map has_job_failed new) before now

-- The volumes that were written are durable, but for those whose job has failed.
abbrev pub AreSynced : {V : Type 0} → (tells : Type 0) → (written : List Bool) → List (VolumeJob V) → PlantState → Type 0
AreSynced tells written jobs plant = tells → (d : ℕ) → slice_index_or written d false ≡ true
    → slice_index_or (map has_job_failed jobs) d false ≡ false → IsDurable (on plant (Volume d))
