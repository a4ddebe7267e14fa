-- Jobs and the disks that they have.
use Rattle.std.specs.Prelude.{◌≡◌, ◌≢◌, ◌<◌, ℕ, List, length, slice_index_or, Option, Some, None, IsSome}
use Rattle.std.specs.List.{IsAmong}
use Rattle.crash_plant.specs.declared.device.Device.{Device}
use Rattle.crash_plant.specs.declared.device.Device.TheVariants.{Volume}
use Rattle.xrc_journal.specs.declared.job.VolumeJob.{VolumeJob}

-- a job with this disk, or with none
abbrev pub with_disk : {D : Type 0} → Option D → VolumeJob D → VolumeJob D
with_disk disk job = record job { disk = disk }

abbrev pub without_disk : {D : Type 0} → VolumeJob D → VolumeJob D
without_disk job = with_disk None job

-- This holds of a job's disk before and after; or the job has none, before and after.
abbrev pub OnDisks : {D : Type 0} → (D → D → Type 0) → Option D → Option D → Type 0
OnDisks holds (Some old) (Some new) = holds old new
OnDisks holds None None = Unit {0}
OnDisks holds (Some old) None = ⊥
OnDisks holds None (Some new) = ⊥

-- no two jobs have one volume
abbrev pub AreApart : {D : Type 0} → List (VolumeJob D) → Type 0
AreApart {D} jobs = (i j : ℕ) (d : VolumeJob D) → i < j → j < length jobs → (slice_index_or jobs i d).device ≢ (slice_index_or jobs j d).device

-- the device is the volume of a job that has its disk
abbrev pub IsLentTo : {D : Type 0} → List (VolumeJob D) → Device → Type 0
IsLentTo {D} jobs device = (job : VolumeJob D) × IsAmong jobs job × IsSome job.disk × (device ≡ Volume job.device)

-- Each job's device is above those of the jobs before.
abbrev pub AreRising : {D : Type 0} → List (VolumeJob D) → Type 0
AreRising {D} jobs = (i j : ℕ) (d : VolumeJob D) → i < j → j < length jobs → (slice_index_or jobs i d).device < (slice_index_or jobs j d).device
