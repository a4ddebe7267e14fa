-- Volumes that were lent to jobs and are back.
use Rattle.std.specs.Prelude.{◌≡◌, ◌⊎◌, ℕ, ◌<◌, ◌≤◌, true, false, List, length, slice_index_or}
use Rattle.crash_plant.specs.declared.device.Device.{Device}
use Rattle.crash_plant.specs.declared.device.Device.TheVariants.{Volume}
use Rattle.crash_plant.specs.Moments.{Standing, PlantState, on, SamePast, Follows, Same, Stays, OwnImage}
use Rattle.crash_plant.specs.Calls.{SameSite, SameLoan, Elapses, Silent}
use Rattle.xrc_journal.specs.declared.job.VolumeJob.{VolumeJob}
use Rattle.applier.specs.Disks.{OnDisks, IsLentTo}
use Rattle.applier.specs.Loans.{IsLentFrom}

-- A volume that was lent since the start is back. At every moment a crash leaves on it what it could at the start, or what it
-- could on the disk at one of the disk's own moments; and now what it can leave on the disk now.
pub record IsBack (tells : Type 0) (start now : PlantState) (v : ℕ) (lent given : Standing) : Type 0 where
  pub from : IsLentFrom tells start v lent
  pub is_back : now.is_lent v ≡ false
  pub faults : now.faults (Volume v) ≡ given.faults
  pub later : lent.faults ≤ given.faults
  pub bytes : tells → now.bytes (Volume v) ≡ given.bytes
  pub kept : tells → SamePast (on start (Volume v)) (on now (Volume v))
  pub images : tells → (t : ℕ) → start.clock ≤ t → t ≤ now.clock → (c : List ℕ) → now.images t (Volume v) c → start.images start.clock (Volume v) c ⊎ OwnImage lent.clock given c
  pub last : tells → (c : List ℕ) → now.images now.clock (Volume v) c → given.images given.clock c
  pub last_all : tells → (c : List ℕ) → given.images given.clock c → now.images now.clock (Volume v) c
  -- Where the disk has moments of its own since it was lent, the plant has one at which each of its own images may be left.
  pub has_moment : tells → lent.clock < given.clock → (t : ℕ) × (start.clock < t) × (t < now.clock) × ((c : List ℕ) → OwnImage lent.clock given c → now.images t (Volume v) c)

-- Calls work on some devices alone. Volumes among these may be lent and given back by them.
pub record WorksOnLent (tells : Type 0) (among : Device → Type 0) (old new : PlantState) : Type 0 where
  pub site : SameSite old new
  pub is_lent : (v : ℕ) → new.is_lent v ≡ old.is_lent v
  pub loans : (v : ℕ) → old.is_lent v ≡ true → SameLoan v old new
  pub elapses : tells → Elapses old new
  pub silent : tells → Silent old new
  pub others : tells → (d : Device) → ¬ among d → Stays (on old d) (on new d)
  pub others_faults : (d : Device) → ¬ among d → new.faults d ≡ old.faults d
  pub console_faults : new.console_faults ≡ old.console_faults
  pub faults : (d : Device) → old.faults d ≤ new.faults d

-- The volumes that were lent to jobs are back as the second list has their disks.
pub record AreBack (tells : Type 0) {D : Type 0} (state : D → Standing) (start now : PlantState) (lent given : List (VolumeJob D)) : Type 0 where
  pub disks : (i : ℕ) (d : VolumeJob D) → i < length given → OnDisks (λ was is. IsBack tells start now (slice_index_or given i d).device (state was) (state is)) (slice_index_or lent i d).disk (slice_index_or given i d).disk
  pub works : WorksOnLent tells (IsLentTo given) start now

-- Each disk was only read.
pub record AreRead (own : Type 0) {D : Type 0} (state : D → Standing) (old new : List (VolumeJob D)) : Type 0 where
  pub moments : own → (i : ℕ) (d : VolumeJob D) → i < length new → OnDisks (λ was is. Follows Same (state was) (state is)) (slice_index_or old i d).disk (slice_index_or new i d).disk
  pub bytes : own → (i : ℕ) (d : VolumeJob D) → i < length new → OnDisks (λ was is. (state is).bytes ≡ (state was).bytes) (slice_index_or old i d).disk (slice_index_or new i d).disk

-- Some devices were only read, and nothing was done to the others.
pub record OnlyReads (tells : Type 0) (old new : PlantState) : Type 0 where
  pub bytes : tells → (d : Device) → new.bytes d ≡ old.bytes d
  pub moments : tells → (d : Device) → Follows Same (on old d) (on new d)
