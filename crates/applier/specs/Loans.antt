-- Volumes that are lent to jobs.
use Rattle.std.specs.Prelude.{◌≡◌, ℕ, ◌+◌, ◌<◌, ◌≤◌, Bool, true, ◌&&◌, not, List, length, slice_index_or, is_some}
use Rattle.crash_plant.specs.declared.device.Device.{Device}
use Rattle.crash_plant.specs.declared.device.Device.TheVariants.{Volume}
use Rattle.crash_plant.specs.Moments.{Standing, PlantState, on, GoesOn, SamePast, Stays}
use Rattle.crash_plant.specs.Calls.{NoneLent, SameSite, SameLoan, Silent}
use Rattle.xrc_journal.specs.declared.job.VolumeJob.{VolumeJob}
use Rattle.applier.specs.Disks.{OnDisks, AreApart, IsLentTo}

-- The job has its volume's disk where this is wanted and the job hasn't failed. Nothing else of it changes.
pub record LendsWhere {D : Type 0} (wanted : Bool) (old new : VolumeJob D) : Type 0 where
  pub device : new.device ≡ old.device
  pub slot : new.slot ≡ old.slot
  pub failed : new.failed ≡ old.failed
  pub disk : is_some new.disk ≡ (wanted && not old.failed)

-- Calls were made on a disk, or none.
pub record WorkedOn (own : Type 0) (old new : Standing) : Type 0 where
  pub past : own → SamePast old new
  pub length_is : new.length_is ≡ old.length_is
  pub faults : old.faults ≤ new.faults

-- Calls were made on the disks of jobs. The jobs may have changed else, but stand for the same volumes.
pub record AreWorkedOn (own : Type 0) {D : Type 0} (state : D → Standing) (old new : List (VolumeJob D)) : Type 0 where
  pub same : length new ≡ length old
  pub devices : (i : ℕ) (d : VolumeJob D) → i < length old → (slice_index_or new i d).device ≡ (slice_index_or old i d).device
  pub disks : (i : ℕ) (d : VolumeJob D) → i < length old → OnDisks (λ was is. WorkedOn own (state was) (state is)) (slice_index_or old i d).disk (slice_index_or new i d).disk

-- A disk is a volume of a plant as it was lent.
pub record IsLentFrom (tells : Type 0) (start : PlantState) (v : ℕ) (lent : Standing) : Type 0 where
  pub there : v < start.volumes
  pub length_is : lent.length_is ≡ start.lengths (Volume v)
  pub faults : lent.faults ≡ start.faults (Volume v)
  pub bytes : tells → lent.bytes ≡ start.bytes (Volume v)
  -- The disk of a plant that keeps its past keeps its own.
  pub keeps_past : tells → 0 < start.clock → 0 < lent.clock
  pub images : tells → (c : List ℕ) → lent.images lent.clock c → start.images start.clock (Volume v) c
  pub images_all : tells → (c : List ℕ) → start.images start.clock (Volume v) c → lent.images lent.clock c

-- A volume is lent: at some moment since the start, up to which it stood as it did at the start.
pub record IsOut (tells : Type 0) (start plant : PlantState) (v : ℕ) (lent : Standing) : Type 0 where
  pub from : IsLentFrom tells start v lent
  pub there : v < plant.volumes
  pub is_lent : plant.is_lent v ≡ true
  pub since : tells → start.clock < plant.lent_since v
  pub since_now : tells → plant.lent_since v ≤ plant.clock + 1
  pub past : tells → SamePast (plant.lent v) lent
  pub clock : (plant.lent v).clock ≡ lent.clock
  pub same_length : plant.lengths (Volume v) ≡ start.lengths (Volume v)
  pub same_faults : plant.faults (Volume v) ≡ start.faults (Volume v)
  pub kept : tells → SamePast (on start (Volume v)) (on plant (Volume v))
  pub before : tells → (t : ℕ) → 0 < start.clock → start.clock ≤ t → t < plant.lent_since v → t ≤ plant.clock → (c : List ℕ) → plant.images t (Volume v) c → start.images start.clock (Volume v) c
  pub before_all : tells → (t : ℕ) → 0 < start.clock → start.clock ≤ t → t < plant.lent_since v → t ≤ plant.clock → (c : List ℕ) → start.images start.clock (Volume v) c → plant.images t (Volume v) c

-- what lending volumes and taking them back leaves as it was
pub record LeavesBut (tells : Type 0) (among : Device → Type 0) (old new : PlantState) : Type 0 where
  pub site : SameSite old new
  pub loans : (v : ℕ) → ¬ among (Volume v) → SameLoan v old new
  pub goes_on : tells → GoesOn old.clock new.clock
  pub heard : tells → (t : ℕ) → 0 < old.clock → t ≤ old.clock → new.heard t ≡ old.heard t
  pub said : tells → (t : ℕ) → 0 < old.clock → t ≤ old.clock → new.said t ≡ old.said t
  pub kept : tells → (d : Device) → ¬ among d → SamePast (on old d) (on new d)
  pub silent : tells → Silent old new
  pub others : tells → (d : Device) → ¬ among d → Stays (on old d) (on new d)
  pub others_faults : (d : Device) → ¬ among d → new.faults d ≡ old.faults d
  pub console_faults : new.console_faults ≡ old.console_faults

-- A job's disk is its volume as it was lent, and was worked on since.
pub record HoldsVolume (tells own : Type 0) {D : Type 0} (state : D → Standing) (start plant : PlantState) (v : ℕ) (lent now : D) : Type 0 where
  pub tells_own : tells → own
  pub out : IsOut tells start plant v (state lent)
  pub worked : WorkedOn own (state lent) (state now)

-- From the start, at which no volume was lent, those volumes were lent to jobs whose disks the jobs have now. The first list
-- has the disks as they were lent, the second as they are now.
pub record AreOut (tells own : Type 0) {D : Type 0} (state : D → Standing) (start plant : PlantState) (lent now : List (VolumeJob D)) : Type 0 where
  pub home : NoneLent start
  pub apart : AreApart now
  pub same : length lent ≡ length now
  pub devices : (i : ℕ) (d : VolumeJob D) → i < length now → (slice_index_or lent i d).device ≡ (slice_index_or now i d).device
  pub disks : (i : ℕ) (d : VolumeJob D) → i < length now → OnDisks (HoldsVolume tells own state start plant (slice_index_or now i d).device) (slice_index_or lent i d).disk (slice_index_or now i d).disk
  pub others : LeavesBut tells (IsLentTo now) start plant
