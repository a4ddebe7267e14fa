-- What work on jobs, side by side, leaves of each of them.
use Rattle.std.specs.Prelude.{◌≡◌, ℕ, ◌&&◌, ◌<◌, not, Bool, true, false, List, length, slice_index_or, None, is_some}
use Rattle.crash_plant.specs.Moments.{Standing, Follows, SamePast, Same, IsDurable, Raises}
use Rattle.xrc_journal.specs.declared.job.VolumeJob.{VolumeJob}
use Rattle.xrc_journal.specs.Items.{Item}
use Rattle.xrc_journal.specs.Contents.{HasItem}
use Rattle.xrc_journal.specs.Jobs.{FailsByCount, OnVolume}
use Rattle.applier.specs.Slots.{DiffersInSlots, HoldsContent}
use Rattle.applier.specs.Jobs.{HasSlots, StopsAtItem}

-- whether there is work on a job: it has its volume's disk, and hasn't failed
abbrev pub has_work : {D : Type 0} → VolumeJob D → Bool
has_work job = is_some job.disk && not job.failed

-- A job that hasn't failed has its disk where an item is of its device, and the slots of these items' tracks lie in the disk.
abbrev pub HasItsSlots : {D : Type 0} (state : D → Standing) → List Item → VolumeJob D → Type 0
HasItsSlots state items job = job.failed ≡ false → HasSlots state job.device items job.disk

-- The items were applied to one job's volume, or a write failed. A job that failed before, or has no disk, is as it was.
pub record AppliesToJob {D : Type 0} (state : D → Standing) (tells : Type 0) (items : List Item) (old new : VolumeJob D) : Type 0 where
  pub device : new.device ≡ old.device
  pub left_alone : old.failed ≡ true → new ≡ old
  pub without_disk : old.disk ≡ None → new ≡ old
  pub no_item : ((x : ℕ) → ¬ HasItem old.device x items) → (new.disk ≡ old.disk) × (new.failed ≡ old.failed)
  pub cause : old.failed ≡ false → OnVolume state (λ was is. FailsByCount new.failed was.faults is.faults) old.disk new.disk
  pub length_is : OnVolume state (λ was is. is.length_is ≡ was.length_is) old.disk new.disk
  pub past : tells → OnVolume state SamePast old.disk new.disk
  pub moments : tells → OnVolume state (Follows (DiffersInSlots old.device items)) old.disk new.disk
  pub bytes : tells → OnVolume state (λ was is. DiffersInSlots old.device items was.bytes is.bytes) old.disk new.disk
  pub content : tells → new.failed ≡ false → OnVolume state (λ was is. HoldsContent old.device items was.bytes is.bytes) old.disk new.disk
  pub stops : tells → old.failed ≡ false → new.failed ≡ true → OnVolume state (StopsAtItem old.device items) old.disk new.disk

-- A volume was synced, or the sync failed.
pub record SyncsVolume (tells : Type 0) (failed : Bool) (old new : Standing) : Type 0 where
  pub cause : FailsByCount failed old.faults new.faults
  pub length_is : new.length_is ≡ old.length_is
  pub durable : tells → failed ≡ false → IsDurable new
  pub clock : tells → failed ≡ false → Raises old.clock new.clock
  pub bytes : tells → new.bytes ≡ old.bytes
  pub past : tells → SamePast old new
  pub moments : tells → Follows Same old new

-- One job's volume was synced, or its sync failed. A job that failed before, or has no disk, is as it was.
pub record SyncsJob {D : Type 0} (state : D → Standing) (tells : Type 0) (old new : VolumeJob D) : Type 0 where
  pub device : new.device ≡ old.device
  pub slot : new.slot ≡ old.slot
  pub left_alone : old.failed ≡ true → new ≡ old
  pub without_disk : old.disk ≡ None → new ≡ old
  pub synced : old.failed ≡ false → OnVolume state (SyncsVolume tells new.failed) old.disk new.disk

-- This holds of each job before and after, and there are no others.
pub record HoldsOfEach {D : Type 0} (holds : VolumeJob D → VolumeJob D → Type 0) (old new : List (VolumeJob D)) : Type 0 where
  pub same : length new ≡ length old
  pub each : (i : ℕ) (d : VolumeJob D) → i < length old → holds (slice_index_or old i d) (slice_index_or new i d)
