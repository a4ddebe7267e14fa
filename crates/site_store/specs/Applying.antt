-- The last group applied to the volumes for which its items wait.
use Rattle.std.specs.Prelude.{◌≡◌, ℕ, ◌<◌, ◌&&◌, ◌||◌, not, List, [], length, map, slice_index_or, Bool, true, false}
use Rattle.crash_plant.specs.declared.device.Device.TheVariants.{Volume}
use Rattle.crash_plant.specs.Choices.{AllFollow, Choice}
use Rattle.crash_plant.specs.Moments.{Follows, PlantState, Stays, on}
use Rattle.xrc_journal.specs.Bodies.{have_image}
use Rattle.xrc_journal.specs.Items.{Item}
use Rattle.xrc_journal.specs.declared.job.VolumeJob.{VolumeJob}
use Rattle.xrc_journal.specs.Jobs.{FailsByCount}
use Rattle.applier.specs.Slots.{DiffersInSlots, HoldsContent}
use Rattle.site_means.specs.Sight.{means_of, content_of}
use Rattle.site_store.specs.Jobs.{has_device, has_job_failed}
use Rattle.site_store.specs.Sites.{SiteState, has_failed, is_written}
use Rattle.site_store.specs.Standing.{none_excepted}
use Rattle.site_store.specs.DoneDeeds.{DoesDeeds}
use Rattle.site_store.specs.Exceptions.{Exceptions}

-- on each volume of the plant the same content
abbrev pub SameContent : PlantState → Choice → Choice → Type 0
SameContent plant b c = (d x : ℕ) → d < plant.volumes → content_of plant c d x ≡ content_of plant b d x

-- The meaning and the content are the same.
pub record SeesTheSame (plant : PlantState) (b c : Choice) : Type 0 where
  pub means : means_of plant c ≡ means_of plant b
  pub content : SameContent plant b c

-- whether the waiting items are applied to a volume: one of them is of it, and its job hasn't failed
abbrev pub is_applied : SiteState → (device : ℕ) → Bool
is_applied site device = not (has_failed site device) && has_device device site.waiting

-- A volume to which nothing is applied isn't called, and its job is as before. Of the others a job fails exactly by its volume's count,
-- and one that hasn't failed has what the items leave. Nothing outside the slots of the items' tracks changes, at any moment.
pub record AppliesToVolume (tells : Type 0) (items : List Item) (applies was is : Bool) (d : ℕ) (old new : PlantState) : Type 0 where
  pub stays : applies ≡ false → tells → Stays (on old (Volume d)) (on new (Volume d))
  pub same_count : applies ≡ false → new.faults (Volume d) ≡ old.faults (Volume d)
  pub same_job : applies ≡ false → is ≡ was
  pub count : applies ≡ true → FailsByCount is (old.faults (Volume d)) (new.faults (Volume d))
  pub content : tells → applies ≡ true → is ≡ false → HoldsContent d items (old.bytes (Volume d)) (new.bytes (Volume d))
  pub slots : tells → DiffersInSlots d items (old.bytes (Volume d)) (new.bytes (Volume d))
  pub moments : tells → Follows (DiffersInSlots d items) (on old (Volume d)) (on new (Volume d))

-- The same of the volume of each job for which items are due.
abbrev pub AppliesToJobs : {V : Type 0} → (tells : Type 0) → List Item → (due : List Bool) → (was is : List (VolumeJob V))
    → (old new : PlantState) → Type 0
AppliesToJobs tells items due was is old new = (d : ℕ) → d < length was → let had_failed = slice_index_or (map has_job_failed was) d false in
    AppliesToVolume tells items (not had_failed && slice_index_or due d false) had_failed (slice_index_or (map has_job_failed is) d false) d old new

-- The volumes that are written, with those for which items are due and whose job hasn't failed.
abbrev pub AreNoted : {V : Type 0} → (due : List Bool) → List (VolumeJob V) → (old new : List Bool) → Type 0
AreNoted due jobs old new = (d : ℕ) → d < length old → let failed = slice_index_or (map has_job_failed jobs) d false in
    slice_index_or new d false ≡ (slice_index_or old d false || (not failed && slice_index_or due d false))

pub record AppliesTo (tells : Type 0) (site next : SiteState) (d : ℕ) (old new : PlantState) : Type 0 where
  pub volume : AppliesToVolume tells site.waiting (is_applied site d) (has_failed site d) (has_failed next d) d old new
  pub written : is_written next d ≡ (is_written site d || is_applied site d)

-- the site with no items waiting, where these jobs have failed and these volumes are written
abbrev pub with_applied : (failed written : List Bool) → SiteState → SiteState
with_applied failed written site = record site { waiting = []; failed = failed; written = written }

pub record Applies (tells : Type 0) (site next : SiteState) (old new : PlantState) : Type 0 where
  pub next_is : next ≡ with_applied next.failed next.written site
  pub volumes : (d : ℕ) → d < old.volumes → AppliesTo tells site next d old new

-- At every moment the same is seen.
pub record DoesApply (site : SiteState) (old new : PlantState) : Type 0 where
  pub same : AllFollow (SeesTheSame old) old new
  pub does : DoesDeeds none_excepted site.told [] old new

-- A track of which an image waited isn't excepted after it.
abbrev pub excepted_by_apply : SiteState → Exceptions → Exceptions
excepted_by_apply site excepted d x = excepted d x && not (have_image site.waiting d x)
