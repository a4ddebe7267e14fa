-- Jobs that are done one after another: what they leave of the devices, and which counts rise.
use Rattle.std.specs.Prelude.{◌≡◌, ◌≢◌, ◌≤◌, ◌<◌, ◌⊎◌, ◌+◌, ◌&&◌, not, ℕ, List, Bool, true, false, Option, Some, slice_get}
use Rattle.xrc_edge.specs.Causes.{Rose}
use Rattle.ckd_track.specs.declared.rec.Rec.{Rec}
use Rattle.copy_progress.specs.Copies.{done}
use Rattle.crash_plant.specs.declared.device.Device.{Device}
use Rattle.crash_plant.specs.declared.device.Device.TheVariants.{Control, State, Journal, Volume}
use Rattle.crash_plant.specs.Moments.{PlantState, IsDurable, on}
use Rattle.pair_table.specs.Devices.{is_among}
use Rattle.volume_copy.specs.declared.copy_job.CopyJob.{CopyJob}
use Rattle.volume_copy.specs.Copying.{IsCopyReady}
use Rattle.volume_copy.specs.Targets.{CopiesTo}

-- Each job is ready. No two have one source or one target, and no source is a target.
pub record AreJobsReady (plant : PlantState) (jobs : List CopyJob) : Type 0 where
  pub each : (k : ℕ) (j : CopyJob) → slice_get jobs k ≡ Some j → IsCopyReady plant j
  pub sources : (i k : ℕ) (p j : CopyJob) → i < k → slice_get jobs i ≡ Some p → slice_get jobs k ≡ Some j → p.source ≢ j.source
  pub targets : (i k : ℕ) (p j : CopyJob) → i < k → slice_get jobs i ≡ Some p → slice_get jobs k ≡ Some j → p.target ≢ j.target
  pub others : (i k : ℕ) (p j : CopyJob) → slice_get jobs i ≡ Some p → slice_get jobs k ≡ Some j → p.source ≢ j.target

-- The target of a job whose source didn't fail before comes from one image to another by the content of the source's tracks. All else stays.
abbrev pub CopiesJobs : (failed : List ℕ) → List CopyJob → (content : ℕ → ℕ → Option (List Rec)) → Device → List ℕ → List ℕ → Type 0
CopiesJobs failed jobs content (Volume v) b c = ((k : ℕ) (j : CopyJob) → slice_get jobs k ≡ Some j → j.target ≡ v → is_among j.source failed ≡ false → CopiesTo j.claim (content j.source) b c)
    × (((k : ℕ) (j : CopyJob) → slice_get jobs k ≡ Some j → j.target ≡ v → is_among j.source failed ≡ true) → c ≡ b)
CopiesJobs failed jobs content Control b c = c ≡ b
CopiesJobs failed jobs content State b c = c ≡ b
CopiesJobs failed jobs content (Journal j) b c = c ≡ b

-- One of two failed, by its count, or neither did. Neither's count rises by more than one.
pub record FailsByCounts (failed : Bool) (source source_now target target_now : ℕ) : Type 0 where
  pub source_later : source ≤ source_now
  pub source_once : source_now ≤ source + 1
  pub target_later : target ≤ target_now
  pub target_once : target_now ≤ target + 1
  pub same : failed ≡ false → (source_now ≡ source) × (target_now ≡ target)
  pub rose : failed ≡ true → Rose source source_now ⊎ Rose target target_now

-- the same of two volumes
abbrev pub FailsByEither : (failed : Bool) → (source target : ℕ) → (old new : Device → ℕ) → Type 0
FailsByEither failed source target old new = FailsByCounts failed (old (Volume source)) (new (Volume source)) (old (Volume target)) (new (Volume target))

-- A job is copied: all its tracks are done on its target, in every image.
pub record IsJobDone (plant : PlantState) (j : CopyJob) : Type 0 where
  pub all_done : done j.claim (plant.bytes (Volume j.target)) ≡ j.claim.tracks
  pub durable : IsDurable (on plant (Volume j.target))

-- The sources that are listed are those of jobs that are copied. Of the other jobs the source failed before, or a count rose.
pub record EndsJobs (tells : Type 0) (jobs : List CopyJob) (failed listed : List ℕ) (old new : PlantState) : Type 0 where
  pub of_jobs : (v : ℕ) → is_among v listed ≡ true → (k : ℕ) × (j : CopyJob) × (slice_get jobs k ≡ Some j) × (j.source ≡ v) × (is_among v failed ≡ false)
  pub are_done : tells → (k : ℕ) (j : CopyJob) → slice_get jobs k ≡ Some j → is_among j.source listed ≡ true → IsJobDone new j
  pub counted : (k : ℕ) (j : CopyJob) → slice_get jobs k ≡ Some j → FailsByEither (not (is_among j.source failed) && not (is_among j.source listed)) j.source j.target old.faults new.faults
  pub spared : (d : Device) → ((k : ℕ) (j : CopyJob) → slice_get jobs k ≡ Some j → (d ≢ Volume j.source) × (d ≢ Volume j.target)) → new.faults d ≡ old.faults d
