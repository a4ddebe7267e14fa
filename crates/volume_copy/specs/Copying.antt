-- What calls that copy one volume to another leave of a plant.
use Rattle.std.specs.Prelude.{◌≡◌, ◌≢◌, ◌<◌, ◌≤◌, ◌*◌, ◌⊎◌, ℕ, List}
use Rattle.xrc_edge.specs.declared.limits.TheConstants.{TRACKS_OF_CYLINDER}
use Rattle.ckd_track.specs.SlotPlaces.{slot_place}
use Rattle.crash_plant.specs.declared.device.Device.{Device}
use Rattle.crash_plant.specs.declared.device.Device.TheVariants.{Volume}
use Rattle.crash_plant.specs.Moments.{PlantState, on, Follows, Same}
use Rattle.crash_plant.specs.Calls.{NoneLent, WorksOn}
use Rattle.volume_copy.specs.declared.copy_job.CopyJob.{CopyJob}

-- the devices of a copy
abbrev pub IsOfCopy : (source target : ℕ) → Device → Type 0
IsOfCopy source target d = (d ≡ Volume source) ⊎ (d ≡ Volume target)

-- No volume is lent. Source and target are two volumes with a slot for each track, and the tracks are those of whole cylinders.
pub record IsCopyReady (plant : PlantState) (job : CopyJob) : Type 0 where
  pub home : NoneLent plant
  pub source : job.source < plant.volumes
  pub target : job.target < plant.volumes
  pub apart : job.source ≢ job.target
  pub source_long : slot_place job.claim.tracks ≤ plant.lengths (Volume job.source)
  pub target_long : slot_place job.claim.tracks ≤ plant.lengths (Volume job.target)
  pub cylinders : ℕ
  pub whole : job.claim.tracks ≡ TRACKS_OF_CYLINDER * cylinders

-- The source is only read. What reads give of the target, and what a crash leaves of it, comes by this step from what it was before.
pub record WorksOnCopy (tells : Type 0) (source target : ℕ) (step : List ℕ → List ℕ → Type 0) (old new : PlantState) : Type 0 where
  pub only : WorksOn tells (IsOfCopy source target) old new
  pub source_bytes : tells → new.bytes (Volume source) ≡ old.bytes (Volume source)
  pub source_moments : tells → Follows Same (on old (Volume source)) (on new (Volume source))
  pub target_bytes : tells → step (old.bytes (Volume target)) (new.bytes (Volume target))
  pub target_moments : tells → Follows step (on old (Volume target)) (on new (Volume target))
