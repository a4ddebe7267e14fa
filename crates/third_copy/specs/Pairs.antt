-- What is to be copied of duplex pairs, and what copies leave of the devices of a plant.
use Rattle.std.specs.Prelude.{◌≡◌, ◌≢◌, ◌≤◌, ◌<◌, ◌⊎◌, ◌+◌, ◌-◌, ◌*◌, ◌^◌, ℕ, List, [], length, true, Contains, Some, slice_get, vec_capacity}
use Rattle.xrc_edge.specs.Causes.{Rose}
use Rattle.xrc_edge.specs.declared.limits.TheConstants.{TRACKS_OF_CYLINDER}
use Rattle.copy_progress.specs.declared.claim.Claim.{Claim}
use Rattle.copy_progress.specs.Copies.{done}
use Rattle.crash_plant.specs.declared.device.Device.{Device}
use Rattle.crash_plant.specs.declared.device.Device.TheVariants.{Volume}
use Rattle.crash_plant.specs.Moments.{PlantState, IsDurable, on}
use Rattle.pair_table.specs.declared.row.PairRow.{PairRow}
use Rattle.pair_table.specs.States.{is_duplex}
use Rattle.pair_table.specs.Tables.{HasRow}
use Rattle.site_means.specs.declared.means.Means.{Means}
use Rattle.volume_copy.specs.declared.copy_job.CopyJob.{CopyJob}
use Rattle.third_copy.specs.declared.tools.CopyTools.{CopyTools}
use Rattle.third_copy.specs.Targets.{HasTarget, IsTargetFound, IsWithoutTarget, target_of}

-- ---- one pair

-- A duplex pair is among the rows.
pub record IsPair (rows : List PairRow) (r : PairRow) : Type 0 where
  pub among : Contains rows r
  pub duplex : is_duplex r.state ≡ true

-- what is to be copied of a pair at the time that a site means
abbrev pub claim_of : Means → PairRow → Claim
claim_of means r = record { session = means.session; time = means.time; primary = r.primary; tracks = TRACKS_OF_CYLINDER * r.cylinders }

-- from its volume to its target
abbrev pub job_of : Means → (shift : ℕ) → PairRow → CopyJob
job_of means shift r = record { source = r.device; target = target_of shift r; claim = claim_of means r }

-- A device is the target of a pair.
abbrev pub IsTargetOf : List PairRow → (shift : ℕ) → PairRow → (v : ℕ) → Type 0
IsTargetOf rows shift r v = IsPair rows r × (target_of shift r ≡ v)

-- It is, and it is found by what reads give.
abbrev pub IsFoundOf : PlantState → List PairRow → (shift : ℕ) → PairRow → (v : ℕ) → Type 0
IsFoundOf plant rows shift r v = IsTargetOf rows shift r v × IsTargetFound plant rows shift r

-- ---- pairs without a target

-- A count has risen by now, or stands at its end.
abbrev pub HasCountRisen : (before now : ℕ) → Type 0
HasCountRisen before now = (before < now) ⊎ (2 ^ 64 - 1 ≤ now)

-- A pair's target is a volume that no row has, and the count of that volume has risen.
pub record IsTargetUnread (old new : PlantState) (rows : List PairRow) (shift : ℕ) (r : PairRow) : Type 0 where
  pub there : target_of shift r < old.volumes
  pub free : ¬ HasRow (target_of shift r) rows
  pub risen : HasCountRisen (old.faults (Volume (target_of shift r))) (new.faults (Volume (target_of shift r)))

-- A pair doesn't lack a target by what reads give, or its target could not be read.
abbrev pub NeedsNone : (old new : PlantState) → List PairRow → (shift : ℕ) → PairRow → Type 0
NeedsNone old new rows shift r = (¬ IsWithoutTarget old rows shift r) ⊎ IsTargetUnread old new rows shift r

-- The volume of the first duplex pair that lacks a target is this device.
pub record IsFirstWithout (old new : PlantState) (rows : List PairRow) (shift device : ℕ) : Type 0 where
  pub place : ℕ
  pub row : PairRow
  pub at : slice_get rows place ≡ Some row
  pub duplex : is_duplex row.state ≡ true
  pub lacks : IsWithoutTarget old rows shift row
  pub device_is : row.device ≡ device
  pub before : (n : ℕ) (r : PairRow) → n < place → slice_get rows n ≡ Some r → is_duplex r.state ≡ true → NeedsNone old new rows shift r

-- There is none.
abbrev pub NoneIsWithout : (old new : PlantState) → List PairRow → (shift : ℕ) → Type 0
NoneIsWithout old new rows shift = (n : ℕ) (r : PairRow) → slice_get rows n ≡ Some r → is_duplex r.state ≡ true → NeedsNone old new rows shift r

-- Of counts only those of pairs' targets may rise, by one.
pub record CountsTargets (rows : List PairRow) (shift : ℕ) (old new : Device → ℕ) : Type 0 where
  pub later : (d : Device) → old d ≤ new d
  pub once : (d : Device) → new d ≤ old d + 1
  pub others : (d : Device) → ((r : PairRow) → IsPair rows r → d ≢ Volume (target_of shift r)) → new d ≡ old d

-- ---- jobs

-- A job is that of a pair that has a target.
pub record IsJob (means : Means) (shift : ℕ) (plant : PlantState) (j : CopyJob) : Type 0 where
  pub row : PairRow
  pub pair : IsPair means.table.rows row
  pub is : j ≡ job_of means shift row
  pub target : HasTarget plant means.table.rows shift row

-- Each is, and they are of different pairs. Each duplex pair has one, or it has none and the count of its target rose.
pub record AreJobs (means : Means) (shift : ℕ) (old new : PlantState) (jobs : List CopyJob) : Type 0 where
  pub each : (k : ℕ) (j : CopyJob) → slice_get jobs k ≡ Some j → IsJob means shift old j
  pub apart : (i k : ℕ) (p j : CopyJob) → i < k → slice_get jobs i ≡ Some p → slice_get jobs k ≡ Some j → p.source ≢ j.source
  pub has : (r : PairRow) → IsPair means.table.rows r → ((k : ℕ) × (slice_get jobs k ≡ Some (job_of means shift r)) × (new.faults (Volume (target_of shift r)) ≡ old.faults (Volume (target_of shift r)))) ⊎ (Rose (old.faults (Volume (target_of shift r))) (new.faults (Volume (target_of shift r))) × ((k : ℕ) (j : CopyJob) → slice_get jobs k ≡ Some j → j.source ≢ r.device) × (¬ HasRow (target_of shift r) means.table.rows))

-- By what reads give the target of each job's pair is found.
abbrev pub AreFound : Means → (shift : ℕ) → PlantState → List CopyJob → Type 0
AreFound means shift plant jobs = (k : ℕ) (j : CopyJob) → slice_get jobs k ≡ Some j → (r : PairRow) → IsPair means.table.rows r → j ≡ job_of means shift r → IsTargetFound plant means.table.rows shift r

-- the lists have a place for each row
pub record AreCopyToolsReady (rows : List PairRow) (tools : CopyTools) : Type 0 where
  pub jobs_empty : tools.jobs.items ≡ []
  pub jobs_places : length rows ≤ vec_capacity tools.jobs
  pub done_empty : tools.done.items ≡ []
  pub done_places : length rows ≤ vec_capacity tools.done
  pub failed_empty : tools.failed.items ≡ []
  pub failed_places : length rows ≤ vec_capacity tools.failed

-- ---- copies

-- All tracks of a pair are done on its target, in every image.
pub record IsCopied (means : Means) (shift : ℕ) (plant : PlantState) (r : PairRow) : Type 0 where
  pub all_done : done (claim_of means r) (plant.bytes (Volume (target_of shift r))) ≡ TRACKS_OF_CYLINDER * r.cylinders
  pub durable : IsDurable (on plant (Volume (target_of shift r)))
