-- Volumes that are worked on side by side: which are left alone, and what becomes of the others.
use Rattle.std.specs.Prelude.{◌≡◌, ◌<◌, ◌≤◌, ℕ, List, [], All, Bool, true, false, None, length, map, slice_index_or, vec_capacity}
use Rattle.crash_plant.specs.declared.device.Device.{Device}
use Rattle.crash_plant.specs.declared.device.Device.TheVariants.{Control, State, Journal, Volume}
use Rattle.crash_plant.specs.Moments.{PlantState}
use Rattle.pair_table.specs.declared.row.PairRow.{PairRow}
use Rattle.xrc_journal.specs.declared.job.VolumeJob.{VolumeJob}
use Rattle.xrc_journal.specs.Items.{Item}
use Rattle.xrc_journal.specs.Jobs.{FailsByCount}
use Rattle.site_means.specs.Steps.{HoldsEveryBody}
use Rattle.xrc_journal.specs.Jobs.{has_job_failed}
use Rattle.applier.specs.Slots.{DiffersInSlots}
use Rattle.xrecover.specs.declared.sides.Tools.{Tools}
use Rattle.xrecover.specs.Pairs.{HasDuplex}
use Rattle.xrecover.specs.Works.{Works}

-- ---- jobs

-- whether a volume is left alone: its job is, or it has none
abbrev pub is_left : {V : Type 0} → List (VolumeJob V) → (volume : ℕ) → Bool
is_left jobs v = slice_index_or (map has_job_failed jobs) v true

-- Each job is that of the volume of its place, which isn't lent.
pub record AreHome {V : Type 0} (volumes : ℕ) (jobs : List (VolumeJob V)) : Type 0 where
  pub count : length jobs ≡ volumes
  pub device : (i : ℕ) (d : VolumeJob V) → i < length jobs → (slice_index_or jobs i d).device ≡ i
  pub idle : (i : ℕ) (d : VolumeJob V) → i < length jobs → (slice_index_or jobs i d).disk ≡ None

-- so many flags, all of them set
pub record AreSet (count : ℕ) (flags : List Bool) : Type 0 where
  pub size : length flags ≡ count
  pub set : All (λ flag. flag ≡ true) flags

-- The tools have room for every record, and a job for each volume. Those of duplex pairs aren't left alone, and no device has failed.
pub record AreToolsReady {V : Type 0} (plant : PlantState) (rows : List PairRow) (tools : Tools V) : Type 0 where
  pub room : HoldsEveryBody plant tools.body.room
  pub jobs : AreHome plant.volumes tools.jobs.items
  pub lent : AreSet plant.volumes tools.lent.items
  pub duplex : (v : ℕ) → HasDuplex rows v → is_left tools.jobs.items v ≡ false
  pub others : (v : ℕ) → ¬ HasDuplex rows v → is_left tools.jobs.items v ≡ true
  pub empty : tools.failed.items ≡ []
  pub places : length rows ≤ vec_capacity tools.failed

-- ---- what is done

-- a step of each volume that isn't left alone
abbrev pub OfVolumes : (left : ℕ → Bool) → (step : ℕ → List ℕ → List ℕ → Type 0) → Device → List ℕ → List ℕ → Type 0
OfVolumes left step (Volume v) b c = (left v ≡ false → step v b c) × (left v ≡ true → c ≡ b)
OfVolumes left step Control b c = c ≡ b
OfVolumes left step State b c = c ≡ b
OfVolumes left step (Journal j) b c = c ≡ b

-- Items were applied to volumes that weren't left alone. One that fails, by its count, is left alone from then on.
pub record AppliesSides (tells : Type 0) (items : List Item) (was is : ℕ → Bool) (old new : PlantState) : Type 0 where
  pub works : Works tells (OfVolumes was (λ v b c. DiffersInSlots v items b c)) old new
  pub kept : (v : ℕ) → was v ≡ true → is v ≡ true
  pub still : (v : ℕ) → was v ≡ true → new.faults (Volume v) ≡ old.faults (Volume v)
  pub count : (v : ℕ) → was v ≡ false → FailsByCount (is v) (old.faults (Volume v)) (new.faults (Volume v))
