-- What is said of a job's volume before and after a call.
use Rattle.std.specs.Prelude.{◌≡◌, ◌≤◌, ◌+◌, ℕ, Bool, true, false, Option, Some, None}
use Rattle.xrc_edge.specs.Causes.{Rose}
use Rattle.crash_plant.specs.Moments.{Standing}
use Rattle.xrc_journal.specs.declared.job.VolumeJob.{VolumeJob}

-- whether a job has failed: its volume is left alone then
abbrev pub has_job_failed : {V : Type 0} → VolumeJob V → Bool
has_job_failed job = job.failed

-- The volume stays lent, and this holds of it before and after; or it isn't lent, before and after.
abbrev pub OnVolume : {D : Type 0} (state : D → Standing) → (Standing → Standing → Type 0) → Option D → Option D → Type 0
OnVolume state holds (Some old) (Some new) = holds (state old) (state new)
OnVolume state holds None None = Unit {0}
OnVolume state holds (Some old) None = ⊥
OnVolume state holds None (Some new) = ⊥

-- A job fails only where its volume's count rose, by one, and the count rises in no other call.
pub record FailsByCount (failed : Bool) (before now : ℕ) : Type 0 where
  pub later : before ≤ now
  pub by_one : now ≤ before + 1
  pub same : failed ≡ false → now ≡ before
  pub rose : failed ≡ true → Rose before now
