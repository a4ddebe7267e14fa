use Rattle.std.proofs.Common.{ℕ, ◌<◌, length, get_or}
use Rattle.xrc_journal.specs.declared.job.VolumeJob.{VolumeJob}
use Rattle.applier.proofs.rising.are_rising.Given as goal

-- the devices before rise
abbrev pub invariant-loop-place : goal.invariant-loop-place
invariant-loop-place g l = (i j : ℕ) (d : VolumeJob _) → i < j → j < l.place → j < length l.jobs → (get_or l.jobs i d).device < (get_or l.jobs j d).device
