use Rattle.std.proofs.Common.{◌-◌, length}
use Rattle.applier.proofs.Places.{ApplyingEach}
use Rattle.applier.proofs.rising.apply_rising.Given as goal

-- the items before were written
abbrev pub invariant-loop-item : goal.invariant-loop-item
invariant-loop-item g l = ApplyingEach g.D.Disk.state g.D.Disk.tells l.body.items l.bytes l.at l.fn.jobs l.jobs

abbrev pub decreases-loop-item : goal.decreases-loop-item
decreases-loop-item g l = length l.bytes - l.at
