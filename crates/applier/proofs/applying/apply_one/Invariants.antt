use Rattle.std.proofs.Common.{◌-◌, length}
use Rattle.applier.proofs.InTurn.{Applying}
use Rattle.applier.proofs.applying.apply_one.Given as goal

-- the items before were written
abbrev pub invariant-loop-item : goal.invariant-loop-item
invariant-loop-item g l = Applying g.D.Disk.state g.D.Disk.tells l.body.items l.bytes l.at l.fn.job l.job

abbrev pub decreases-loop-item : goal.decreases-loop-item
decreases-loop-item g l = length l.bytes - l.at
