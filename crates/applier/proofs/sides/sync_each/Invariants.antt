use Rattle.applier.specs.Sides.{SyncsJob}
use Rattle.applier.proofs.Parts.{HoldsBefore}
use Rattle.applier.proofs.sides.sync_each.Given as goal

abbrev pub invariant-loop-place : goal.invariant-loop-place
invariant-loop-place g l = HoldsBefore (SyncsJob g.D.Disk.state g.D.Disk.tells) l.place l.fn.jobs l.jobs
