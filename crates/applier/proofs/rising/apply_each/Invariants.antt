use Rattle.applier.specs.Sides.{AppliesToJob}
use Rattle.applier.proofs.Parts.{HoldsBefore}
use Rattle.applier.proofs.rising.apply_each.Given as goal

abbrev pub invariant-loop-place : goal.invariant-loop-place
invariant-loop-place g l = HoldsBefore (AppliesToJob g.D.Disk.state g.D.Disk.tells l.body.items) l.place l.fn.jobs l.jobs
