use Rattle.std.proofs.Common.{arith}
use Rattle.applier.specs.Sides.{SyncsJob}
use Rattle.applier.proofs.Parts.{before_more}
use Rattle.applier.proofs.sides.sync_each.Goals as goal

pub loop-place-preserved : goal.loop-place-preserved
loop-place-preserved g c = before_more (SyncsJob g.D.Disk.state g.D.Disk.tells) c.loop-place.place c.args.jobs.now c.loop-place.jobs c.index-jobs-place.result c.sync_lent.new.job (omega (arith, c.loop-place-test.true, c.loop-place.auto.jobs)) c.sync_lent.ensures c.loop-place.invariant
