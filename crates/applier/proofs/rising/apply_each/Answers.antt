use Rattle.std.proofs.Common.{arith}
use Rattle.applier.specs.Sides.{AppliesToJob}
use Rattle.applier.proofs.Parts.{before_more}
use Rattle.applier.proofs.rising.apply_each.Goals as goal

pub loop-place-preserved : goal.loop-place-preserved
loop-place-preserved g c = before_more (AppliesToJob g.D.Disk.state g.D.Disk.tells c.args.body.now.items) c.loop-place.place c.args.jobs.now c.loop-place.jobs c.index-jobs-place.result c.apply_one.new.job (omega (arith, c.loop-place-test.true, c.loop-place.auto.jobs)) c.apply_one.ensures c.loop-place.invariant
