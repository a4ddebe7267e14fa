use Rattle.std.proofs.Common.{arith}
use Rattle.applier.proofs.Moving.{worked_none, worked_next}
use Rattle.plant_tests.proofs.loans.work_all.Goals as goal

pub loop-job-init : goal.loop-job-init
loop-job-init g c = worked_none g.D.Disk.tells g.D.Disk.state c.args.jobs.now

pub loop-job-preserved : goal.loop-job-preserved
loop-job-preserved g c = worked_next g.D.Disk.tells g.D.Disk.state c.args.jobs.now c.loop-job.jobs c.loop-job.job-index c.job-item.result c.work.new.job (omega (arith, c.loop-job-test.true, c.loop-job.auto.jobs)) c.work.ensures.device c.work.ensures.disk c.loop-job.invariant
