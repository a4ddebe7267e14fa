use Rattle.applier.specs.Loans.{AreWorkedOn}
use Rattle.plant_tests.proofs.loans.work_all.Given as goal

abbrev pub invariant-loop-job : goal.invariant-loop-job
invariant-loop-job g l = AreWorkedOn g.D.Disk.tells g.D.Disk.state l.initial.jobs l.jobs
