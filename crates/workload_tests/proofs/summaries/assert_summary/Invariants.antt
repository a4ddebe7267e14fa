use Rattle.crash_plant.specs.Calls.{NoneLent}
use Rattle.crash_plant.specs.PlainPlant.{plain_state}
use Rattle.workload_tests.proofs.summaries.assert_summary.Given as goal

-- No volume is lent.
abbrev pub invariant-loop-control : goal.invariant-loop-control
invariant-loop-control g l = NoneLent (plain_state l.plant)
