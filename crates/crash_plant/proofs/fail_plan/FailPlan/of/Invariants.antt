use Rattle.std.proofs.Common.{◌≡◌, take}
use Rattle.crash_plant.specs.Failures.{planned_at}
use Rattle.crash_plant.proofs.fail_plan.FailPlan.of.Given as goal

abbrev pub invariant-loop-fail : goal.invariant-loop-fail
invariant-loop-fail l = l.planned.items ≡ planned_at l.at (take l.fail-index l.fails)
