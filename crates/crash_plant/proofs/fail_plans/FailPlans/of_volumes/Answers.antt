use Rattle.std.proofs.Common.{[]}
use Rattle.std.specs.Prelude.{Some}
use Rattle.crash_plant.specs.declared.device.Device.TheVariants.{Volume}
use Rattle.crash_plant.specs.Failures.{planned_at}
use Rattle.crash_plant.specs.FailPlans.{plan_faults, plan_items}
use Rattle.crash_plant.proofs.Seen.{seen_push, length_push}
use Rattle.crash_plant.proofs.fail_plans.FailPlans.of_volumes.Goals as goal

pub loop-i-preserved : goal.loop-i-preserved
loop-i-preserved c =
    let before = c.loop-i.invariant in
    let pushed = c.in_ok-push.ensures.items in
    record {
      number = length_push _ _ _ _ before.number pushed;
      faults = seen_push plan_faults 0 (λ v. 0) _ _ _ _ before.number pushed before.faults c.in_ok-of.ensures.faults;
      planned = seen_push plan_items [] (λ v. planned_at (Some (Volume v)) c.args.fails.now) _ _ _ _ before.number pushed before.planned c.in_ok-of.ensures.planned;
    }
