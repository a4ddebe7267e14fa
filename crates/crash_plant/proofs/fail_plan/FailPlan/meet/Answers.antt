use Rattle.std.proofs.Common.{◌&&◌}
use Rattle.crash_plant.specs.Failures.{after_call, fails_now, is_stopping}
use Rattle.crash_plant.proofs.Planned.{one_more, any_one_more, stops_at}
use Rattle.crash_plant.proofs.fail_plan.FailPlan.meet.Goals as goal

pub loop-planned-preserved : goal.loop-planned-preserved
loop-planned-preserved c =
    let before = c.loop-planned.invariant in
    let less = c.loop-planned-test.true in
    record {
      counted = one_more (after_call c.args.said) _ _ _ _ less before.counted _ c.meet-is_due.ensures.counted;
      fails = any_one_more (after_call c.args.said) _ _ _ _ less before.counted (fails_now c.args.said) _ _ _ before.fails c.meet-is_due.ensures.due;
      stops = any_one_more (after_call c.args.said) _ _ _ _ less before.counted (is_stopping c.args.said) _ _ (c.meet-is_due.result && c.meet-is_due.new.self.stop) before.stops (stops_at c.args.said _ _ _ c.meet-is_due.ensures.due c.meet-is_due.ensures.counted);
    }
