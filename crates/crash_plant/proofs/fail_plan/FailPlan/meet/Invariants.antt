use Rattle.std.proofs.Common.{◌≡◌, ◌||◌, ◌++◌, take, drop, map}
use Rattle.std.specs.List.{list_any}
use Rattle.crash_plant.specs.Failures.{after_call, fails_now, is_stopping}
use Rattle.crash_plant.proofs.fail_plan.FailPlan.meet.Given as goal

abbrev pub invariant-loop-planned : goal.invariant-loop-planned
invariant-loop-planned l =
    let old = l.initial.planned-items in
    let met = take l.planned-index old in
    record {
      counted : l.planned-items ≡ map (after_call l.said) met ++ drop l.planned-index old;
      fails : l.fails ≡ (l.initial.is_stopped || list_any (fails_now l.said) met);
      stops : l.is_stopped ≡ (l.initial.is_stopped || list_any (is_stopping l.said) met);
    }
