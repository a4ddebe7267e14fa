use Rattle.std.proofs.Common.{Vec, ◌∙◌, ap}
use Rattle.crash_plant.proofs.Planned.{taken_up, left_out}
use Rattle.crash_plant.proofs.fail_plan.FailPlan.of.Goals as goal
use Rattle.crash_plant.proofs.fail_plan.FailPlan.of.Goals.{then-is_at+in_ok-push, else-is_at}

pub loop-fail-preserved : goal.loop-fail-preserved
loop-fail-preserved c = elim c.if-is_at.branch [
  | then-is_at+in_ok-push w ↦ ap (λ (v : Vec _ _). v.items) w.planned-is ∙ w.in_ok-push.ensures.items ∙ taken_up c.args.at c.args.fails.now c.loop-fail.fail-index _ c.loop-fail-test.true _ c.loop-fail.invariant (c.is_at.ensures.0 w.if-is_at.true)
  | else-is_at w ↦ ap (λ (v : Vec _ _). v.items) w.planned-is ∙ left_out c.args.at c.args.fails.now c.loop-fail.fail-index _ c.loop-fail-test.true _ c.loop-fail.invariant c.is_at.result w.if-is_at.false c.is_at.ensures.1
]
