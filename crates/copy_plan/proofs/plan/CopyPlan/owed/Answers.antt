use Rattle.std.proofs.Common.{arith}
use Rattle.copy_plan.proofs.plan.CopyPlan.owed.Goals as goal

pub invariant_of-result : goal.invariant_of-result
invariant_of-result c = record {
  few = c.count.ensures.few;
  counted = c.count.ensures.count;
  within = omega (arith, c.count.ensures.within);
  start = omega arith;
  none_before = λ x before. absurd (omega arith);
}
