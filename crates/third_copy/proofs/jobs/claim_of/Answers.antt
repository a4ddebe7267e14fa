use Rattle.std.proofs.Common.{arith}
use Rattle.third_copy.proofs.Rows.{few_cylinders}
use Rattle.third_copy.proofs.jobs.claim_of.Goals as goal

pub overflow_mul-result : goal.overflow_mul-result
overflow_mul-result c = omega (arith, few_cylinders c.args.row.now c.requires)
