use Rattle.std.proofs.Common.{[], arith}
use Rattle.write_trace.proofs.FieldsAgain.{cylinders_fit}
use Rattle.write_trace.proofs.BaseCounts.{most_few, few_below}
use Rattle.write_trace.proofs.fields.cylinder_of.Goals as goal

pub returns-else-version-eq1-clause-few : goal.returns-else-version-eq1-clause-few
returns-else-version-eq1-clause-few c =
    few_below c.long_below.result c.cylinders_at-cylinders.result 1000000
    (omega (arith, c.cylinders_at-cylinders.ensures, cylinders_fit c.args.version c.args.volume [] c.args.volumes.now c.requires.rules, most_few c.args.version)) c.long_below.ensures.below
