use Rattle.crash_plant.specs.FailPlans.{plan_faults}
use Rattle.crash_plant.proofs.Seen.{seen_none, seen_of_none}
use Rattle.crash_plant.proofs.fail_plans.FailPlans.make.Goals as goal

pub returns-clause-faults : goal.returns-clause-faults
returns-clause-faults c = seen_of_none plan_faults plan_faults 0 c.in_ok-of.field-0 c.in_ok-of-2.field-0 c.in_ok-of_journals.field-0.items c.in_ok-of_volumes.field-0.items c.in_ok-of.ensures.faults c.in_ok-of-2.ensures.faults
    (seen_none plan_faults 0 _ _ c.in_ok-of_journals.ensures.number c.in_ok-of_journals.ensures.faults) (seen_none plan_faults 0 _ _ c.in_ok-of_volumes.ensures.number c.in_ok-of_volumes.ensures.faults)
