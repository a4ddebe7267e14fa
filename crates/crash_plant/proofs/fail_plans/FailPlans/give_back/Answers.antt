use Rattle.std.proofs.Common.{[], ◌∙◌, ap, arith}
use Rattle.crash_plant.specs.declared.device.Device.TheVariants.{Volume}
use Rattle.crash_plant.specs.FailPlans.{plan_faults, plan_items}
use Rattle.crash_plant.proofs.Seen.{seen_of_volume, seen_of_volume_here}
use Rattle.crash_plant.proofs.fail_plans.FailPlans.give_back.Goals as goal

pub returns-clause-planned : goal.returns-clause-planned
returns-clause-planned c =
    let p = c.args.self.now in
    seen_of_volume_here plan_items plan_items [] p.control p.state p.journals.items p.volumes.items c.from.result c.args.device c.args.plan c.from.ensures (omega (arith, c.requires, c.from.ensures))

pub returns-clause-faults : goal.returns-clause-faults
returns-clause-faults c =
    let p = c.args.self.now in
    seen_of_volume_here plan_faults plan_faults 0 p.control p.state p.journals.items p.volumes.items c.from.result c.args.device c.args.plan c.from.ensures (omega (arith, c.requires, c.from.ensures))

pub returns-clause-others : goal.returns-clause-others
returns-clause-others c d other =
    let p = c.args.self.now in
    seen_of_volume plan_faults plan_faults 0 p.control p.state p.journals.items p.volumes.items c.from.result c.args.plan d (λ same. other (same ∙ ap Volume c.from.ensures))

pub returns-clause-others_planned : goal.returns-clause-others_planned
returns-clause-others_planned c d other =
    let p = c.args.self.now in
    seen_of_volume plan_items plan_items [] p.control p.state p.journals.items p.volumes.items c.from.result c.args.plan d (λ same. other (same ∙ ap Volume c.from.ensures))
