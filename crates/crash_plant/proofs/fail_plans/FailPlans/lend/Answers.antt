use Rattle.std.proofs.Common.{Vec, [], sym, ◌∙◌, ap, arith}
use Rattle.crash_plant.specs.declared.device.Device.TheVariants.{Volume}
use Rattle.crash_plant.specs.FailPlans.{plan_faults, plan_items}
use Rattle.crash_plant.proofs.Seen.{seen_is, seen_is_at, seen_of_volume, seen_of_volume_same}
use Rattle.crash_plant.proofs.fail_plans.FailPlans.lend.Goals as goal

pub returns-clause-planned : goal.returns-clause-planned
returns-clause-planned c = ap (λ (v : Vec _ _). v.items) c.take.ensures.planned ∙ sym (seen_is_at plan_items [] c.args.self.now.volumes.items _ _ _ c.from.ensures c.index_mut.ensures.value (omega (arith, c.requires, c.from.ensures)))

pub returns-clause-faults : goal.returns-clause-faults
returns-clause-faults c = c.take.ensures.faults ∙ sym (seen_is_at plan_faults 0 c.args.self.now.volumes.items _ _ _ c.from.ensures c.index_mut.ensures.value (omega (arith, c.requires, c.from.ensures)))

pub returns-clause-counts : goal.returns-clause-counts
returns-clause-counts c d =
    let p = c.args.self.now in
    seen_of_volume_same plan_faults plan_faults 0 p.control p.state p.journals.items p.volumes.items c.from.result c.take.new.self d (λ less. c.take.ensures.same_faults ∙ sym (seen_is plan_faults 0 p.volumes.items c.from.result _ c.index_mut.ensures.value less))

pub returns-clause-others : goal.returns-clause-others
returns-clause-others c d other =
    let p = c.args.self.now in
    seen_of_volume plan_items plan_items [] p.control p.state p.journals.items p.volumes.items c.from.result c.take.new.self d (λ same. other (same ∙ ap Volume c.from.ensures))
