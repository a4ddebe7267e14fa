use Rattle.std.proofs.Common.{◌<◌, Vec, [], length, sym, ◌∙◌, ap, subst, arith}
use Rattle.crash_plant.specs.declared.device.Device.{Device}
use Rattle.crash_plant.specs.declared.device.Device.TheVariants.{Journal, Volume}
use Rattle.crash_plant.specs.FailPlans.{IsPlanned, plan_faults, plan_items}
use Rattle.crash_plant.proofs.Counts.{cause_along}
use Rattle.crash_plant.proofs.Seen.{journal_was, journal_is, volume_was, volume_is, seen_is, seen_of_journal, seen_of_volume, seen_of_journal_same, seen_of_volume_same}
use Rattle.crash_plant.proofs.fail_plans.FailPlans.fail.Goals as goal

pub returns-in-Journal-clause-planned : goal.returns-in-Journal-clause-planned
returns-in-Journal-clause-planned c d =
    let p = c.args.self.now in
    seen_of_journal_same plan_items plan_items [] p.control p.state p.journals.items p.volumes.items c.from.result c.fail-in-Journal.new.self d (λ less. ap (λ (v : Vec _ _). v.items) c.fail-in-Journal.ensures.planned ∙ sym (seen_is plan_items [] p.journals.items c.from.result _ c.index_mut.ensures.value less))

pub returns-in-Journal-clause-cause : goal.returns-in-Journal-clause-cause
returns-in-Journal-clause-cause c =
    let p = c.args.self.now in
    let there : c.in-Journal.number < length p.journals.items = subst (λ (d : Device). IsPlanned p d) c.in-Journal.is c.requires in
    let was = journal_was plan_faults plan_faults 0 p.control p.state p.journals.items p.volumes.items c.args.device _ _ c.from.ensures _ c.in-Journal.is (omega (arith, there, c.from.ensures)) c.index_mut.ensures.value in
    let now = journal_is plan_faults plan_faults 0 p.control p.state p.journals.items p.volumes.items c.args.device _ _ c.from.ensures c.fail-in-Journal.new.self c.in-Journal.is (omega (arith, there, c.from.ensures)) in
    cause_along _ _ _ _ c.fail-in-Journal.result was now c.fail-in-Journal.ensures.cause

pub returns-in-Journal-clause-others : goal.returns-in-Journal-clause-others
returns-in-Journal-clause-others c d other =
    let p = c.args.self.now in
    seen_of_journal plan_faults plan_faults 0 p.control p.state p.journals.items p.volumes.items c.from.result c.fail-in-Journal.new.self d (λ same. other (same ∙ ap Journal c.from.ensures ∙ sym c.in-Journal.is))

pub returns-in-Volume-clause-planned : goal.returns-in-Volume-clause-planned
returns-in-Volume-clause-planned c d =
    let p = c.args.self.now in
    seen_of_volume_same plan_items plan_items [] p.control p.state p.journals.items p.volumes.items c.from-in-Volume.result c.fail-in-Volume.new.self d (λ less. ap (λ (v : Vec _ _). v.items) c.fail-in-Volume.ensures.planned ∙ sym (seen_is plan_items [] p.volumes.items c.from-in-Volume.result _ c.index_mut-in-Volume.ensures.value less))

pub returns-in-Volume-clause-cause : goal.returns-in-Volume-clause-cause
returns-in-Volume-clause-cause c =
    let p = c.args.self.now in
    let there : c.in-Volume.number < length p.volumes.items = subst (λ (d : Device). IsPlanned p d) c.in-Volume.is c.requires in
    let was = volume_was plan_faults plan_faults 0 p.control p.state p.journals.items p.volumes.items c.args.device _ _ c.from-in-Volume.ensures _ c.in-Volume.is (omega (arith, there, c.from-in-Volume.ensures)) c.index_mut-in-Volume.ensures.value in
    let now = volume_is plan_faults plan_faults 0 p.control p.state p.journals.items p.volumes.items c.args.device _ _ c.from-in-Volume.ensures c.fail-in-Volume.new.self c.in-Volume.is (omega (arith, there, c.from-in-Volume.ensures)) in
    cause_along _ _ _ _ c.fail-in-Volume.result was now c.fail-in-Volume.ensures.cause

pub returns-in-Volume-clause-others : goal.returns-in-Volume-clause-others
returns-in-Volume-clause-others c d other =
    let p = c.args.self.now in
    seen_of_volume plan_faults plan_faults 0 p.control p.state p.journals.items p.volumes.items c.from-in-Volume.result c.fail-in-Volume.new.self d (λ same. other (same ∙ ap Volume c.from-in-Volume.ensures ∙ sym c.in-Volume.is))
