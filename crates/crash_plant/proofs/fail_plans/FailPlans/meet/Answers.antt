use Rattle.std.proofs.Common.{◌<◌, ◌||◌, ◌↔◌, List, [], length, map, IsErr, IsTrue, refl, sym, ◌∙◌, ap, subst, arith}
use Rattle.std.specs.List.{list_any}
use Rattle.crash_plant.specs.declared.device.Device.{Device}
use Rattle.crash_plant.specs.declared.device.Device.TheVariants.{Journal, Volume}
use Rattle.crash_plant.specs.declared.fail_plan.Planned.{Planned}
use Rattle.crash_plant.specs.Failures.{after_call, fails_now, is_stopping}
use Rattle.crash_plant.specs.FailPlans.{IsPlanned, plan_faults, plan_items}
use Rattle.crash_plant.proofs.Counts.{cause_along}
use Rattle.crash_plant.proofs.Seen.{journal_was, journal_is, volume_was, volume_is, seen_of_journal, seen_of_volume}
use Rattle.crash_plant.proofs.fail_plans.FailPlans.meet.Goals as goal

pub returns-in-Journal-clause-fails : goal.returns-in-Journal-clause-fails
returns-in-Journal-clause-fails c =
    let p = c.args.self.now in
    let there : c.in-Journal.number < length p.journals.items = subst (λ (d : Device). IsPlanned p d) c.in-Journal.is c.requires in
    subst (λ (items : List Planned). IsErr c.meet-in-Journal.result ↔ IsTrue (p.is_stopped || list_any (fails_now c.args.said) items))
    (sym (journal_was plan_items plan_items [] p.control p.state p.journals.items p.volumes.items c.args.device _ _ c.from.ensures _ c.in-Journal.is (omega (arith, there, c.from.ensures)) c.index_mut.ensures.value)) c.meet-in-Journal.ensures.fails

pub returns-in-Journal-clause-cause : goal.returns-in-Journal-clause-cause
returns-in-Journal-clause-cause c =
    let p = c.args.self.now in
    let there : c.in-Journal.number < length p.journals.items = subst (λ (d : Device). IsPlanned p d) c.in-Journal.is c.requires in
    let was = journal_was plan_faults plan_faults 0 p.control p.state p.journals.items p.volumes.items c.args.device _ _ c.from.ensures _ c.in-Journal.is (omega (arith, there, c.from.ensures)) c.index_mut.ensures.value in
    let now = journal_is plan_faults plan_faults 0 p.control p.state p.journals.items p.volumes.items c.args.device _ _ c.from.ensures c.meet-in-Journal.new.self c.in-Journal.is (omega (arith, there, c.from.ensures)) in
    cause_along _ _ _ _ c.meet-in-Journal.result was now c.meet-in-Journal.ensures.cause

pub returns-in-Journal-clause-others : goal.returns-in-Journal-clause-others
returns-in-Journal-clause-others c d other =
    let p = c.args.self.now in
    seen_of_journal plan_faults plan_faults 0 p.control p.state p.journals.items p.volumes.items c.from.result c.meet-in-Journal.new.self d (λ same. other (same ∙ ap Journal c.from.ensures ∙ sym c.in-Journal.is))

pub returns-in-Volume-clause-fails : goal.returns-in-Volume-clause-fails
returns-in-Volume-clause-fails c =
    let p = c.args.self.now in
    let there : c.in-Volume.number < length p.volumes.items = subst (λ (d : Device). IsPlanned p d) c.in-Volume.is c.requires in
    subst (λ (items : List Planned). IsErr c.meet-in-Volume.result ↔ IsTrue (p.is_stopped || list_any (fails_now c.args.said) items))
    (sym (volume_was plan_items plan_items [] p.control p.state p.journals.items p.volumes.items c.args.device _ _ c.from-in-Volume.ensures _ c.in-Volume.is (omega (arith, there, c.from-in-Volume.ensures)) c.index_mut-in-Volume.ensures.value)) c.meet-in-Volume.ensures.fails

pub returns-in-Volume-clause-cause : goal.returns-in-Volume-clause-cause
returns-in-Volume-clause-cause c =
    let p = c.args.self.now in
    let there : c.in-Volume.number < length p.volumes.items = subst (λ (d : Device). IsPlanned p d) c.in-Volume.is c.requires in
    let was = volume_was plan_faults plan_faults 0 p.control p.state p.journals.items p.volumes.items c.args.device _ _ c.from-in-Volume.ensures _ c.in-Volume.is (omega (arith, there, c.from-in-Volume.ensures)) c.index_mut-in-Volume.ensures.value in
    let now = volume_is plan_faults plan_faults 0 p.control p.state p.journals.items p.volumes.items c.args.device _ _ c.from-in-Volume.ensures c.meet-in-Volume.new.self c.in-Volume.is (omega (arith, there, c.from-in-Volume.ensures)) in
    cause_along _ _ _ _ c.meet-in-Volume.result was now c.meet-in-Volume.ensures.cause

pub returns-in-Volume-clause-others : goal.returns-in-Volume-clause-others
returns-in-Volume-clause-others c d other =
    let p = c.args.self.now in
    seen_of_volume plan_faults plan_faults 0 p.control p.state p.journals.items p.volumes.items c.from-in-Volume.result c.meet-in-Volume.new.self d (λ same. other (same ∙ ap Volume c.from-in-Volume.ensures ∙ sym c.in-Volume.is))

pub returns-in-Journal-clause-counted : goal.returns-in-Journal-clause-counted
returns-in-Journal-clause-counted c =
    let p = c.args.self.now in
    let there : c.in-Journal.number < length p.journals.items = subst (λ (d : Device). IsPlanned p d) c.in-Journal.is c.requires in
    let was = journal_was plan_items plan_items [] p.control p.state p.journals.items p.volumes.items c.args.device _ _ c.from.ensures _ c.in-Journal.is (omega (arith, there, c.from.ensures)) c.index_mut.ensures.value in
    let now = journal_is plan_items plan_items [] p.control p.state p.journals.items p.volumes.items c.args.device _ _ c.from.ensures c.meet-in-Journal.new.self c.in-Journal.is (omega (arith, there, c.from.ensures)) in
    record {
      here = now ∙ c.meet-in-Journal.ensures.counted ∙ ap (λ (items : List Planned). map (after_call c.args.said) items) (sym was);
      others = λ d other. seen_of_journal plan_items plan_items [] p.control p.state p.journals.items p.volumes.items c.from.result c.meet-in-Journal.new.self d (λ same. other (same ∙ ap Journal c.from.ensures ∙ sym c.in-Journal.is));
      console = refl;
      stops = c.meet-in-Journal.ensures.stops ∙ ap (λ (items : List Planned). p.is_stopped || list_any (is_stopping c.args.said) items) (sym was);
    }

pub returns-in-Volume-clause-counted : goal.returns-in-Volume-clause-counted
returns-in-Volume-clause-counted c =
    let p = c.args.self.now in
    let there : c.in-Volume.number < length p.volumes.items = subst (λ (d : Device). IsPlanned p d) c.in-Volume.is c.requires in
    let was = volume_was plan_items plan_items [] p.control p.state p.journals.items p.volumes.items c.args.device _ _ c.from-in-Volume.ensures _ c.in-Volume.is (omega (arith, there, c.from-in-Volume.ensures)) c.index_mut-in-Volume.ensures.value in
    let now = volume_is plan_items plan_items [] p.control p.state p.journals.items p.volumes.items c.args.device _ _ c.from-in-Volume.ensures c.meet-in-Volume.new.self c.in-Volume.is (omega (arith, there, c.from-in-Volume.ensures)) in
    record {
      here = now ∙ c.meet-in-Volume.ensures.counted ∙ ap (λ (items : List Planned). map (after_call c.args.said) items) (sym was);
      others = λ d other. seen_of_volume plan_items plan_items [] p.control p.state p.journals.items p.volumes.items c.from-in-Volume.result c.meet-in-Volume.new.self d (λ same. other (same ∙ ap Volume c.from-in-Volume.ensures ∙ sym c.in-Volume.is));
      console = refl;
      stops = c.meet-in-Volume.ensures.stops ∙ ap (λ (items : List Planned). p.is_stopped || list_any (is_stopping c.args.said) items) (sym was);
    }
