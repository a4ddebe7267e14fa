use Rattle.std.proofs.Common.{sym, ◌∙◌, ap}
use Rattle.crash_plant.specs.declared.device.Device.TheVariants.{Volume}
use Rattle.crash_plant.specs.declared.fail_plans.FailPlans.{FailPlans}
use Rattle.crash_plant.specs.FailPlans.{faults_of}
use Rattle.crash_plant.proofs.Loans.{takes_back}
use Rattle.crash_plant.proofs.Memories.{lent_at_home}
use Rattle.crash_plant.proofs.memory_plant.MemoryPlantPlant.give_back.Goals as goal

pub returns-clause-back : goal.returns-clause-back
returns-clause-back c =
    let m = c.args.self.now in
    let n = c.shelve.new.self in
    let volume = c.args.volume in
    let v = c.args.device in
    takes_back m.disks n.disks m.console n.console (faults_of m.plans) (faults_of c.give_back.new.self) m.plans.console.faults c.give_back.new.self.console.faults v m.ticks n.ticks volume.ticks volume.plan.faults volume.disk
    c.shelve.ensures.others c.shelve.ensures.sizes c.shelve.ensures.console c.requires.there (ap (λ plan. plan.faults) c.give_back.ensures.console ∙ ap (λ (plans : FailPlans). plans.console.faults) c.shelve.ensures.plans) c.shelve.ensures.later
    m.done m.told volume.done (m.loans (Volume v)) (c.requires.past tt) c.requires.length_is c.shelve.ensures.here
    (λ d other. c.give_back.ensures.others d other ∙ ap (λ (plans : FailPlans). faults_of plans d) c.shelve.ensures.plans) c.give_back.ensures.faults
    (sym (lent_at_home m.disks.volumes.items v c.requires.there) ∙ c.requires.is_lent)
