use Rattle.std.proofs.Common.{◌∙◌, ap, arith}
use Rattle.crash_plant.specs.declared.fail_plans.FailPlans.{FailPlans}
use Rattle.crash_plant.specs.Clock.{clock_of}
use Rattle.crash_plant.specs.FailPlans.{faults_of}
use Rattle.crash_plant.proofs.Memories.{home_of, same_of, works_on_one}
use Rattle.crash_plant.proofs.Views.{is_home}
use Rattle.crash_plant.proofs.memory_plant.MemoryPlantPlant.sync.Goals as goal

pub returns-in-Ok-clause-only : goal.returns-in-Ok-clause-only
returns-in-Ok-clause-only c =
    let m = c.args.self.now in
    let n = c.note.new.self in
    let home = is_home m.disks c.args.device (home_of m.disks m.console (clock_of m.ticks) (faults_of m.plans) m.plans.console.faults c.args.device c.requires) in
    works_on_one m.disks n.disks m.console n.console (clock_of m.ticks) (clock_of n.ticks) (faults_of m.plans) (faults_of n.plans) m.plans.console.faults n.plans.console.faults (omega arith) c.note.ensures.passes.later m.done m.told c.note.ensures.sizes (same_of m.console n.console c.note.ensures.console) _ c.args.device c.note.ensures.others home c.note.ensures.passes
    (λ d other. ap (λ (plans : FailPlans). faults_of plans d) c.note.ensures.plans ∙ c.meet.ensures.others d other) (omega (arith, ap (λ (plans : FailPlans). faults_of plans c.args.device) c.note.ensures.plans, c.meet.ensures.cause.later))
    (ap (λ (plans : FailPlans). plans.console.faults) c.note.ensures.plans ∙ ap (λ plan. plan.faults) c.meet.ensures.console)

pub returns-in-Err-clause-only : goal.returns-in-Err-clause-only
returns-in-Err-clause-only c =
    let m = c.args.self.now in
    let n = c.note.new.self in
    let home = is_home m.disks c.args.device (home_of m.disks m.console (clock_of m.ticks) (faults_of m.plans) m.plans.console.faults c.args.device c.requires) in
    works_on_one m.disks n.disks m.console n.console (clock_of m.ticks) (clock_of n.ticks) (faults_of m.plans) (faults_of c.fail.new.self) m.plans.console.faults c.fail.new.self.console.faults (omega arith) c.note.ensures.passes.later m.done m.told c.note.ensures.sizes (same_of m.console n.console c.note.ensures.console) _ c.args.device c.note.ensures.others home c.note.ensures.passes
    (λ d other. c.fail.ensures.others d other ∙ ap (λ (plans : FailPlans). faults_of plans d) c.note.ensures.plans ∙ c.meet.ensures.others d other) (omega (arith, c.fail.ensures.cause.later, ap (λ (plans : FailPlans). faults_of plans c.args.device) c.note.ensures.plans, c.meet.ensures.cause.later))
    (ap (λ plan. plan.faults) c.fail.ensures.console ∙ ap (λ (plans : FailPlans). plans.console.faults) c.note.ensures.plans ∙ ap (λ plan. plan.faults) c.meet.ensures.console)
