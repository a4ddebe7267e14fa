use Rattle.std.proofs.Common.{◌∙◌, ◌+◌, ◌≤◌, refl, length, ap, arith, length-take, ◌/◌}
use Rattle.crash_plant.specs.declared.fail_plans.FailPlans.{FailPlans}
use Rattle.crash_plant.specs.Clock.{clock_of}
use Rattle.crash_plant.specs.FailPlans.{faults_of}
use Rattle.crash_plant.specs.MemoryDisks.{view}
use Rattle.crash_plant.specs.Shelves.{shelf_bytes}
use Rattle.crash_plant.proofs.Memories.{home_of, same_of, works_on_one}
use Rattle.crash_plant.proofs.Patches.{patched_torn, torn_front}
use Rattle.crash_plant.proofs.Records.{does_torn}
use Rattle.crash_plant.proofs.Views.{is_home, size_home}
use Rattle.crash_plant.proofs.memory_plant.MemoryPlantPlant.write.Goals as goal

pub note-requires-clause-does : goal.note-requires-clause-does
note-requires-clause-does c =
    let m = c.args.self.now in
    let size = size_home m.disks c.args.device (is_home m.disks c.args.device (home_of m.disks m.console (clock_of m.ticks) (faults_of m.plans) m.plans.console.faults c.args.device c.requires.there)) in
    does_torn c.args.place (length c.args.bytes.now) _ _ (omega (arith, c.requires.range, size)) (patched_torn c.args.place c.args.bytes.now _ _ (omega (arith, c.requires.range, size)) refl)

pub note-requires-in-Err-clause-does : goal.note-requires-in-Err-clause-does
note-requires-in-Err-clause-does c =
    let m = c.args.self.now in
    let size = size_home m.disks c.args.device (is_home m.disks c.args.device (home_of m.disks m.console (clock_of m.ticks) (faults_of m.plans) m.plans.console.faults c.args.device c.requires.there)) in
    let fits : c.args.place + length c.front.result.now ≤ length (shelf_bytes (view m.disks c.args.device)) = omega (arith, c.requires.range, size, ap length c.front.ensures, length-take (length c.args.bytes.now / 2) c.args.bytes.now) in
    does_torn c.args.place (length c.args.bytes.now) _ _ (omega (arith, c.requires.range, size)) (torn_front c.args.place c.args.bytes.now c.front.result.now _ _ c.front.ensures (patched_torn c.args.place c.front.result.now _ _ fits refl))

pub returns-in-Ok-note-clause-only : goal.returns-in-Ok-note-clause-only
returns-in-Ok-note-clause-only c =
    let m = c.args.self.now in
    let n = c.note.new.self in
    let home = is_home m.disks c.args.device (home_of m.disks m.console (clock_of m.ticks) (faults_of m.plans) m.plans.console.faults c.args.device c.requires.there) in
    works_on_one m.disks n.disks m.console n.console (clock_of m.ticks) (clock_of n.ticks) (faults_of m.plans) (faults_of n.plans) m.plans.console.faults n.plans.console.faults (omega arith) c.note.ensures.passes.later m.done m.told c.note.ensures.sizes (same_of m.console n.console c.note.ensures.console) _ c.args.device c.note.ensures.others home c.note.ensures.passes
    (λ d other. ap (λ (plans : FailPlans). faults_of plans d) c.note.ensures.plans ∙ c.meet.ensures.others d other) (omega (arith, ap (λ (plans : FailPlans). faults_of plans c.args.device) c.note.ensures.plans, c.meet.ensures.cause.later))
    (ap (λ (plans : FailPlans). plans.console.faults) c.note.ensures.plans ∙ ap (λ plan. plan.faults) c.meet.ensures.console)

pub returns-in-Err-note-clause-only : goal.returns-in-Err-note-clause-only
returns-in-Err-note-clause-only c =
    let m = c.args.self.now in
    let n = c.note.new.self in
    let home = is_home m.disks c.args.device (home_of m.disks m.console (clock_of m.ticks) (faults_of m.plans) m.plans.console.faults c.args.device c.requires.there) in
    works_on_one m.disks n.disks m.console n.console (clock_of m.ticks) (clock_of n.ticks) (faults_of m.plans) (faults_of c.fail.new.self) m.plans.console.faults c.fail.new.self.console.faults (omega arith) c.note.ensures.passes.later m.done m.told c.note.ensures.sizes (same_of m.console n.console c.note.ensures.console) _ c.args.device c.note.ensures.others home c.note.ensures.passes
    (λ d other. c.fail.ensures.others d other ∙ ap (λ (plans : FailPlans). faults_of plans d) c.note.ensures.plans ∙ c.meet.ensures.others d other) (omega (arith, c.fail.ensures.cause.later, ap (λ (plans : FailPlans). faults_of plans c.args.device) c.note.ensures.plans, c.meet.ensures.cause.later))
    (ap (λ plan. plan.faults) c.fail.ensures.console ∙ ap (λ (plans : FailPlans). plans.console.faults) c.note.ensures.plans ∙ ap (λ plan. plan.faults) c.meet.ensures.console)

pub returns-in-Err-clause-only : goal.returns-in-Err-clause-only
returns-in-Err-clause-only c =
    let m = c.args.self.now in
    let n = c.note-in-Err.new.self in
    let home = is_home m.disks c.args.device (home_of m.disks m.console (clock_of m.ticks) (faults_of m.plans) m.plans.console.faults c.args.device c.requires.there) in
    works_on_one m.disks n.disks m.console n.console (clock_of m.ticks) (clock_of n.ticks) (faults_of m.plans) (faults_of n.plans) m.plans.console.faults n.plans.console.faults (omega arith) c.note-in-Err.ensures.passes.later m.done m.told c.note-in-Err.ensures.sizes (same_of m.console n.console c.note-in-Err.ensures.console) _ c.args.device c.note-in-Err.ensures.others home c.note-in-Err.ensures.passes
    (λ d other. ap (λ (plans : FailPlans). faults_of plans d) c.note-in-Err.ensures.plans ∙ c.meet.ensures.others d other) (omega (arith, ap (λ (plans : FailPlans). faults_of plans c.args.device) c.note-in-Err.ensures.plans, c.meet.ensures.cause.later))
    (ap (λ (plans : FailPlans). plans.console.faults) c.note-in-Err.ensures.plans ∙ ap (λ plan. plan.faults) c.meet.ensures.console)
