use Rattle.std.proofs.Common.{◌≡◌, ◌<◌, ◌≤◌, ◌+◌, ◌∙◌, ap, arith}
use Rattle.crash_plant.specs.declared.fail_plans.FailPlans.{FailPlans}
use Rattle.crash_plant.specs.Clock.{clock_of}
use Rattle.crash_plant.specs.FailPlans.{faults_of}
use Rattle.crash_plant.proofs.Consoles.{heard_same, said_same}
use Rattle.crash_plant.proofs.Memories.{same_sizes, works_on_console}
use Rattle.crash_plant.proofs.Sayings.{heard_past, hears, hears_none, listens, listens_same, said_past}
use Rattle.crash_plant.proofs.memory_plant.MemoryPlantPlant.hear.Goals as goal

pub returns-in-Ok-clause-heard : goal.returns-in-Ok-clause-heard
returns-in-Ok-clause-heard c =
    let m = c.args.self.now in
    let n = c.attend.new.self in
    hears m.disks n.disks m.console n.console (clock_of m.ticks) (clock_of n.ticks) (faults_of m.plans) (faults_of n.plans) m.plans.console.faults n.plans.console.faults (omega (arith, c.attend.ensures.later)) m.told _ c.in-Ok.ensures.ok

pub returns-in-Ok-clause-moments : goal.returns-in-Ok-clause-moments
returns-in-Ok-clause-moments c =
    let m = c.args.self.now in
    let n = c.attend.new.self in
    listens m.disks n.disks m.console n.console (clock_of m.ticks) (clock_of n.ticks) (faults_of m.plans) (faults_of n.plans) m.plans.console.faults n.plans.console.faults (omega (arith, c.attend.ensures.later)) m.told _ c.in-Ok.ensures.ok

pub returns-in-Ok-clause-only : goal.returns-in-Ok-clause-only
returns-in-Ok-clause-only c =
    let m = c.args.self.now in
    let n = c.attend.new.self in
    let up : n.ticks ≡ m.ticks + 1 = c.in-Ok.ensures.clock in
    let later : clock_of m.ticks ≤ clock_of n.ticks = omega (arith, c.attend.ensures.later) in
    let raised : clock_of m.ticks < clock_of n.ticks = omega (arith, up) in
    works_on_console m.disks n.disks m.console n.console (clock_of m.ticks) (clock_of n.ticks) (faults_of m.plans) (faults_of n.plans) m.plans.console.faults n.plans.console.faults (omega arith) later m.done m.told (same_sizes m.disks n.disks c.attend.ensures.disks) c.attend.ensures.disks
    (heard_past m.disks n.disks m.console n.console (clock_of m.ticks) (clock_of n.ticks) (faults_of m.plans) (faults_of n.plans) m.plans.console.faults n.plans.console.faults later m.told _ raised c.in-Ok.ensures.ok)
    (said_past m.disks n.disks m.console n.console (clock_of m.ticks) (clock_of n.ticks) (faults_of m.plans) (faults_of n.plans) m.plans.console.faults n.plans.console.faults later m.told _ raised c.in-Ok.ensures.ok)
    (λ d. ap (λ (plans : FailPlans). faults_of plans d) c.attend.ensures.plans ∙ c.meet_console.ensures.counts d)

pub returns-in-Err-clause-err : goal.returns-in-Err-clause-err
returns-in-Err-clause-err c =
    let m = c.args.self.now in
    let n = c.attend.new.self in
    hears_none m.disks n.disks m.console n.console (clock_of m.ticks) (clock_of n.ticks) (faults_of m.plans) (faults_of c.fail_console.new.self) m.plans.console.faults c.fail_console.new.self.console.faults (omega (arith, c.attend.ensures.later)) m.told c.in-Err.ensures.err

pub returns-in-Err-clause-moments : goal.returns-in-Err-clause-moments
returns-in-Err-clause-moments c =
    let m = c.args.self.now in
    let n = c.attend.new.self in
    listens_same m.disks n.disks m.console n.console (clock_of m.ticks) (clock_of n.ticks) (faults_of m.plans) (faults_of c.fail_console.new.self) m.plans.console.faults c.fail_console.new.self.console.faults (omega (arith, c.attend.ensures.later)) m.told c.in-Err.ensures.err

pub returns-in-Err-clause-only : goal.returns-in-Err-clause-only
returns-in-Err-clause-only c =
    let m = c.args.self.now in
    let n = c.attend.new.self in
    works_on_console m.disks n.disks m.console n.console (clock_of m.ticks) (clock_of n.ticks) (faults_of m.plans) (faults_of c.fail_console.new.self) m.plans.console.faults c.fail_console.new.self.console.faults (omega arith) (omega (arith, c.attend.ensures.later)) m.done m.told (same_sizes m.disks n.disks c.attend.ensures.disks) c.attend.ensures.disks
    (λ t le. heard_same m.console n.console t c.in-Err.ensures.err) (λ t le. said_same m.console n.console t c.in-Err.ensures.err)
    (λ d. c.fail_console.ensures.counts d ∙ ap (λ (plans : FailPlans). faults_of plans d) c.attend.ensures.plans ∙ c.meet_console.ensures.counts d)
