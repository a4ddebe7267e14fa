use Rattle.std.proofs.Common.{rules, ◌≡◌, ◌≤◌, ◌+◌, refl, ap, arith}
use Rattle.crash_plant.specs.Clock.{clock_of}
use Rattle.crash_plant.specs.FailPlans.{faults_of}
use Rattle.crash_plant.specs.MemoryDisks.{view}
use Rattle.crash_plant.specs.Moments.{Same}
use Rattle.crash_plant.proofs.Memories.{home_of, same_of, works_on_one}
use Rattle.crash_plant.proofs.Passing.{passes_still, stands_still}
use Rattle.crash_plant.proofs.Views.{is_home}
use Rattle.crash_plant.proofs.memory_plant.MemoryPlantPlant.read.Goals as goal

pub returns-clause-moments : goal.returns-clause-moments
returns-clause-moments c =
    let m = c.args.self.now in
    let up : c.raise.new.ticks ≡ m.ticks + 1 = search rules in
    (passes_still Same (clock_of m.ticks) (clock_of c.raise.new.ticks) (view m.disks c.args.device) (λ l. refl) (m.done c.args.device) (omega (arith, up))).follows

pub returns-clause-only : goal.returns-clause-only
returns-clause-only c =
    let m = c.args.self.now in
    let up : c.raise.new.ticks ≡ m.ticks + 1 = search rules in
    let later : clock_of m.ticks ≤ clock_of c.raise.new.ticks = omega (arith, up) in
    let home = is_home m.disks c.args.device (home_of m.disks m.console (clock_of m.ticks) (faults_of m.plans) m.plans.console.faults c.args.device c.requires.there) in
    let passes = passes_still Same (clock_of m.ticks) (clock_of c.raise.new.ticks) (view m.disks c.args.device) (λ l. refl) (m.done c.args.device) later in
    works_on_one m.disks m.disks m.console m.console (clock_of m.ticks) (clock_of c.raise.new.ticks) (faults_of m.plans) (faults_of c.meet.new.self) m.plans.console.faults c.meet.new.self.console.faults (omega arith) later m.done m.told (record { journals = refl; volumes = refl }) (same_of m.console m.console refl) Same c.args.device (λ d other. refl) home passes
    c.meet.ensures.others c.meet.ensures.cause.later (ap (λ plan. plan.faults) c.meet.ensures.console)

pub returns-clause-stands : goal.returns-clause-stands
returns-clause-stands c = stands_still (clock_of c.args.self.now.ticks) (clock_of c.raise.new.ticks) (view c.args.self.now.disks c.args.device) (c.args.self.now.done c.args.device)
