use Rattle.std.proofs.Common.{ap, arith}
use Rattle.crash_plant.specs.declared.device.Device.TheVariants.{Volume}
use Rattle.crash_plant.specs.Clock.{clock_of}
use Rattle.crash_plant.specs.FailPlans.{faults_of}
use Rattle.crash_plant.specs.Shelves.{last_done}
use Rattle.crash_plant.proofs.Loans.{lends}
use Rattle.crash_plant.proofs.Memories.{home_of}
use Rattle.crash_plant.proofs.memory_plant.MemoryPlantPlant.lend.Goals as goal

pub lend-requires : goal.lend-requires
lend-requires c =
    let m = c.args.self.now in
    home_of m.disks m.console (clock_of m.ticks) (faults_of m.plans) m.plans.console.faults (Volume c.args.device) c.requires

pub invariant_of-result : goal.invariant_of-result
invariant_of-result c =
    let m = c.args.self.now in
    record { within = m.within; done = omega (arith, m.done (Volume c.args.device), ap last_done c.lend.ensures.was) }

pub returns-clause-lent : goal.returns-clause-lent
returns-clause-lent c =
    let m = c.args.self.now in
    lends m.disks c.lend.new.self m.console (faults_of m.plans) (faults_of c.lend-2.new.self) m.plans.console.faults c.lend-2.new.self.console.faults c.args.device c.lend.ensures.others (record { journals = c.lend.ensures.journals; volumes = c.lend.ensures.volumes }) c.requires.0 (ap (λ plan. plan.faults) c.lend-2.ensures.console)
    m.ticks c.lend.result c.lend-2.result.faults m.done m.told c.lend.ensures.was c.lend.ensures.lent c.lend-2.ensures.counts c.lend-2.ensures.faults
