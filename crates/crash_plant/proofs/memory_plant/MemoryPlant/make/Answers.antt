use Rattle.std.proofs.Common.{sym, ◌∙◌, arith}
use Rattle.crash_plant.specs.FailPlans.{faults_of}
use Rattle.crash_plant.proofs.Beginnings.{all_durable, nothing_done, nothing_lent, same_devices}
use Rattle.crash_plant.proofs.Consoles.{told_first}
use Rattle.crash_plant.proofs.Counts.{plain_faults}
use Rattle.crash_plant.proofs.memory_plant.MemoryPlant.make.Goals as goal

pub invariant_of-result : goal.invariant_of-result
invariant_of-result c =
    let plain = c.args.plain in
    let disks = c.in_ok-disks.disks in
    let made = c.in_ok-disks.ensures in
    record {
      few_journals = omega (arith, made.journals, plain.few_journals, plain.journals.ok.0);
      few_volumes = omega (arith, made.volumes, plain.few_volumes, plain.volumes.ok.0);
      each_journal = omega (arith, made.journals, c.in_ok-plans.ensures.journals, c.journals.ensures);
      each_volume = omega (arith, made.volumes, c.in_ok-plans.ensures.volumes, c.volumes.ensures);
      within = omega arith;
      done = λ d. omega (arith, nothing_done disks plain made.fresh d);
      loans = λ d. omega (arith, nothing_lent disks plain made.fresh d);
      told = told_first c.new.result 1 _ c.new.ensures.first c.new.ensures.turns (omega arith);
    }

pub returns-clause-devices : goal.returns-clause-devices
returns-clause-devices c = same_devices c.in_ok-disks.disks c.args.plain c.in_ok-disks.ensures.fresh c.new.result _ (faults_of c.in_ok-plans.plans) _ c.in_ok-disks.ensures.journals c.in_ok-disks.ensures.volumes (λ d. c.in_ok-plans.ensures.faults d ∙ sym (plain_faults c.args.plain d))

pub returns-clause-durable : goal.returns-clause-durable
returns-clause-durable c d = all_durable c.in_ok-disks.disks c.args.plain c.in_ok-disks.ensures.fresh 1 d
