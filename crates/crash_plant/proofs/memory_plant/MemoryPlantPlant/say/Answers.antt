use Rattle.std.proofs.Common.{◌≡◌, ◌+◌, ◌∙◌, length, refl, sym, ap, arith}
use Rattle.std.proofs.lemmas.List.{take_all}
use Rattle.crash_plant.specs.declared.fail_plans.FailPlans.{FailPlans}
use Rattle.crash_plant.specs.Clock.{clock_of}
use Rattle.crash_plant.specs.FailPlans.{faults_of}
use Rattle.crash_plant.proofs.Consoles.{heard_before_say, heard_same, said_before_say, said_same}
use Rattle.crash_plant.proofs.Memories.{same_sizes, works_on_console}
use Rattle.crash_plant.proofs.Sayings.{said_all, says_front, says_none, says_or_not, uttered_past}
use Rattle.crash_plant.proofs.memory_plant.MemoryPlantPlant.say.Goals as goal

pub returns-in-Ok-utter-clause-said : goal.returns-in-Ok-utter-clause-said
returns-in-Ok-utter-clause-said c =
    let m = c.args.self.now in
    let n = c.utter.new.self in
    let up : n.ticks ≡ m.ticks + 1 = c.in-Ok-utter.ensures.clock in
    said_all m.disks n.disks m.console n.console (clock_of m.ticks) (clock_of n.ticks) (faults_of m.plans) (faults_of n.plans) m.plans.console.faults n.plans.console.faults (omega (arith, c.utter.ensures.later)) m.told c.args.bytes.now c.args.bytes.now (length c.args.bytes.now) (omega arith) (sym (take_all (length c.args.bytes.now) c.args.bytes.now (omega arith))) (omega (arith, up)) c.in-Ok-utter.ensures.ok

pub returns-in-Ok-utter-clause-moments : goal.returns-in-Ok-utter-clause-moments
returns-in-Ok-utter-clause-moments c =
    let m = c.args.self.now in
    let n = c.utter.new.self in
    let up : n.ticks ≡ m.ticks + 1 = c.in-Ok-utter.ensures.clock in
    says_front m.disks n.disks m.console n.console (clock_of m.ticks) (clock_of n.ticks) (faults_of m.plans) (faults_of n.plans) m.plans.console.faults n.plans.console.faults (omega (arith, c.utter.ensures.later)) m.told c.args.bytes.now c.args.bytes.now (length c.args.bytes.now) (omega arith) (sym (take_all (length c.args.bytes.now) c.args.bytes.now (omega arith))) (omega (arith, up)) c.in-Ok-utter.ensures.ok

pub returns-in-Ok-utter-clause-only : goal.returns-in-Ok-utter-clause-only
returns-in-Ok-utter-clause-only c =
    let m = c.args.self.now in
    let n = c.utter.new.self in
    let up : n.ticks ≡ m.ticks + 1 = c.in-Ok-utter.ensures.clock in
    works_on_console m.disks n.disks m.console n.console (clock_of m.ticks) (clock_of n.ticks) (faults_of m.plans) (faults_of n.plans) m.plans.console.faults n.plans.console.faults (omega arith) (omega (arith, up)) m.done m.told (same_sizes m.disks n.disks c.utter.ensures.disks) c.utter.ensures.disks
    (λ t le. heard_before_say _ _ m.console n.console t c.in-Ok-utter.ensures.ok (omega (arith, le, up))) (λ t le. said_before_say _ _ m.console n.console t c.in-Ok-utter.ensures.ok (omega (arith, le, up)))
    (λ d. ap (λ (plans : FailPlans). faults_of plans d) c.utter.ensures.plans ∙ c.meet_console.ensures.counts d)

pub returns-in-Err-utter-clause-moments : goal.returns-in-Err-utter-clause-moments
returns-in-Err-utter-clause-moments c =
    let m = c.args.self.now in
    let n = c.utter.new.self in
    says_none m.disks n.disks m.console n.console (clock_of m.ticks) (clock_of n.ticks) (faults_of m.plans) (faults_of c.fail_console.new.self) m.plans.console.faults c.fail_console.new.self.console.faults (omega (arith, c.utter.ensures.later)) m.told c.args.bytes.now c.in-Err-utter.ensures.err

pub returns-in-Err-utter-clause-only : goal.returns-in-Err-utter-clause-only
returns-in-Err-utter-clause-only c =
    let m = c.args.self.now in
    let n = c.utter.new.self in
    works_on_console m.disks n.disks m.console n.console (clock_of m.ticks) (clock_of n.ticks) (faults_of m.plans) (faults_of c.fail_console.new.self) m.plans.console.faults c.fail_console.new.self.console.faults (omega arith) (omega (arith, c.utter.ensures.later)) m.done m.told (same_sizes m.disks n.disks c.utter.ensures.disks) c.utter.ensures.disks
    (λ t le. heard_same m.console n.console t c.in-Err-utter.ensures.err) (λ t le. said_same m.console n.console t c.in-Err-utter.ensures.err)
    (λ d. c.fail_console.ensures.counts d ∙ ap (λ (plans : FailPlans). faults_of plans d) c.utter.ensures.plans ∙ c.meet_console.ensures.counts d)

pub returns-in-Err-clause-moments : goal.returns-in-Err-clause-moments
returns-in-Err-clause-moments c =
    let m = c.args.self.now in
    let n = c.utter-in-Err.new.self in
    says_or_not m.disks n.disks m.console n.console (clock_of m.ticks) m.ticks n.ticks (faults_of m.plans) (faults_of n.plans) m.plans.console.faults n.plans.console.faults c.utter-in-Err.ensures.later m.told c.args.bytes.now c.front.result.now c.front.ensures c.utter-in-Err.result c.utter-in-Err.ensures.ok c.utter-in-Err.ensures.err c.utter-in-Err.ensures.clock refl

pub returns-in-Err-clause-only : goal.returns-in-Err-clause-only
returns-in-Err-clause-only c =
    let m = c.args.self.now in
    let n = c.utter-in-Err.new.self in
    let past = uttered_past m.console n.console m.ticks n.ticks c.front.result.now c.utter-in-Err.result c.utter-in-Err.ensures.ok c.utter-in-Err.ensures.err c.utter-in-Err.ensures.clock in
    works_on_console m.disks n.disks m.console n.console (clock_of m.ticks) (clock_of n.ticks) (faults_of m.plans) (faults_of n.plans) m.plans.console.faults n.plans.console.faults (omega arith) (omega (arith, c.utter-in-Err.ensures.later)) m.done m.told (same_sizes m.disks n.disks c.utter-in-Err.ensures.disks) c.utter-in-Err.ensures.disks
    (λ t le. (past t le).0) (λ t le. (past t le).1)
    (λ d. ap (λ (plans : FailPlans). faults_of plans d) c.utter-in-Err.ensures.plans ∙ c.meet_console.ensures.counts d)
