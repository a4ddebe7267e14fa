use Rattle.std.proofs.Common.{rules, ◌<◌, ◌≤◌, ◌+◌, List, sym, ap, subst, arith}
use Rattle.crash_plant.specs.declared.device.Device.TheVariants.{Volume}
use Rattle.crash_plant.specs.Clock.{clock_of}
use Rattle.crash_plant.specs.MemoryDisk.{Moves, past_of}
use Rattle.crash_plant.specs.MemoryDisks.{view}
use Rattle.crash_plant.specs.Pasts.{Note, last_till}
use Rattle.crash_plant.specs.Shelves.{last_done, lent_at}
use Rattle.crash_plant.proofs.Records.{last_moved}
use Rattle.crash_plant.proofs.Loans.{shelves_moved}
use Rattle.crash_plant.proofs.Views.{at_each}
use Rattle.crash_plant.proofs.memory_plant.MemoryPlant.shelve.Goals as goal

pub invariant_of-self-else-ticks-lent : goal.invariant_of-self-else-ticks-lent
invariant_of-self-else-ticks-lent c =
    let m = c.args.self.now in
    let now = c.back-now.result in
    let lent = c.lent_at-lent.result in
    let put = c.put-else-ticks-lent in
    let moments : clock_of lent + 1 < clock_of now = omega (arith, c.back-now.ensures.after) in
    let moves : Moves (clock_of lent) (clock_of now) c.args.disk c.moved.result = search rules in
    let last : last_till 0 (past_of c.moved.result) ≤ clock_of now = subst (λ (l : List Note). last_till 0 l ≤ clock_of now) (sym moves.past) (last_moved (clock_of lent) (clock_of now) moments 0 (past_of c.args.disk) (omega arith)) in
    record {
      few_journals = omega (arith, put.ensures.journals, m.few_journals);
      few_volumes = omega (arith, put.ensures.volumes, m.few_volumes);
      each_journal = search rules;
      each_volume = search rules;
      within = c.back-now.ensures.within;
      done = at_each (λ e s. last_done s ≤ clock_of now) m.disks put.new.self (Volume c.args.device) put.ensures.others (λ e. omega (arith, m.done e, c.back-now.ensures.later)) (omega (arith, last, ap last_done put.ensures.here));
      loans = at_each (λ e s. lent_at s ≤ now) m.disks put.new.self (Volume c.args.device) put.ensures.others (λ e. omega (arith, m.loans e, c.back-now.ensures.later)) (omega (arith, ap lent_at put.ensures.here));
      told = omega (arith, m.told, c.back-now.ensures.later);
    }

pub returns-else-ticks-lent-clause-here : goal.returns-else-ticks-lent-clause-here
returns-else-ticks-lent-clause-here c =
    let m = c.args.self.now in
    let now = c.back-now.result in
    let lent = c.lent_at-lent.result in
    let moves : Moves (clock_of lent) (clock_of now) c.args.disk c.moved.result = search rules in
    let rises : lent < c.args.ticks = search rules in
    shelves_moved c.args.ticks lent (lent_at (view m.disks (Volume c.args.device))) m.ticks now c.args.disk c.moved.result _ c.lent_at-lent.ensures rises c.requires.own c.back-now.ensures.after moves c.put-else-ticks-lent.ensures.here
