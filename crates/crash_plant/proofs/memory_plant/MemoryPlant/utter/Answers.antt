use Rattle.std.proofs.Common.{rules, ◌≡◌, ◌+◌, ℕ, OnOk, subst, arith}
use Rattle.crash_plant.specs.Clock.{clock_of}
use Rattle.crash_plant.specs.MemoryConsole.{Utters}
use Rattle.crash_plant.proofs.Consoles.{told_uttered}
use Rattle.crash_plant.proofs.memory_plant.MemoryPlant.utter.Goals as goal

pub invariant_of-self-2 : goal.invariant_of-self-2
invariant_of-self-2 c =
    let m = c.args.self.now in
    let up : c.raise.new.ticks ≡ m.ticks + 1 = search rules in
    let ok = subst (λ (k : ℕ). OnOk c.say.result (Utters k c.args.bytes.now m.console c.say.new.self)) c.moment.ensures c.say.ensures.ok in
    record {
      few_journals = m.few_journals;
      few_volumes = m.few_volumes;
      each_journal = m.each_journal;
      each_volume = m.each_volume;
      within = search rules;
      done = λ d. omega (arith, m.done d, up);
      loans = λ d. omega (arith, m.loans d, up);
      told = told_uttered c.say.result (clock_of c.raise.new.ticks) c.args.bytes.now m.console c.say.new.self ok c.say.ensures.err (omega (arith, m.told, up));
    }
