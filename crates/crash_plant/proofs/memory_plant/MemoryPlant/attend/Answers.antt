use Rattle.std.proofs.Common.{rules, ◌≡◌, ◌+◌, ℕ, IfOk, subst, arith}
use Rattle.crash_plant.specs.Clock.{clock_of}
use Rattle.crash_plant.specs.MemoryConsole.{HearsNext}
use Rattle.crash_plant.proofs.Consoles.{told_heard}
use Rattle.crash_plant.proofs.memory_plant.MemoryPlant.attend.Goals as goal

pub invariant_of-self-2 : goal.invariant_of-self-2
invariant_of-self-2 c =
    let m = c.args.self.now in
    let up : c.raise.new.ticks ≡ m.ticks + 1 = search rules in
    let ok = subst (λ (k : ℕ). IfOk c.hear.result (λ heard. HearsNext k m.console c.hear.new.self heard)) c.moment.ensures c.hear.ensures.ok in
    record {
      few_journals = m.few_journals;
      few_volumes = m.few_volumes;
      each_journal = m.each_journal;
      each_volume = m.each_volume;
      within = search rules;
      done = λ d. omega (arith, m.done d, up);
      loans = λ d. omega (arith, m.loans d, up);
      told = told_heard c.hear.result (clock_of c.raise.new.ticks) m.console c.hear.new.self ok c.hear.ensures.err (omega (arith, m.told, up));
    }
