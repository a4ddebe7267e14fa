use Rattle.std.proofs.Common.{rules, ◌≡◌, ◌<◌, ◌≤◌, ◌+◌, ℕ, OnOk, subst, arith, ap}
use Rattle.crash_plant.specs.Clock.{clock_of}
use Rattle.crash_plant.specs.MemoryDisks.{view}
use Rattle.crash_plant.specs.Shelves.{ShelfNotes, last_done, lent_at}
use Rattle.crash_plant.proofs.Passing.{home_tried, last_tried, never_lent, passes_alike, stands_alike, passes_none, passes_noted, opened, synced}
use Rattle.crash_plant.proofs.Views.{at_each, is_home}
use Rattle.crash_plant.proofs.memory_plant.MemoryPlant.note.Goals as goal

pub returns-then-not-raise-clause-passes : goal.returns-then-not-raise-clause-passes
returns-then-not-raise-clause-passes c =
    let m = c.args.self.now in
    let same : c.raise.new.ticks ≡ m.ticks = search rules in
    passes_none c.args.done (clock_of m.ticks) (clock_of c.raise.new.ticks) (view m.disks c.args.device) (m.done c.args.device) (ap clock_of same)

pub invariant_of-self-2 : goal.invariant_of-self-2
invariant_of-self-2 c =
    let m = c.args.self.now in
    let d = c.args.device in
    let up : c.raise.new.ticks ≡ m.ticks + 1 = search rules in
    let later : clock_of m.ticks < clock_of c.raise.new.ticks = omega (arith, up) in
    let here = is_home m.disks d c.requires.there in
    let ok = subst (λ (k : ℕ). OnOk c.note.result (ShelfNotes k c.args.done c.args.place c.args.bytes.now (view m.disks d) (view c.note.new.self d))) c.moment.ensures c.note.ensures.ok in
    let err = c.note.ensures.err in
    record {
      few_journals = omega (arith, c.note.ensures.journals, m.few_journals);
      few_volumes = omega (arith, c.note.ensures.volumes, m.few_volumes);
      each_journal = search rules;
      each_volume = search rules;
      within = search rules;
      done = at_each (λ e s. last_done s ≤ clock_of c.raise.new.ticks) m.disks c.note.new.self d c.note.ensures.others (λ e. omega (arith, m.done e, up)) (last_tried c.note.result c.args.done c.args.place (clock_of m.ticks) (clock_of c.raise.new.ticks) c.args.bytes.now (view m.disks d) (view c.note.new.self d) here (m.done d) later ok err);
      loans = at_each (λ e s. lent_at s ≤ c.raise.new.ticks) m.disks c.note.new.self d c.note.ensures.others (λ e. omega (arith, m.loans e, up)) (omega (arith, never_lent (view c.note.new.self d) (home_tried c.note.result c.args.done c.args.place (clock_of m.ticks) (clock_of c.raise.new.ticks) c.args.bytes.now (view m.disks d) (view c.note.new.self d) here (m.done d) later ok err)));
      told = omega (arith, m.told, up);
    }

pub returns-in-Ok-clause-passes : goal.returns-in-Ok-clause-passes
returns-in-Ok-clause-passes c =
    let m = c.args.self.now in
    let d = c.args.device in
    let up : c.raise.new.ticks ≡ m.ticks + 1 = search rules in
    passes_noted c.args.done c.args.place (clock_of m.ticks) (clock_of c.raise.new.ticks) c.args.bytes.now (view m.disks d) (view c.note.new.self d) (is_home m.disks d c.requires.there) (m.done d) (omega (arith, up)) c.requires.does (search rules)

pub returns-in-Ok-clause-durable : goal.returns-in-Ok-clause-durable
returns-in-Ok-clause-durable c =
    let m = c.args.self.now in
    let d = c.args.device in
    let up : c.raise.new.ticks ≡ m.ticks + 1 = search rules in
    synced c.args.done c.args.place (clock_of m.ticks) (clock_of c.raise.new.ticks) c.args.bytes.now (view m.disks d) (view c.note.new.self d) (is_home m.disks d c.requires.there) (m.done d) (omega (arith, up)) c.requires.does (search rules)

pub returns-in-Ok-clause-opens : goal.returns-in-Ok-clause-opens
returns-in-Ok-clause-opens c =
    let m = c.args.self.now in
    let d = c.args.device in
    let up : c.raise.new.ticks ≡ m.ticks + 1 = search rules in
    opened c.args.done c.args.place (clock_of m.ticks) (clock_of c.raise.new.ticks) c.args.bytes.now (view m.disks d) (view c.note.new.self d) (is_home m.disks d c.requires.there) (m.done d) (omega (arith, up)) c.requires.does (search rules)

pub returns-in-Err-clause-passes : goal.returns-in-Err-clause-passes
returns-in-Err-clause-passes c =
    let m = c.args.self.now in
    let d = c.args.device in
    let up : c.raise.new.ticks ≡ m.ticks + 1 = search rules in
    passes_alike c.args.done (clock_of m.ticks) (clock_of c.raise.new.ticks) (view m.disks d) (view c.note.new.self d) (is_home m.disks d c.requires.there) (m.done d) (omega (arith, up)) c.in-Err.ensures.err

pub returns-in-Err-clause-stands : goal.returns-in-Err-clause-stands
returns-in-Err-clause-stands c = stands_alike (clock_of c.args.self.now.ticks) (clock_of c.raise.new.ticks) (view c.args.self.now.disks c.args.device) (view c.note.new.self c.args.device) (c.args.self.now.done c.args.device) c.in-Err.ensures.err
