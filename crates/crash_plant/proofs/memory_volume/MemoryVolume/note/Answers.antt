use Rattle.std.proofs.Common.{rules, ◌≡◌, ◌<◌, ◌+◌, refl, arith, ap}
use Rattle.crash_plant.specs.Clock.{clock_of}
use Rattle.crash_plant.specs.declared.shelf.Shelf.TheVariants.{Here}
use Rattle.crash_plant.proofs.Passing.{last_tried, stands_alike, passes_alike, passes_none, passes_noted, opened, synced}
use Rattle.crash_plant.proofs.Views.{alike_here, alike_shelf, noted_here, noted_shelf}
use Rattle.crash_plant.proofs.memory_volume.MemoryVolume.note.Goals as goal

pub returns-then-not-raise-clause-passes : goal.returns-then-not-raise-clause-passes
returns-then-not-raise-clause-passes c =
    let volume = c.args.self.now in
    let same : c.raise.new.ticks ≡ volume.ticks = search rules in
    passes_none c.args.done (clock_of volume.ticks) (clock_of c.raise.new.ticks) (Here volume.disk) volume.done (ap clock_of same)

pub invariant_of-self-2 : goal.invariant_of-self-2
invariant_of-self-2 c =
    let volume = c.args.self.now in
    let up : c.raise.new.ticks ≡ volume.ticks + 1 = search rules in
    let later : clock_of volume.ticks < clock_of c.raise.new.ticks = omega (arith, up) in
    let ok = noted_shelf c.note.result (clock_of c.raise.new.ticks) c.args.done c.args.place c.args.bytes.now (Here volume.disk) (Here c.note.new.self) volume.disk c.note.new.self refl refl (search rules) in
    let err = alike_shelf c.note.result (Here volume.disk) (Here c.note.new.self) volume.disk c.note.new.self refl refl c.note.ensures.err in
    record { within = search rules; done = last_tried c.note.result c.args.done c.args.place (clock_of volume.ticks) (clock_of c.raise.new.ticks) c.args.bytes.now (Here volume.disk) (Here c.note.new.self) refl volume.done later ok err }

pub returns-in-Ok-clause-passes : goal.returns-in-Ok-clause-passes
returns-in-Ok-clause-passes c =
    let volume = c.args.self.now in
    let up : c.raise.new.ticks ≡ volume.ticks + 1 = search rules in
    passes_noted c.args.done c.args.place (clock_of volume.ticks) (clock_of c.raise.new.ticks) c.args.bytes.now (Here volume.disk) (Here c.note.new.self) refl volume.done (omega (arith, up)) c.requires.does (noted_here _ _ _ _ volume.disk c.note.new.self (search rules))

pub returns-in-Ok-clause-durable : goal.returns-in-Ok-clause-durable
returns-in-Ok-clause-durable c =
    let volume = c.args.self.now in
    let up : c.raise.new.ticks ≡ volume.ticks + 1 = search rules in
    synced c.args.done c.args.place (clock_of volume.ticks) (clock_of c.raise.new.ticks) c.args.bytes.now (Here volume.disk) (Here c.note.new.self) refl volume.done (omega (arith, up)) c.requires.does (noted_here _ _ _ _ volume.disk c.note.new.self (search rules))

pub returns-in-Ok-clause-opens : goal.returns-in-Ok-clause-opens
returns-in-Ok-clause-opens c =
    let volume = c.args.self.now in
    let up : c.raise.new.ticks ≡ volume.ticks + 1 = search rules in
    opened c.args.done c.args.place (clock_of volume.ticks) (clock_of c.raise.new.ticks) c.args.bytes.now (Here volume.disk) (Here c.note.new.self) refl volume.done (omega (arith, up)) c.requires.does (noted_here _ _ _ _ volume.disk c.note.new.self (search rules))

pub returns-in-Err-clause-passes : goal.returns-in-Err-clause-passes
returns-in-Err-clause-passes c =
    let volume = c.args.self.now in
    let up : c.raise.new.ticks ≡ volume.ticks + 1 = search rules in
    passes_alike c.args.done (clock_of volume.ticks) (clock_of c.raise.new.ticks) (Here volume.disk) (Here c.note.new.self) refl volume.done (omega (arith, up)) (alike_here volume.disk c.note.new.self c.in-Err.ensures.err)

pub returns-in-Err-clause-stands : goal.returns-in-Err-clause-stands
returns-in-Err-clause-stands c =
    let volume = c.args.self.now in
    stands_alike (clock_of volume.ticks) (clock_of c.raise.new.ticks) (Here volume.disk) (Here c.note.new.self) volume.done (alike_here volume.disk c.note.new.self c.in-Err.ensures.err)
