use Rattle.std.proofs.Common.{rules, ◌≡◌, ◌+◌, refl, arith}
use Rattle.crash_plant.specs.Clock.{clock_of}
use Rattle.crash_plant.specs.declared.shelf.Shelf.TheVariants.{Here}
use Rattle.crash_plant.specs.Moments.{Same}
use Rattle.crash_plant.proofs.Passing.{passes_still, stands_still}
use Rattle.crash_plant.proofs.memory_volume.MemoryVolumeDisk.read.Goals as goal

pub returns-clause-moments : goal.returns-clause-moments
returns-clause-moments c =
    let volume = c.args.self.now in
    let up : c.raise.new.ticks ≡ volume.ticks + 1 = search rules in
    (passes_still Same (clock_of volume.ticks) (clock_of c.raise.new.ticks) (Here volume.disk) (λ l. refl) volume.done (omega (arith, up))).follows

pub returns-clause-stands : goal.returns-clause-stands
returns-clause-stands c = stands_still (clock_of c.args.self.now.ticks) (clock_of c.raise.new.ticks) (Here c.args.self.now.disk) c.args.self.now.done
