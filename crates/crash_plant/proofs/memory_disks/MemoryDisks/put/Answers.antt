use Rattle.crash_plant.specs.declared.shelf.Shelf.TheVariants.{Here}
use Rattle.crash_plant.proofs.Views.{place_is, other_places}
use Rattle.crash_plant.proofs.memory_disks.MemoryDisks.put.Goals as goal

pub returns-clause-here : goal.returns-clause-here
returns-clause-here c = place_is c.args.self.now c.args.device _ c.from.ensures c.requires (Here c.args.disk)

pub returns-clause-others : goal.returns-clause-others
returns-clause-others c d other = other_places c.args.self.now c.args.device _ c.from.ensures c.requires (Here c.args.disk) d other
