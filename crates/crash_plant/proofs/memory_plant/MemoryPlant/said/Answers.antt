use Rattle.std.proofs.Common.{sym, ◌∙◌}
use Rattle.crash_plant.specs.Clock.{clock_of}
use Rattle.crash_plant.proofs.Consoles.{said_now}
use Rattle.crash_plant.proofs.memory_plant.MemoryPlant.said.Goals as goal

pub returns : goal.returns
returns c = c.said.ensures ∙ sym (said_now c.args.self.now.console (clock_of c.args.self.now.ticks) c.args.self.now.told)
