use Rattle.std.proofs.Common.{sym, ◌∙◌, ap}
use Rattle.crash_plant.specs.Shelves.{lent_at}
use Rattle.crash_plant.proofs.Views.{place_was}
use Rattle.crash_plant.proofs.memory_disks.MemoryDisks.lent_at.Goals as goal

pub returns-in-Lent : goal.returns-in-Lent
returns-in-Lent c = sym (ap lent_at (place_was c.args.self.now c.args.device _ c.from.ensures c.requires _ c.index.ensures ∙ c.in-Lent.is))

pub returns-in-Here : goal.returns-in-Here
returns-in-Here c = sym (ap lent_at (place_was c.args.self.now c.args.device _ c.from.ensures c.requires _ c.index.ensures ∙ c.in-Here.is))

pub returns-in-Away : goal.returns-in-Away
returns-in-Away c = sym (ap lent_at (place_was c.args.self.now c.args.device _ c.from.ensures c.requires _ c.index.ensures ∙ c.in-Away.is))
