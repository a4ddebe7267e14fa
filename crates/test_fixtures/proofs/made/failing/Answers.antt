use Rattle.crash_plant.specs.MemoryPlant.{memory_state}
use Rattle.crash_plant.specs.PlainPlant.{plain_state}
use Rattle.crash_plant.proofs.Resize.{none_lent_same}
use Rattle.test_fixtures.proofs.made.failing.Goals as goal

pub returns-clause-home : goal.returns-clause-home
returns-clause-home c = none_lent_same (plain_state c.args.plain) (memory_state c.in_ok-plant.plant) c.in_ok-plant.ensures.devices c.requires
