use Rattle.crash_plant.proofs.Crashes.{crash_chosen, crash_images, crash_none_lent, crash_silent, crash_site}
use Rattle.crash_plant.proofs.memory_plant.MemoryPlant.crash.Goals as goal

pub returns-clause-site : goal.returns-clause-site
returns-clause-site c = crash_site c.args.self.now c.in_ok-plant.plant c.args.choice.now c.in_ok-plant.ensures.remains c.requires c.in_ok-plant.ensures.journals c.in_ok-plant.ensures.volumes

pub returns-clause-images : goal.returns-clause-images
returns-clause-images c = crash_images c.args.self.now c.in_ok-plant.plant c.args.choice.now c.in_ok-plant.ensures.remains c.requires

pub returns-clause-chosen : goal.returns-clause-chosen
returns-clause-chosen c = crash_chosen c.args.self.now c.in_ok-plant.plant c.args.choice.now c.in_ok-plant.ensures.remains c.requires

pub returns-clause-none_lent : goal.returns-clause-none_lent
returns-clause-none_lent c = crash_none_lent c.args.self.now c.in_ok-plant.plant c.args.choice.now c.in_ok-plant.ensures.remains c.requires c.in_ok-plant.ensures.volumes

pub returns-clause-console : goal.returns-clause-console
returns-clause-console c = crash_silent c.in_ok-plant.plant c.in_ok-plant.ensures.script c.in_ok-plant.ensures.next c.in_ok-plant.ensures.said c.in_ok-plant.ensures.faults
