use Rattle.crash_plant.proofs.Crashes.{if_left}
use Rattle.crash_plant.proofs.memory_disks.disk_left.Goals as goal

pub returns : goal.returns
returns c = if_left c.left.result c.args.choice.now c.args.disk.now c.left.ensures
