use Rattle.crash_plant.specs.Pasts.{moved_entry}
use Rattle.crash_plant.proofs.Planned.{one_more}
use Rattle.crash_plant.proofs.memory_disk.move_entries.Goals as goal

pub loop-entry-preserved : goal.loop-entry-preserved
loop-entry-preserved c = one_more (moved_entry c.args.lent c.args.till) _ _ _ _ c.loop-entry-test.true c.loop-entry.invariant _ c.move_entry.ensures
