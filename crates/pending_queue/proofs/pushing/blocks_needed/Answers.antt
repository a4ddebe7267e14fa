use Rattle.std.proofs.Common.{arith}
use Rattle.pending_queue.proofs.VolumeLaws.{carried_within}
use Rattle.pending_queue.proofs.pushing.blocks_needed.Goals as goal

pub overflow_add-blocks : goal.overflow_add-blocks
overflow_add-blocks g c = omega (arith, carried_within (g.C.Carrier.carries c.args.carrier.now) c.args.writes.now c.loop-write.write-index)
