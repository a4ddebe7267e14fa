use Rattle.std.proofs.Common.{arith}
use Rattle.pending_queue.proofs.waiting.WaitingList.len.Goals as goal

pub overflow_cast-result : goal.overflow_cast-result
overflow_cast-result c = omega (arith, c.self.invariant.size, c.self.invariant.few, c.len.ensures)
