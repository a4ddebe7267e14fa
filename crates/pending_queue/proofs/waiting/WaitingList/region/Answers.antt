use Rattle.std.proofs.Common.{arith}
use Rattle.pending_queue.proofs.Waits.{taken_of_region}
use Rattle.pending_queue.proofs.waiting.WaitingList.region.Goals as goal

pub returns-clause-free : goal.returns-clause-free
returns-clause-free c = rw (← c.self.view_is) (omega (arith, taken_of_region c.self.inside.region c.self.inside.entries.items c.self.invariant.out))
