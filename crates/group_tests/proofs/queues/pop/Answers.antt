use Rattle.std.proofs.Common.{arith}
use Rattle.pending_queue.proofs.EntryLaws.{due_within}
use Rattle.group_tests.proofs.queues.pop.Goals as goal

pub pop_upto-requires : goal.pop_upto-requires
pop_upto-requires g c = record { room = omega (arith, due_within (record { 0 = 9 }) c.args.queue.now.state.waiting) }
