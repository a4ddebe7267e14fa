use Rattle.std.proofs.Common.{length, ap, arith}
use Rattle.pending_queue.specs.Groups.{FormedGroup}
use Rattle.pending_queue.proofs.EntryLaws.{due_within}
use Rattle.group_tests.proofs.trials.pop.Goals as goal

pub pop_upto-requires : goal.pop_upto-requires
pop_upto-requires g c = record { room = omega (arith, due_within (record { 0 = c.args.cut }) c.args.queue.now.state.waiting, ap (λ (o : FormedGroup). length o.entries) c.begin.ensures, ap (λ (o : FormedGroup). o.controls) c.begin.ensures, c.requires.one, c.len.ensures.count) }
