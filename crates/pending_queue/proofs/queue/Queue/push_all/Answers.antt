use Rattle.std.proofs.Common.{true}
use Rattle.pending_queue.specs.Entries.{last_stamp}
use Rattle.pending_queue.proofs.VolumeLaws.{all_carried, carried_never_fall}
use Rattle.pending_queue.proofs.queue.Queue.push_all.Goals as goal

pub push_carried-requires-clause-stamps : goal.push_carried-requires-clause-stamps
push_carried-requires-clause-stamps c = carried_never_fall (λ _. true) (last_stamp c.args.self.now.state.waiting) c.args.batch.now.writes c.requires.stamps

pub returns-clause-pushed : goal.returns-clause-pushed
returns-clause-pushed c = rw (all_carried c.args.batch.now.writes) at c.push_carried.ensures.pushed

pub returns-clause-full : goal.returns-clause-full
returns-clause-full c = rw (all_carried c.args.batch.now.writes) at c.push_carried.ensures.full
