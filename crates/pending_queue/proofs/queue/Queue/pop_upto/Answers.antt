use Rattle.std.proofs.Common.{ap, ◌∙◌}
use Rattle.pending_queue.specs.Entries.{entries_never_fall}
use Rattle.pending_queue.proofs.EntryLaws.{left_never_falls, each_once}
use Rattle.pending_queue.proofs.queue.Queue.pop_upto.Goals as goal

pub invariant_of-self : goal.invariant_of-self
invariant_of-self c = (ap (entries_never_fall 0) c.take_due.ensures.left ∙ left_never_falls c.args.cut c.self.inside.waiting.entries c.self.invariant.0, c.self.invariant.1)

pub returns-clause-front : goal.returns-clause-front
returns-clause-front c = rw (← c.self.view_is) (each_once c.args.cut 0 c.self.inside.waiting.entries c.self.invariant.0)
