use Rattle.std.proofs.Common.{ap, ◌∙◌}
use Rattle.pending_queue.specs.Entries.{entries_never_fall}
use Rattle.pending_queue.proofs.VolumeLaws.{without_never_falls}
use Rattle.pending_queue.proofs.queue.Queue.drop_volume.Goals as goal

pub invariant_of-self : goal.invariant_of-self
invariant_of-self c = (ap (entries_never_fall 0) c.take_out.ensures.left ∙ without_never_falls c.args.volume c.self.inside.waiting.entries c.self.invariant.0, c.self.invariant.1)
