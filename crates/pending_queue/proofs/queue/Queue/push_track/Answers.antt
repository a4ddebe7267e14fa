use Rattle.std.proofs.Common.{ap, ◌∙◌, arith}
use Rattle.pending_queue.specs.Entries.{copy_of, copy_head, entries_never_fall, last_stamp}
use Rattle.pending_queue.specs.Queues.{QueueInRegion}
use Rattle.pending_queue.proofs.VolumeLaws.{pushed_rises}
use Rattle.pending_queue.proofs.queue.Queue.push_track.Goals as goal

pub invariant_of-self : goal.invariant_of-self
invariant_of-self c =
    let waiting = c.self.inside.waiting.entries in
    let entry = copy_of (copy_head c.self.inside.control c.args.volume c.args.track c.args.stamp) c.args.slot.now in
    let same_last = ap (λ (queue : QueueInRegion). last_stamp queue.state.waiting) c.self.view_is in
    (ap (entries_never_fall 0) c.push_copy.ensures.pushed ∙ pushed_rises 0 waiting entry c.self.invariant.0 (omega (arith, same_last, c.requires.last)), c.self.invariant.1)
