use Rattle.std.proofs.Common.{◌≡◌, List, ◌++◌, ap, ◌∙◌}
use Rattle.std.specs.Prelude.{filter}
use Rattle.ckd_track.specs.declared.write.Write.{Write}
use Rattle.ckd_track.specs.Writes.{writes_never_fall}
use Rattle.pending_queue.specs.Entries.{entries_of, entries_never_fall, last_stamp}
use Rattle.pending_queue.specs.Queues.{QueueInRegion}
use Rattle.pending_queue.proofs.EntryLaws.{pushed_never_fall}
use Rattle.pending_queue.proofs.queue.Queue.push_carried.Goals as goal

pub invariant_of-self : goal.invariant_of-self
invariant_of-self g c =
    let control = c.self.inside.control in
    let waiting = c.self.inside.waiting.entries in
    let carries = g.C.Carrier.carries c.args.carrier.now in
    let carried = filter carries c.args.batch.now.writes in
    let given : filter carries c.as_slice-writes.result.now ≡ carried = ap (filter carries) c.as_slice-writes.ensures in
    let pushed = c.push_entries.ensures.pushed ∙ ap (λ (ws : List Write). waiting ++ entries_of control ws) given in
    let stamps = ap (λ (queue : QueueInRegion). writes_never_fall (last_stamp queue.state.waiting) carried) c.self.view_is ∙ c.requires.stamps in
    (ap (entries_never_fall 0) pushed ∙ pushed_never_fall control 0 waiting carried c.self.invariant.0 stamps, c.self.invariant.1)
