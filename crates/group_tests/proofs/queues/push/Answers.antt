use Rattle.std.proofs.Common.{◌≡◌, ◌≤◌, ◌++◌, ap, ◌∙◌, arith}
use Rattle.ckd_track.specs.declared.write.Batch.{Batch}
use Rattle.pending_queue.specs.Entries.{entry_of, entries_of, last_stamp}
use Rattle.pending_queue.specs.Queues.{QueueState, QueueInRegion, with_waiting}
use Rattle.pending_queue.proofs.EntryLaws.{last_stamp_pushed}
use Rattle.group_tests.proofs.Tried.{on_either}
use Rattle.group_tests.proofs.queues.push.Goals as goal

pub returns : goal.returns
returns g c =
    let queue = c.args.queue.now in
    let new = c.push_all.new.self in
    let state = queue.state in
    let b = c.batch_of-batch.result in
    on_either c.push_all.result (new.state ≡ with_waiting state (state.waiting ++ entries_of state.control b.writes)) (new ≡ queue) (last_stamp new.state.waiting ≤ 9)
    (λ is. omega (arith, ap (λ (q : QueueState). last_stamp q.waiting) is ∙ ap (λ (b : Batch). last_stamp (state.waiting ++ entries_of state.control b.writes)) c.batch_of-batch.ensures ∙ last_stamp_pushed 0 state.waiting (entry_of state.control c.args.write)))
    (λ is. omega (arith, ap (λ (q : QueueInRegion). last_stamp q.state.waiting) is, c.requires)) c.push_all.ensures.pushed c.push_all.ensures.refused
