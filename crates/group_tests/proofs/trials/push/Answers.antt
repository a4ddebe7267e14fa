use Rattle.std.proofs.Common.{◌≡◌, true, ◌++◌, nat_le, nat_lt, refl, ap, sym, subst, ◌∙◌, arith}
use Rattle.std.proofs.lemmas.Bool.{and_from, lt-ltb, le-leb}
use Rattle.ckd_track.specs.declared.write.Batch.{Batch}
use Rattle.ckd_track.specs.Writes.{writes_never_fall}
use Rattle.pending_queue.specs.Entries.{entry_of, entries_of, last_stamp}
use Rattle.pending_queue.specs.Queues.{QueueState, QueueInRegion, with_waiting}
use Rattle.group_tests.specs.Trials.{AreTried}
use Rattle.group_tests.proofs.Tried.{on_either, tried_last, tried_more}
use Rattle.group_tests.proofs.trials.push.Goals as goal

pub push_all-pushed-requires-clause-stamps : goal.push_all-pushed-requires-clause-stamps
push_all-pushed-requires-clause-stamps g c =
    let waiting = c.args.queue.now.state.waiting in
    let w = c.args.write in
    subst (λ (b : Batch). writes_never_fall (last_stamp waiting) b.writes ≡ true) (sym c.batch_of-batch.ensures)
    (and_from (nat_le (last_stamp waiting) w.stamp.0) true (le-leb (last_stamp waiting) w.stamp.0 (tried_last w.stamp.0 4 waiting c.requires.tried)) refl)

pub returns : goal.returns
returns g c =
    let queue = c.args.queue.now in
    let state = queue.state in
    let w = c.args.write in
    let at = w.stamp.0 in
    let new = c.push_all-pushed.new.self in
    let b = c.batch_of-batch.result in
    on_either c.push_all-pushed.result (new.state ≡ with_waiting state (state.waiting ++ entries_of state.control b.writes)) (new ≡ queue) (AreTried at 4 new.state.waiting)
    (λ is. subst (λ (q : QueueState). AreTried at 4 q.waiting) (sym (is ∙ ap (λ (b : Batch). with_waiting state (state.waiting ++ entries_of state.control b.writes)) c.batch_of-batch.ensures))
    (tried_more at 4 state.waiting (entry_of state.control w) c.requires.tried (and_from (nat_le at at) (nat_lt w.track 4) (le-leb at at (omega arith)) (lt-ltb w.track 4 c.requires.track))))
    (λ is. subst (λ (q : QueueInRegion). AreTried at 4 q.state.waiting) (sym is) c.requires.tried) c.push_all-pushed.ensures.pushed c.push_all-pushed.ensures.refused
