use Rattle.std.proofs.Common.{sym, subst, arith}
use Rattle.tod_stamp.specs.declared.stamp.Stamp.{Stamp}
use Rattle.group_tests.specs.Trials.{AreTried}
use Rattle.group_tests.proofs.Tried.{tried_later}
use Rattle.group_tests.proofs.trials.a_queue_keeps_what_a_plain_list_keeps.Goals as goal

pub drop_volume-requires-clause-tried : goal.drop_volume-requires-clause-tried
drop_volume-requires-clause-tried g c =
    let i = c.loop.invariant in
    tried_later c.loop.at c.saturating_add-at.result 4 c.loop.queue.state.waiting (omega (arith, i.small, c.saturating_add-at.ensures)) i.tried

pub pop-requires-clause-tried : goal.pop-requires-clause-tried
pop-requires-clause-tried g c =
    let i = c.loop.invariant in
    tried_later c.loop.at c.saturating_add-at.result 4 c.loop.queue.state.waiting (omega (arith, i.small, c.saturating_add-at.ensures)) i.tried

pub push-requires-clause-tried : goal.push-requires-clause-tried
push-requires-clause-tried g c =
    let i = c.loop.invariant in
    let waiting = c.loop.queue.state.waiting in
    subst (λ (t : Stamp). AreTried t.0 4 waiting) (sym c.update_at-write.ensures.stamp) (tried_later c.loop.at c.saturating_add-at.result 4 waiting (omega (arith, i.small, c.saturating_add-at.ensures)) i.tried)
