use Rattle.std.proofs.Common.{◌++◌, drop, ap, ◌∙◌}
use Rattle.std.specs.Prelude.{Option}
use Rattle.std.specs.Option.{option_to_list}
use Rattle.std.specs.VecDeque.{deque_capacity}
use Rattle.pending_queue.specs.declared.waiting.Waiting.{Waiting}
use Rattle.pending_queue.specs.Waitings.{WaitingState}
use Rattle.pending_queue.proofs.Waits.{IsGiven, given}
use Rattle.pending_queue.proofs.waiting.WaitingList.give_front.Goals as goal

step : (c : goal.After-give) → IsGiven c.self.inside.most (deque_capacity c.pop_front.new.self) c.self.inside.region c.give.new.self c.self.inside.entries.items c.pop_front.new.self.items
step c =
    given c.self.inside.most (deque_capacity c.self.inside.entries) (deque_capacity c.pop_front.new.self) c.self.inside.region c.give.new.self c.self.inside.entries.items c.pop_front.new.self.items c.unwrap-chain.result
    c.self.invariant (c.pop_front.ensures.items ∙ ap (λ (o : Option Waiting). option_to_list o ++ c.pop_front.new.self.items) c.unwrap-chain.ensures) c.give.ensures.given c.pop_front.ensures.capacity

pub invariant_of-self : goal.invariant_of-self
invariant_of-self c = (step c).keeps

pub returns-clause-left : goal.returns-clause-left
returns-clause-left c = (step c).entries ∙ ap (λ (s : WaitingState). drop 1 s.entries) c.self.view_is
