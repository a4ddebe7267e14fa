use Rattle.std.proofs.Common.{◌++◌, take, drop, length, ap, ◌∙◌, arith}
use Rattle.std.specs.VecDeque.{deque_capacity}
use Rattle.std.proofs.lemmas.List.{length-map}
use Rattle.pending_queue.specs.Waitings.{WaitingState, entry_in}
use Rattle.pending_queue.proofs.Waits.{IsTurned, turned}
use Rattle.pending_queue.proofs.waiting.WaitingList.turn_front.Goals as goal

step : (c : goal.After-rotate_left) → IsTurned c.self.inside.most (deque_capacity c.rotate_left.new.self) c.self.inside.region c.self.inside.entries.items c.rotate_left.new.self.items
step c =
    turned c.self.inside.most (deque_capacity c.self.inside.entries) (deque_capacity c.rotate_left.new.self) c.self.inside.region c.self.inside.entries.items c.rotate_left.new.self.items c.self.invariant
    (omega (arith, c.requires, ap (λ (s : WaitingState). length s.entries) c.self.view_is, length-map c.self.inside.entries.items (entry_in c.self.inside.region))) c.rotate_left.ensures.items c.rotate_left.ensures.capacity

pub invariant_of-self : goal.invariant_of-self
invariant_of-self c = (step c).keeps

pub returns-clause-turned : goal.returns-clause-turned
returns-clause-turned c = (step c).entries ∙ ap (λ (s : WaitingState). drop 1 s.entries ++ take 1 s.entries) c.self.view_is
