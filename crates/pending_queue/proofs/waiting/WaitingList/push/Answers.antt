use Rattle.std.proofs.Common.{◌≡◌, ◌∷◌, [], ◌++◌, ap, ◌∙◌, subst, length, arith}
use Rattle.std.specs.Prelude.{IfOk}
use Rattle.std.proofs.lemmas.List.{length-map}
use Rattle.std.specs.VecDeque.{deque_capacity}
use Rattle.block_region.specs.Regions.{ChainState, chain_bytes_at, chain_bytes, Holds, with_chain}
use Rattle.pending_queue.specs.Entries.{entry_by}
use Rattle.pending_queue.specs.Waitings.{WaitingState, entry_in}
use Rattle.pending_queue.proofs.Waits.{IsTaken, IsPushed, pushed}
use Rattle.pending_queue.proofs.waiting.WaitingList.push.Goals as goal

taken : (c : goal.After-push_back_reserved) → IsTaken c.self.inside.region c.take.new.self c.unwrap-chain.result c.args.form.now
taken c = record {
  len = subst (λ r. IfOk r (λ (chain : ChainState). chain.len ≡ length c.args.form.now)) c.unwrap-chain.ensures c.take.ensures.len;
  fresh = subst (λ r. IfOk r (λ (chain : ChainState). chain_bytes_at c.self.inside.region chain.first ≡ [])) c.unwrap-chain.ensures c.take.ensures.fresh;
  taken = subst (λ r. IfOk r (λ (chain : ChainState). c.take.new.self ≡ with_chain c.self.inside.region chain.first c.args.form.now)) c.unwrap-chain.ensures c.take.ensures.taken;
  held = subst (λ r. IfOk r (λ (chain : ChainState). Holds c.take.new.self chain)) c.unwrap-chain.ensures c.take.ensures.held;
  bytes_are = subst (λ r. IfOk r (λ (chain : ChainState). chain_bytes c.take.new.self chain ≡ c.args.form.now)) c.unwrap-chain.ensures c.take.ensures.bytes;
}

step : (c : goal.After-push_back_reserved)
    → IsPushed c.self.inside.most (deque_capacity c.push_back_reserved.new.self) c.self.inside.region c.take.new.self c.self.inside.entries.items c.push_back_reserved.new.self.items (entry_by c.args.head c.args.effect c.args.form.now)
step c =
    pushed c.self.inside.most (deque_capacity c.self.inside.entries) (deque_capacity c.push_back_reserved.new.self) c.self.inside.region c.take.new.self c.self.inside.entries.items c.push_back_reserved.new.self.items
    (record { head = c.args.head; chain = c.unwrap-chain.result; effect = c.args.effect }) c.args.form.now c.self.invariant
    (omega (arith, c.requires.record, ap (λ (s : WaitingState). s.most) c.self.view_is, ap (λ (s : WaitingState). length s.entries) c.self.view_is, length-map c.self.inside.entries.items (entry_in c.self.inside.region)))
    (taken c) c.requires.write c.requires.short c.push_back_reserved.ensures.items c.push_back_reserved.ensures.capacity

pub invariant_of-self : goal.invariant_of-self
invariant_of-self c = (step c).keeps

pub returns-clause-pushed : goal.returns-clause-pushed
returns-clause-pushed c = (step c).entries ∙ ap (λ (s : WaitingState). s.entries ++ entry_by c.args.head c.args.effect c.args.form.now ∷ []) c.self.view_is
