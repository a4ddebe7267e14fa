use Rattle.std.proofs.Common.{length, get_or, refl, ap, ◌∙◌, subst, arith}
use Rattle.block_region.specs.Regions.{Holds}
use Rattle.pending_queue.specs.Waitings.{WaitingState}
use Rattle.pending_queue.proofs.Waits.{held_at, len_at}
use Rattle.pending_queue.proofs.waiting.WaitingList.chain.Goals as goal

pub returns-clause-held : goal.returns-clause-held
returns-clause-held c =
    let w = c.in_ok-waiting.waiting.now in
    subst (λ (s : WaitingState). Holds s.region w.chain) c.self.view_is
    (held_at c.self.inside.region c.self.inside.entries.items c.args.place w c.self.invariant.out.held (omega (arith, c.in_ok-waiting.ensures.variant.0 refl)) c.in_ok-waiting.ensures.lookup)

pub returns-clause-len : goal.returns-clause-len
returns-clause-len c = λ other.
    len_at c.self.inside.region c.self.inside.entries.items c.args.place c.in_ok-waiting.waiting.now other c.self.invariant.out.held (omega (arith, c.in_ok-waiting.ensures.variant.0 refl)) c.in_ok-waiting.ensures.lookup
    ∙ ap (λ (s : WaitingState). length (get_or s.entries c.args.place other).form) c.self.view_is
