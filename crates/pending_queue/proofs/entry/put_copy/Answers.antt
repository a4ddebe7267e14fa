use Rattle.std.proofs.Common.{◌++◌, length, drop, ap, ◌∙◌}
use Rattle.pending_queue.proofs.Places.{two_parts}
use Rattle.pending_queue.proofs.entry.put_copy.Goals as goal

pub returns-clause-form : goal.returns-clause-form
returns-clause-form c =
    two_parts c.copy_front.result c.bytes.result.now c.args.out.now c.put_bytes.new.out c.put_bytes-2.new.out (ap length c.copy_front.ensures) c.put_bytes.ensures c.put_bytes-2.ensures
    ∙ (λ i. (c.copy_front.ensures i ++ c.bytes.ensures.image i) ++ drop (length (c.copy_front.ensures i ++ c.bytes.ensures.image i)) c.args.out.now)
