use Rattle.std.proofs.Common.{true, ◌∷◌, [], ◌++◌, length, drop, ◌∙◌}
use Rattle.ckd_track.specs.declared.write.Kind.TheVariants.{Whole}
use Rattle.pending_queue.specs.Entries.{copy_of}
use Rattle.pending_queue.proofs.Places.{form_in}
use Rattle.pending_queue.proofs.pushing.push_copy.Goals as goal

pub returns-clause-pushed : goal.returns-clause-pushed
returns-clause-pushed c =
    let form = (copy_of c.args.head c.args.slot.now).form in
    let is = form_in c.put_copy-len.result form c.put_copy-len.new.out (drop (length form) c.args.form.now) c.put_copy-len.ensures.form c.put_copy-len.ensures.length in
    c.push.ensures.pushed ∙ (λ i. c.args.waiting.now.entries ++ record { head = c.args.head; kind = Whole (c.of.ensures i); form = is i; is_copy = true } ∷ [])
