use Rattle.std.proofs.Common.{false, ◌∷◌, [], ◌++◌, length, drop, ◌∙◌}
use Rattle.ckd_track.specs.Entries.{queue_form}
use Rattle.pending_queue.proofs.Places.{form_in}
use Rattle.pending_queue.proofs.pushing.push_write.Goals as goal

pub returns-clause-pushed : goal.returns-clause-pushed
returns-clause-pushed c =
    let form = queue_form c.args.write.now in
    let is = form_in c.entry_len-len.result form c.put_entry.new.out (drop (length form) c.args.form.now) c.put_entry.ensures.form c.entry_len-len.ensures.form in
    c.push.ensures.pushed ∙ (λ i. c.args.waiting.now.entries ++ record { head = c.head_of.ensures i; kind = c.of.ensures i; form = is i; is_copy = false } ∷ [])
