use Rattle.std.proofs.Common.{◌≡◌, ◌∙◌, ◌≤◌, ◌++◌, ℕ, ap, arith, List, length, drop, refl}
use Rattle.ckd_track.specs.Entries.{kind_spelling, queue_form}
use Rattle.ckd_track.proofs.KindLaws.{short_fields}
use Rattle.ckd_track.proofs.Puts.{put_two, at_front}
use Rattle.ckd_track.proofs.entry.put_entry.Goals as goal

pub overflow_cast-result : goal.overflow_cast-result
overflow_cast-result c = omega (arith, short_fields c.args.write.now.kind c.put_fields.ensures.kind, c.put_fields.ensures.end, c.put_bytes-fields.ensures.end)

pub returns-clause-form : goal.returns-clause-form
returns-clause-form c =
    let fields = kind_spelling c.args.write.now.kind in
    let whole : c.form_head.result ++ fields ≡ queue_form c.args.write.now = rw c.form_head.ensures refl in
    let room : c.put_bytes-fields.result ≤ length c.args.out.now = omega (arith, c.put_bytes-fields.ensures.end, c.requires.room) in
    put_two 0 c.put_bytes-fields.result c.form_head.result fields c.args.out.now c.put_bytes-fields.new.buffer c.put_fields.new.out c.put_bytes-fields.ensures.end room c.put_bytes-fields.ensures.bytes c.put_fields.ensures.bytes
    ∙ at_front (c.form_head.result ++ fields) c.args.out.now ∙ ap (λ (t : List ℕ). t ++ drop (length t) c.args.out.now) whole
