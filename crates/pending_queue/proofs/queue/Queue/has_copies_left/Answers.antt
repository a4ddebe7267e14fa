use Rattle.std.proofs.Common.{◌≡◌, ◌<◌, false, ◌&&◌, length, get_or, ap, sym, ◌∙◌, arith, eq-eqb}
use Rattle.std.specs.Prelude.{nat_eq}
use Rattle.std.proofs.lemmas.Bool.{and_from, and_left, and_right, lt-ltb, le-ltb, ne_eqb}
use Rattle.std.proofs.lemmas.List.{get_or_default}
use Rattle.pending_queue.specs.declared.head.EntryHead.{EntryHead}
use Rattle.pending_queue.specs.Entries.{entry_stamp, is_copy_of, is_later}
use Rattle.pending_queue.proofs.VolumeLaws.{some_entry, left_copy_at, none_left_more}
use Rattle.pending_queue.proofs.queue.Queue.has_copies_left.Goals.{else-is_copy-via-then-is_copy+then-head-volume+else-head-cut, else-is_copy-via-then-is_copy+else-head-volume, else-is_copy-via-else-is_copy}
use Rattle.pending_queue.proofs.queue.Queue.has_copies_left.Goals as goal

pub returns-then-head-cut : goal.returns-then-head-cut
returns-then-head-cut c =
    let entries = c.self.inside.waiting.entries in
    let k = c.loop-place.place in
    let d = some_entry c.head-head.result in
    let e = get_or entries k d in
    let lt : k < length entries = omega (arith, c.loop-place-test.true, c.len-place-end.ensures.count) in
    let head = c.head-head.ensures d in
    let volume : e.head.volume ≡ c.args.volume = ap (λ (h : EntryHead). h.volume) (sym head) ∙ c.if-head-volume.true in
    let above : c.args.cut.0 < entry_stamp e = omega (arith, ap (λ (h : EntryHead). h.stamp.0) head, c.if-head-cut.true) in
    rw (← c.self.view_is) (sym (left_copy_at c.args.volume c.args.cut entries k e lt (get_or_default entries k d e lt)
    (and_from (nat_eq e.head.volume c.args.volume) e.is_copy (eq-eqb _ _ volume) (sym (c.is_copy.ensures d) ∙ c.if-is_copy.true))
    (lt-ltb c.args.cut.0 (entry_stamp e) above)))

pub loop-place-preserved : goal.loop-place-preserved
loop-place-preserved c =
    let entries = c.self.inside.waiting.entries in
    let k = c.loop-place.place in
    let d = some_entry c.head-head.result in
    let e = get_or entries k d in
    let lt : k < length entries = omega (arith, c.loop-place-test.true, c.len-place-end.ensures.count) in
    let head = c.head-head.ensures d in
    let not_here : (is_later c.args.cut e && is_copy_of c.args.volume e) ≡ false = elim c.else-is_copy.branch [
      | else-is_copy-via-then-is_copy+then-head-volume+else-head-cut w ↦ and_left (is_later c.args.cut e) (is_copy_of c.args.volume e) (le-ltb c.args.cut.0 (entry_stamp e) (omega (arith, ap (λ (h : EntryHead). h.stamp.0) head, w.if-head-cut.false)))
      | else-is_copy-via-then-is_copy+else-head-volume w ↦ and_right (is_later c.args.cut e) (is_copy_of c.args.volume e) (and_left (nat_eq e.head.volume c.args.volume) e.is_copy (ne_eqb e.head.volume c.args.volume (λ is. w.if-head-volume.false (ap (λ (h : EntryHead). h.volume) head ∙ is))))
      | else-is_copy-via-else-is_copy w ↦ and_right (is_later c.args.cut e) (is_copy_of c.args.volume e) (and_right (nat_eq e.head.volume c.args.volume) e.is_copy (sym (c.is_copy.ensures d) ∙ w.if-is_copy.false))
    ] in
    none_left_more c.args.volume c.args.cut entries k d lt not_here c.loop-place.invariant
