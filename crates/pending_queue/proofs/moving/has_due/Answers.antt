use Rattle.std.proofs.Common.{[], false, get_or, ap, arith}
use Rattle.std.specs.Prelude.{nat_le}
use Rattle.std.proofs.lemmas.List.{get_or_default}
use Rattle.ckd_track.specs.declared.write.Kind.TheVariants.{Whole}
use Rattle.pending_queue.specs.declared.head.EntryHead.{EntryHead}
use Rattle.pending_queue.specs.Entries.{WaitingEntry}
use Rattle.pending_queue.proofs.VolumeLaws.{due_first}
use Rattle.pending_queue.proofs.moving.has_due.Goals as goal

pub returns-then-len-gt0 : goal.returns-then-len-gt0
returns-then-len-gt0 c =
    let entries = c.args.waiting.now.entries in
    let none : WaitingEntry = record { head = c.head.result; kind = Whole []; form = []; is_copy = false } in
    let first = get_or entries 0 none in
    due_first c.args.cut entries first _ (omega (arith, c.len.ensures.count, c.if-len-gt0.true)) (get_or_default entries 0 none first (omega (arith, c.len.ensures.count, c.if-len-gt0.true))) c.requires.rising
    (ap (λ (h : EntryHead). nat_le h.stamp.0 c.args.cut.0) (c.head.ensures none))
