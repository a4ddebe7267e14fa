use Rattle.std.proofs.Common.{◌≡◌, ◌<◌, List, ◌++◌, length, get_or, take, drop, sym, ap, ◌∙◌, arith}
use Rattle.pending_queue.specs.declared.head.EntryHead.{EntryHead}
use Rattle.pending_queue.specs.Entries.{WaitingEntry}
use Rattle.pending_queue.specs.Waitings.{WaitingState}
use Rattle.pending_queue.proofs.Waits.{same_through}
use Rattle.pending_queue.proofs.VolumeLaws.{some_entry, goes_round}
use Rattle.pending_queue.proofs.queue.take_out.Goals.{then-head-volume+in-Write-1, then-head-volume+in-Copy-1, else-head-volume}
use Rattle.pending_queue.proofs.queue.take_out.Goals as goal

pub loop-preserved : goal.loop-preserved
loop-preserved c =
    let entries = c.args.waiting.now.entries in
    let k = c.loop.counter in
    let d = some_entry c.head.result in
    let kept = c.loop.invariant in
    let lt : k < length entries = omega (arith, c.loop-test.true, kept.count) in
    let step = goes_round c.args.volume entries k d lt in
    let volume : c.head.result.volume ≡ (get_or entries k d).head.volume =
    ap (λ (h : EntryHead). h.volume) (c.head.ensures d) ∙ ap (λ (es : List WaitingEntry). (get_or es 0 d).head.volume) kept.went ∙ ap (λ (e : WaitingEntry). e.head.volume) step.first in
    elim c.if-head-volume.branch [
      | then-head-volume+in-Write-1 w ↦ record {
        count = kept.count;
        went = ap (λ (s : WaitingState). s.entries) w.waiting-is ∙ w.give_front.ensures.left ∙ ap (drop 1) kept.went ∙ step.out (sym volume ∙ w.if-head-volume.true);
        same = same_through _ _ _ _ kept.same w.give_front.ensures.same w.waiting-is;
      }
      | then-head-volume+in-Copy-1 w ↦ record {
        count = kept.count;
        went = ap (λ (s : WaitingState). s.entries) w.waiting-is ∙ w.give_front.ensures.left ∙ ap (drop 1) kept.went ∙ step.out (sym volume ∙ w.if-head-volume.true);
        same = same_through _ _ _ _ kept.same w.give_front.ensures.same w.waiting-is;
      }
      | else-head-volume w ↦ record {
        count = kept.count;
        went = ap (λ (s : WaitingState). s.entries) w.waiting-is ∙ w.turn_front.ensures.turned ∙ ap (λ (es : List WaitingEntry). drop 1 es ++ take 1 es) kept.went ∙ step.turned (λ is. w.if-head-volume.false (volume ∙ is));
        same = same_through _ _ _ _ kept.same w.turn_front.ensures.same w.waiting-is;
      }
    ]
