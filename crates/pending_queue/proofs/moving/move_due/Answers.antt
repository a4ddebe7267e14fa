use Rattle.std.proofs.Common.{List, ◌++◌, refl, sym, ap, ◌∙◌, arith}
use Rattle.pending_queue.specs.Entries.{WaitingEntry, left, stands_before}
use Rattle.xrc_edge.specs.Order.{in_order}
use Rattle.pending_queue.proofs.EntryLaws.{first_moved, nothing_moves, each_once}
use Rattle.pending_queue.proofs.VolumeLaws.{nothing_due}
use Rattle.pending_queue.proofs.Waits.{same_through}
use Rattle.pending_queue.proofs.moving.move_due.Goals as goal

pub loop-cut-preserved : goal.loop-cut-preserved
loop-cut-preserved c =
    let kept = c.loop-cut.invariant in
    let placed = c.place_front.ensures in
    let step = first_moved c.args.cut c.loop-cut.waiting.entries c.place_front.new.waiting.entries c.loop-cut.entries.entries c.place_front.new.self.entries kept.rising (c.has_due.ensures.0 c.loop-cut-test.true) placed.left placed.placed in
    record {
      rising = step.rising;
      ordered = step.ordered;
      room = omega (arith, kept.room, step.fewer, step.one_more, placed.controls);
      controls = placed.controls ∙ kept.controls;
      same = same_through _ _ _ _ kept.same placed.same refl;
      stays = step.stays ∙ kept.stays;
      moves = step.moves ∙ kept.moves;
    }

pub returns-clause-left : goal.returns-clause-left
returns-clause-left c =
    let cut = c.args.cut in
    let waiting = c.loop-cut.waiting.entries in
    let kept = c.loop-cut.invariant in
    let none = nothing_due cut waiting c.has_due.result c.has_due.ensures.1 c.loop-cut-test.false in
    sym (each_once cut 0 waiting kept.rising) ∙ ap (λ (es : List WaitingEntry). es ++ left cut waiting) none ∙ kept.stays

pub returns-clause-moved : goal.returns-clause-moved
returns-clause-moved c =
    let cut = c.args.cut in
    let waiting = c.loop-cut.waiting.entries in
    let entries = c.loop-cut.entries.entries in
    let kept = c.loop-cut.invariant in
    let none = nothing_due cut waiting c.has_due.result c.has_due.ensures.1 c.loop-cut-test.false in
    sym (nothing_moves entries kept.ordered) ∙ ap (λ (es : List WaitingEntry). in_order stands_before (entries ++ es)) (sym none) ∙ kept.moves
