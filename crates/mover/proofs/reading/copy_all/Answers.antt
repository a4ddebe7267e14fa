use Rattle.std.proofs.Common.{Some, None, subst}
use Rattle.group_state.specs.declared.joining.CopyJoin.{CopyJoin}
use Rattle.fed_logs.specs.Reporters.{IsCopiedBy}
use Rattle.mover.specs.Readers.{reporter_of}
use Rattle.mover.specs.Lanes.{AreLastCopies, answers_at}
use Rattle.mover.proofs.Parts.{copies_none, copies_then, copies_one, ends_after, ends_full, ends_unwanted}
use Rattle.mover.proofs.reading.copy_all.Goals as goal

pub loop-init : goal.loop-init
loop-init g c = record {
  told = c.requires.told;
  copies = copies_none g.B.Sitting.volumes c.args.feed.now c.args.reporter.now.seat;
}

pub loop-preserved : goal.loop-preserved
loop-preserved g c =
    let call = c.copy_once.ensures in
    record {
      told = call.told;
      copies = copies_then g.B.Sitting.volumes c.args.feed.now c.args.reporter.now.seat c.loop.reporter.seat c.copy_once.new.reporter.seat c.loop.invariant.copies
          (copies_one g.B.Sitting.volumes c.args.feed.now c.loop.reporter.seat c.copy_once.new.reporter.seat c.copy_once.result c.requires.goes_on call.reads call.copied);
    }

pub returns-in_default-clause-copies : goal.returns-in_default-clause-copies
returns-in_default-clause-copies g c =
    let call = c.copy_once.ensures in
    copies_then g.B.Sitting.volumes c.args.feed.now c.args.reporter.now.seat c.loop.reporter.seat c.copy_once.new.reporter.seat c.loop.invariant.copies
    (copies_one g.B.Sitting.volumes c.args.feed.now c.loop.reporter.seat c.copy_once.new.reporter.seat c.copy_once.result c.requires.goes_on call.reads call.copied)

pub returns-in_default-clause-ends : goal.returns-in_default-clause-ends
returns-in_default-clause-ends g c =
    let feed = c.args.feed.now in
    let before = c.loop.invariant.copies.reads None in
    ends_after (AreLastCopies feed.side.control feed) (answers_at c.args.reporter.now.seat) before.gained (answers_at c.loop.reporter.seat) (answers_at c.copy_once.new.reporter.seat) before.answers
    (ends_unwanted g.B.Sitting.volumes feed c.loop.reporter.seat c.copy_once.new.reporter.seat c.loop.invariant.told.control c.in_default.ensures.copied)

pub returns-in-Held-clause-copies : goal.returns-in-Held-clause-copies
returns-in-Held-clause-copies g c =
    let call = c.copy_once.ensures in
    copies_then g.B.Sitting.volumes c.args.feed.now c.args.reporter.now.seat c.loop.reporter.seat c.copy_once.new.reporter.seat c.loop.invariant.copies
    (copies_one g.B.Sitting.volumes c.args.feed.now c.loop.reporter.seat c.copy_once.new.reporter.seat c.copy_once.result c.requires.goes_on call.reads call.copied)

pub returns-in-Held-clause-ends : goal.returns-in-Held-clause-ends
returns-in-Held-clause-ends g c =
    let feed = c.args.feed.now in
    let mid = c.loop.reporter.seat in
    let then = c.copy_once.new.reporter.seat in
    let before = c.loop.invariant.copies.reads None in
    ends_after (AreLastCopies feed.side.control feed) (answers_at c.args.reporter.now.seat) before.gained (answers_at mid) (answers_at then) before.answers
    (ends_full g.B.Sitting.volumes feed mid then c.in-Held.field-0 c.loop.invariant.told.control
    (subst (λ (joined : CopyJoin). IsCopiedBy (Some joined) feed (reporter_of g.B.Sitting.volumes mid) (reporter_of g.B.Sitting.volumes then)) c.in-Held.is c.in-Some-copy_once.ensures.copied))
