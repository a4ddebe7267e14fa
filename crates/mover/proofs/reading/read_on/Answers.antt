use Rattle.std.proofs.Common.{◌∙◌, refl}
use Rattle.mover.proofs.Parts.{tells_none, tells_then, takes_none, takes_then, no_fault_yet, fault_then, ends_after, ends_refused}
use Rattle.mover.specs.Lanes.{IsRefusal, answers_at}
use Rattle.mover.proofs.reading.read_on.Goals as goal

pub loop-init : goal.loop-init
loop-init g c = record {
  told = c.requires.told;
  within = c.requires.limit;
  reads = tells_none g.B.Sitting.volumes (g.S.Source.left c.args.source.now) c.args.feed.now c.args.reporter.now.seat;
  takes = takes_none g.B.Sitting.volumes c.args.limit.0 (g.S.Source.left c.args.source.now) c.args.feed.now c.args.reporter.now.seat;
  goes = λ was. was;
  fault = λ was. refl;
}

pub loop-preserved : goal.loop-preserved
loop-preserved g c =
    let before = c.loop.invariant in
    let call = c.read_once.ensures in
    let heads = g.B.Sitting.volumes in
    let first = c.args.reporter.now.seat in
    let mid = c.loop.reporter.seat in
    let then = c.read_once.new.reporter.seat in
    record {
      told = call.told;
      within = call.within;
      reads = tells_then heads _ _ _ _ _ _ first mid then before.reads call.reads;
      takes = takes_then heads c.args.limit.0 _ _ _ _ _ _ first mid then before.reads before.takes call.reads (record { up_to = call.up_to; below = call.below });
      goes = λ was. c.in-Joined.ensures.stands.0;
      fault = λ was. no_fault_yet (g.S.Source.faults c.loop.source) (g.S.Source.faults c.read_once.new.source) c.read_once.new.self.halted c.in-Joined.ensures.stands.0 (call.fault (before.goes was)) ∙ before.fault was;
    }

pub returns-in_default : goal.returns-in_default
returns-in_default g c =
    let before = c.loop.invariant in
    let call = c.read_once.ensures in
    let heads = g.B.Sitting.volumes in
    let first = c.args.reporter.now.seat in
    let mid = c.loop.reporter.seat in
    let then = c.read_once.new.reporter.seat in
    record {
      reads = tells_then heads _ _ _ _ _ _ first mid then before.reads call.reads;
      takes = takes_then heads c.args.limit.0 _ _ _ _ _ _ first mid then before.reads before.takes call.reads (record { up_to = call.up_to; below = call.below });
      told = call.told;
      within = call.within;
      stands = call.stands;
      fault = λ was. fault_then (g.S.Source.faults c.args.source.now) (g.S.Source.faults c.loop.source) (g.S.Source.faults c.read_once.new.source) c.read_once.new.self.halted (before.fault was) (call.fault (before.goes was));
      ends = λ joined. c.in_default.not-Joined joined;
      refused = λ room held. ends_after (IsRefusal room c.read_once.new.self) (answers_at first) before.reads.gained (answers_at mid) (answers_at then) before.reads.answers
          (ends_refused room c.read_once.new.self heads mid then (call.refused room held));
    }
