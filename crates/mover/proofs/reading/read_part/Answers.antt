use Rattle.std.proofs.Common.{Some, sym, ap, subst, ◌∙◌}
use Rattle.std.specs.Option.{is_some}
use Rattle.fed_logs.specs.declared.reading.Reading.TheVariants as readings
use Rattle.mover.specs.Readers.{LaneReaderState}
use Rattle.mover.specs.Lanes.{MayRead, ReadsInRound}
use Rattle.mover.proofs.Parts.{did_nothing, goes_on, reads_none, reads_part, tells_of}
use Rattle.mover.proofs.reading.read_part.Goals as goal

pub returns-then-is_some-clause-reads : goal.returns-then-is_some-clause-reads
returns-then-is_some-clause-reads g c =
    let old = c.reader.inside in
    reads_none c.args.limit.0 (g.S.Source.left c.args.source.now) (g.S.Source.faults c.args.source.now) c.args.reader.now old.feed old.seat old.last (Some readings.Broken) c.reader.view_is

pub returns-then-is_some-clause-ends : goal.returns-then-is_some-clause-ends
returns-then-is_some-clause-ends g c = let old = c.reader.inside in did_nothing c.args.reader.now old.feed old.seat old.last c.reader.view_is

pub returns-clause-reads : goal.returns-clause-reads
returns-clause-reads g c =
    let old = c.reader.inside in
    let was : LaneReaderState = record { feed = old.feed; seat = old.seat; last = old.last } in
    let may : MayRead c.args.group.now c.args.limit.0 was = subst (λ (r : LaneReaderState). MayRead c.args.group.now c.args.limit.0 r) (sym c.reader.view_is) c.requires.may in
    let seat = c.in-Some.seat in
    let has = sym c.take.ensures.value ∙ c.in-Some.is in
    let goes = goes_on old.feed (ap is_some (sym c.broken.ensures) ∙ sym c.is_some.ensures ∙ c.if-is_some.false) may.1 in
    let call = c.read_with_seat-reading.ensures in
    let next : LaneReaderState = record { feed = c.read_with_seat-reading.new.feed; seat = Some c.read_with_seat-reading.result.1; last = Some c.read_with_seat-reading.result.0 } in
    subst (λ (r : LaneReaderState). ReadsInRound c.args.limit.0 (g.S.Source.left c.args.source.now) (g.S.Source.left c.read_with_seat-reading.new.source) (g.S.Source.faults c.args.source.now) (g.S.Source.faults c.read_with_seat-reading.new.source) r next) c.reader.view_is
    (reads_part c.args.limit.0 _ _ _ _ was seat c.read_with_seat-reading.result.1 c.read_with_seat-reading.new.feed old.feed.side.reader.volumes (Some c.read_with_seat-reading.result.0) has goes
    (tells_of c.args.group.now c.args.limit.0 was may seat has).told call.told call.reads call.takes (call.fault goes))
