use Rattle.mover.proofs.Parts.{reads_and_copies, takes_and_copies, ends_reading}
use Rattle.mover.specs.Lanes.{answers_at}
use Rattle.mover.proofs.reading.read_and_copy.Goals as goal

pub returns-in-AtLimit-clause-reads : goal.returns-in-AtLimit-clause-reads
returns-in-AtLimit-clause-reads g c =
    let call = c.read_on-reading in
    reads_and_copies g.B.Sitting.volumes _ _ _ _ c.args.reporter.now.seat call.new.reporter.seat c.copy_all.new.reporter.seat call.ensures.reads c.copy_all.ensures.copies

pub returns-in-AtLimit-clause-takes : goal.returns-in-AtLimit-clause-takes
returns-in-AtLimit-clause-takes g c =
    let call = c.read_on-reading in
    takes_and_copies g.B.Sitting.volumes c.args.limit.0 _ (g.S.Source.left call.new.source) _ _ c.args.reporter.now.seat call.new.reporter.seat c.copy_all.new.reporter.seat call.ensures.reads call.ensures.takes c.copy_all.ensures.copies

pub returns-in_default : goal.returns-in_default
returns-in_default g c =
    let call = c.read_on-reading.ensures in
    let feed = c.read_on-reading.new.feed in
    record {
      reads = call.reads;
      takes = call.takes;
      told = call.told;
      within = call.within;
      stands = call.stands;
      fault = call.fault;
      ends = ends_reading c.read_on-reading.result feed.side.control feed (answers_at c.args.reporter.now.seat) call.reads.gained (answers_at c.read_on-reading.new.reporter.seat) call.reads.answers call.ends c.in_default.not-AtLimit call.refused;
    }
