use Rattle.fed_logs.specs.Reporters.{IsToldBy}
use Rattle.mover.specs.Lanes.{SeatCopies}
use Rattle.mover.specs.Readers.{reporter_of}
use Rattle.mover.proofs.reading.copy_all.Given as goal

abbrev pub invariant-loop : goal.invariant-loop
invariant-loop g l = record {
  told : IsToldBy l.feed (reporter_of g.B.Sitting.volumes l.reporter.seat);
  copies : SeatCopies g.B.Sitting.volumes l.feed l.initial.reporter.seat l.reporter.seat;
}
