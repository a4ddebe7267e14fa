use Rattle.std.proofs.Common.{◌≡◌, ◌≤◌, None}
use Rattle.fed_logs.specs.Reporters.{IsToldBy}
use Rattle.mover.specs.Lanes.{SeatReports, SeatTakesLimit}
use Rattle.mover.specs.Readers.{reporter_of}
use Rattle.mover.proofs.reading.read_on.Given as goal

abbrev pub invariant-loop : goal.invariant-loop
invariant-loop g l = record {
  told : IsToldBy l.feed (reporter_of g.B.Sitting.volumes l.reporter.seat);
  within : l.feed.side.upto ≤ l.limit.0;
  reads : SeatReports g.B.Sitting.volumes (g.S.Source.left l.initial.source) (g.S.Source.left l.source) l.initial.feed l.feed l.initial.reporter.seat l.reporter.seat;
  takes : SeatTakesLimit g.B.Sitting.volumes l.limit.0 (g.S.Source.left l.initial.source) (g.S.Source.left l.source) l.initial.feed l.feed l.initial.reporter.seat l.reporter.seat;
  goes : l.initial.feed.halted ≡ None → l.feed.halted ≡ None;
  fault : l.initial.feed.halted ≡ None → g.S.Source.faults l.source ≡ g.S.Source.faults l.initial.source;
}
