use Rattle.mover.proofs.Sitting.{wanted_within}
use Rattle.mover.proofs.seat_reporter.SeatReporterReporter.next_wanted.Goals as goal

pub returns-clause-within : goal.returns-clause-within
returns-clause-within g c = wanted_within g.B.Sitting.table g.B.Sitting.volumes c.args.self.now.seat c.args.self.now.sits c.next_wanted.result c.next_wanted.ensures.within
