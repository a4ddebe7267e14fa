use Rattle.mover.proofs.Sitting.{may_copy}
use Rattle.mover.proofs.seat_reporter.SeatReporterReporter.join_copy.Goals as goal

pub join_copy-requires-clause-may : goal.join_copy-requires-clause-may
join_copy-requires-clause-may g c = may_copy g.B.Sitting.table g.B.Sitting.volumes c.args.self.now.seat c.args.volume c.args.track c.args.at c.args.self.now.sits c.requires.reporting c.requires.floor c.requires.within
