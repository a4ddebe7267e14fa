use Rattle.mover.proofs.Sitting.{may_join}
use Rattle.mover.proofs.seat_reporter.SeatReporterReporter.join.Goals as goal

pub join_batch_ref-requires-clause-may : goal.join_batch_ref-requires-clause-may
join_batch_ref-requires-clause-may g c = may_join g.B.Sitting.table g.B.Sitting.volumes c.args.self.now.seat c.args.batch.now c.args.self.now.sits c.requires.reporting c.requires.run
