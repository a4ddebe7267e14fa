use Rattle.std.proofs.Common.{ap, length, arith}
use Rattle.xrc_journal.proofs.journal.Journal.put_at_end.Goals as goal

pub overflow_add-self-in-Ok : goal.overflow_add-self-in-Ok
overflow_add-self-in-Ok g c = omega (arith, c.in-Ok.ensures.put.room, c.put_fitting.ensures.put.fits, ap length c.bytes.ensures.spelled)
