use Rattle.std.proofs.Common.{refl}
use Rattle.xrc_journal.proofs.Spots.{fault_cause}
use Rattle.xrc_journal.proofs.spot.walk_group.Goals as goal

pub returns-in-Err-clause-finds : goal.returns-in-Err-clause-finds
returns-in-Err-clause-finds g c = λ told none. absurd (none c.args.at.set refl)

pub returns-in-Err-clause-cause : goal.returns-in-Err-clause-cause
returns-in-Err-clause-cause g c = fault_cause c.args.at.set _ _ c.in-Err.ensures.cause.failed
