use Rattle.xrc_session.proofs.Changed.{taken_rows_stand}
use Rattle.xrc_session.proofs.KeptRows.{standing_rows_are_kept}
use Rattle.xrc_session.proofs.carried.taken_rows_stand.Goals as goal

pub returns-clause-kept : goal.returns-clause-kept
returns-clause-kept g c = standing_rows_are_kept (g.P.Plant.state c.args.start.now)

pub returns-clause-stand : goal.returns-clause-stand
returns-clause-stand g c = taken_rows_stand (g.P.Plant.state c.args.start.now)
