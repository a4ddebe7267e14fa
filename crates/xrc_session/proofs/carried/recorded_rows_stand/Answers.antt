use Rattle.xrc_session.proofs.Recording.{recorded_rows_stand, rows_stand_after_deeds}
use Rattle.xrc_session.proofs.carried.recorded_rows_stand.Goals as goal

pub returns-clause-one : goal.returns-clause-one
returns-clause-one g c = recorded_rows_stand (g.P.Plant.state c.args.old.now) (g.P.Plant.state c.args.new.now)

pub returns-clause-several : goal.returns-clause-several
returns-clause-several g c = rows_stand_after_deeds (g.P.Plant.state c.args.old.now) (g.P.Plant.state c.args.new.now)
