use Rattle.xrc_session.proofs.RestingRows.{excepted_are_owed, rows_stand_after_changes, rows_stand_after_commands, sites_stand_after_deeds}
use Rattle.xrc_session.proofs.resting.rows_stand_after_changes.Goals as goal

pub returns-clause-commands : goal.returns-clause-commands
returns-clause-commands g c = rows_stand_after_commands (g.P.Plant.state c.args.old.now)

pub returns-clause-owed : goal.returns-clause-owed
returns-clause-owed g c = excepted_are_owed g.P.Plant.tells (g.P.Plant.state c.args.old.now) (g.P.Plant.state c.args.new.now)

pub returns-clause-stand : goal.returns-clause-stand
returns-clause-stand g c = rows_stand_after_changes g.P.Plant.tells (g.P.Plant.state c.args.old.now) (g.P.Plant.state c.args.new.now)

pub returns-clause-site : goal.returns-clause-site
returns-clause-site g c = sites_stand_after_deeds (g.P.Plant.state c.args.new.now)
