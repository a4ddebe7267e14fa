use Rattle.xrc_session.proofs.RestingSites.{commands_may_be_logged, idle_after_changes, idle_after_marks}
use Rattle.xrc_session.proofs.resting.sites_are_idle_again.Goals as goal

pub returns-clause-logged : goal.returns-clause-logged
returns-clause-logged g c = commands_may_be_logged g.P.Plant.tells (g.P.Plant.state c.args.old.now)

pub returns-clause-changes : goal.returns-clause-changes
returns-clause-changes g c = idle_after_changes g.P.Plant.tells c.args.old.now c.args.new.now (g.P.Plant.state c.args.old.now) (g.P.Plant.state c.args.new.now)

pub returns-clause-marks : goal.returns-clause-marks
returns-clause-marks g c = idle_after_marks g.P.Plant.tells c.args.old.now c.args.new.now (g.P.Plant.state c.args.old.now) (g.P.Plant.state c.args.new.now)
