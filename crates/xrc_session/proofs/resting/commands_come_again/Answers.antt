use Rattle.xrc_session.proofs.RestingSites.{commands_come_after_changes, commands_come_after_marks}
use Rattle.xrc_session.proofs.resting.commands_come_again.Goals as goal

pub returns-clause-changes : goal.returns-clause-changes
returns-clause-changes g c = commands_come_after_changes c.args.old.now c.args.new.now (g.P.Plant.state c.args.old.now)

pub returns-clause-marks : goal.returns-clause-marks
returns-clause-marks g c = commands_come_after_marks c.args.old.now c.args.new.now
