use Rattle.xrc_session.proofs.RestingSites.{told_after_changes, told_after_commands, told_after_marks}
use Rattle.xrc_session.proofs.resting.failures_are_told.Goals as goal

pub returns-clause-commands : goal.returns-clause-commands
returns-clause-commands g c = told_after_commands

pub returns-clause-changes : goal.returns-clause-changes
returns-clause-changes g c = told_after_changes c.args.old.now c.args.new.now (g.P.Plant.state c.args.old.now)

pub returns-clause-marks : goal.returns-clause-marks
returns-clause-marks g c = told_after_marks c.args.old.now c.args.new.now
