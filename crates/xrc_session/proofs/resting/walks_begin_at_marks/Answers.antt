use Rattle.xrc_session.proofs.RestingMarks.{marks_begin_walks, nothing_is_walked}
use Rattle.xrc_session.proofs.resting.walks_begin_at_marks.Goals as goal

pub returns-clause-marks : goal.returns-clause-marks
returns-clause-marks g c = marks_begin_walks c.args.old.now c.args.new.now

pub returns-clause-walk : goal.returns-clause-walk
returns-clause-walk g c = nothing_is_walked (g.P.Plant.state c.args.new.now)
