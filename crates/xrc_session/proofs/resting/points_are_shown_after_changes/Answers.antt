use Rattle.xrc_session.proofs.RestingPoints.{deeds_pass_points, deeds_show_points, done_deeds_pass_all, done_deeds_show_last}
use Rattle.xrc_session.proofs.RestingRows.{changes_keep_tracks, idle_marks_except_no_more, marks_keep_tracks}
use Rattle.xrc_session.proofs.resting.points_are_shown_after_changes.Goals as goal

pub returns-clause-changes : goal.returns-clause-changes
returns-clause-changes g c = changes_keep_tracks g.P.Plant.tells (g.P.Plant.state c.args.old.now) (g.P.Plant.state c.args.new.now)

pub returns-clause-marks : goal.returns-clause-marks
returns-clause-marks g c = marks_keep_tracks

pub returns-clause-shown : goal.returns-clause-shown
returns-clause-shown g c = deeds_show_points (g.P.Plant.state c.args.old.now)

pub returns-clause-begun : goal.returns-clause-begun
returns-clause-begun g c = deeds_pass_points (g.P.Plant.state c.args.old.now) (g.P.Plant.state c.args.new.now)

pub returns-clause-done : goal.returns-clause-done
returns-clause-done g c = done_deeds_pass_all (g.P.Plant.state c.args.old.now) (g.P.Plant.state c.args.new.now)

pub returns-clause-last : goal.returns-clause-last
returns-clause-last g c = done_deeds_show_last (g.P.Plant.state c.args.old.now) (g.P.Plant.state c.args.new.now)

pub returns-clause-idle : goal.returns-clause-idle
returns-clause-idle g c = idle_marks_except_no_more (g.P.Plant.state c.args.old.now) (g.P.Plant.state c.args.new.now)
