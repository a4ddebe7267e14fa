use Rattle.xrc_session.proofs.LinesRun.{IsRunning}
use Rattle.xrc_session.proofs.script.run_lines.Given as goal

-- The lines before this one were answered.
abbrev pub invariant-loop-number : goal.invariant-loop-number
invariant-loop-number g l = IsRunning g.P.Plant.tells g.S.Source.left g.S.Source.faults l.initial.run l.run l.initial.traces l.traces (g.P.Plant.state l.initial.plant) (g.P.Plant.state l.plant) l.number l.before.0
