use Rattle.xrc_session.specs.Lanes.{HaveNoReader}
use Rattle.scenarios.proofs.program.lanes.Given as goal

abbrev pub invariant-loop-trace : goal.invariant-loop-trace
invariant-loop-trace l = HaveNoReader l.lanes.items
