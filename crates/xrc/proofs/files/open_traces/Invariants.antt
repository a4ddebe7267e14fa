use Rattle.xrc_session.specs.Lanes.{HaveNoReader}
use Rattle.xrc.proofs.files.open_traces.Given as goal

abbrev pub invariant-loop-number : goal.invariant-loop-number
invariant-loop-number g l = HaveNoReader l.traces.items
