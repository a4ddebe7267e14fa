use Rattle.xrc_session.specs.Lanes.{HaveNoReader}
use Rattle.simulation.proofs.site.lanes_of.Given as goal

abbrev pub invariant-loop-source : goal.invariant-loop-source
invariant-loop-source l = HaveNoReader l.lanes.items
