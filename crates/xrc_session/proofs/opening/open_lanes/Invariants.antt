use Rattle.xrc_session.proofs.OpenedLanes.{HasOpened}
use Rattle.xrc_session.proofs.opening.open_lanes.Given as goal

-- The lanes before this one were opened.
abbrev pub invariant-loop-control : goal.invariant-loop-control
invariant-loop-control g l = HasOpened g.S.Source.left g.S.Source.faults l.initial.traces l.traces l.control l.named.items l.initial.names l.names
