use Rattle.std.proofs.Common.{◌≡◌, take}
use Rattle.xrc_session.specs.Lanes.{with_lanes_broken}
use Rattle.xrc_session.proofs.bringing.name_broken.Given as goal

abbrev pub invariant-loop-control : goal.invariant-loop-control
invariant-loop-control g l = l.names ≡ with_lanes_broken 0 (take l.control l.traces) l.initial.names
