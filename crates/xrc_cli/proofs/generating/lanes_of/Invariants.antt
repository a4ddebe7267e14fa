use Rattle.std.proofs.Common.{◌≡◌, map}
use Rattle.xrc_cli.specs.Generating.{unread_lane}
use Rattle.xrc_cli.proofs.generating.lanes_of.Given as goal

-- a lane for each source so far
abbrev pub invariant-loop-source : goal.invariant-loop-source
invariant-loop-source l = l.lanes.items ≡ map unread_lane l.yielded
