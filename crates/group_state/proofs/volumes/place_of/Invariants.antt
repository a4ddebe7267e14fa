use Rattle.std.proofs.Common.{◌≡◌, take, false}
use Rattle.group_state.specs.Volumes.{has_volume}
use Rattle.group_state.proofs.volumes.place_of.Given as goal

abbrev pub invariant-loop-place : goal.invariant-loop-place
invariant-loop-place l = has_volume l.number (take l.place l.volumes) ≡ false
