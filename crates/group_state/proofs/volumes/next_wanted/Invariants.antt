use Rattle.std.proofs.Common.{◌≡◌, drop}
use Rattle.group_state.specs.Volumes.{next_wanted}
use Rattle.group_state.proofs.volumes.next_wanted.Given as goal

abbrev pub invariant-loop-place : goal.invariant-loop-place
invariant-loop-place l = next_wanted l.volumes ≡ next_wanted (drop l.place l.volumes)
