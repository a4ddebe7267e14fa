use Rattle.std.proofs.Common.{◌≡◌}
use Rattle.group_state.specs.Groups.{new_controls}
use Rattle.group_state.proofs.state.GroupState.make.Given as goal

abbrev pub invariant-loop-k : goal.invariant-loop-k
invariant-loop-k l = l.made.items ≡ new_controls l.k 0 l.records l.blocks
