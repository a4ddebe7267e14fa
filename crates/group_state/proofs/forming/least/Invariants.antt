use Rattle.std.proofs.Common.{◌≡◌, take}
use Rattle.std.specs.Prelude.{fold}
use Rattle.group_state.specs.Controls.{lesser}
use Rattle.group_state.proofs.forming.least.Given as goal

abbrev pub invariant-loop-k : goal.invariant-loop-k
invariant-loop-k l = l.cut ≡ fold lesser l.fn.limit.0 (take l.k l.controls)
