use Rattle.std.proofs.Common.{◌≡◌}
use Rattle.crash_plant.specs.DiskRemains.{repeated}
use Rattle.crash_plant.proofs.left.repeat.Given as goal

abbrev pub invariant-loop-i : goal.invariant-loop-i
invariant-loop-i l = l.bytes.items ≡ repeated l.choice l.i
