use Rattle.std.proofs.Common.{◌≡◌, ◌≤◌, drop, take, map}
use Rattle.crash_plant.specs.DiskRemains.{open_writes}
use Rattle.crash_plant.specs.Pasts.{note_of}
use Rattle.crash_plant.proofs.left.open_from.Given as goal

abbrev pub invariant-loop-i : goal.invariant-loop-i
invariant-loop-i l = (l.from ≤ l.i) × (drop l.from (map note_of (take l.i l.log)) ≡ open_writes (map note_of (take l.i l.log)))
