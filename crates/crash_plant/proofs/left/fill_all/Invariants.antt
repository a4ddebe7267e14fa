use Rattle.std.proofs.Common.{◌≡◌, take, map}
use Rattle.crash_plant.specs.DiskRemains.{all_filled}
use Rattle.crash_plant.specs.Pasts.{note_of}
use Rattle.crash_plant.proofs.left.fill_all.Given as goal

abbrev pub invariant-loop-i : goal.invariant-loop-i
invariant-loop-i l = l.bytes.items ≡ all_filled l.choice (map note_of (take l.i l.writes)) l.initial.bytes.items
