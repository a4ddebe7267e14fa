use Rattle.std.proofs.Common.{◌≡◌, ◌<◌, ℕ, length}
use Rattle.crash_plant.specs.Devices.{seen_at}
use Rattle.crash_plant.specs.Remains.{disk_remains, nothing, remains_here}
use Rattle.crash_plant.proofs.memory_disks.disks_left.Given as goal

abbrev pub invariant-loop-i : goal.invariant-loop-i
invariant-loop-i l = record {
  number : length l.left.items ≡ l.i;
  remains : (k : ℕ) → k < l.i → seen_at disk_remains nothing l.left.items k ≡ seen_at (remains_here l.choice) nothing l.disks k;
}
