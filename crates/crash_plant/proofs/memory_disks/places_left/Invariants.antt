use Rattle.std.proofs.Common.{◌≡◌, ◌<◌, ℕ, length}
use Rattle.crash_plant.specs.Devices.{seen_at}
use Rattle.crash_plant.specs.Remains.{place_remains, nothing, remains_of}
use Rattle.crash_plant.proofs.memory_disks.places_left.Given as goal

abbrev pub invariant-loop-i : goal.invariant-loop-i
invariant-loop-i l = record {
  number : length l.left.items ≡ l.i;
  remains : (k : ℕ) → k < l.i → seen_at place_remains nothing l.left.items k ≡ seen_at (remains_of l.choice) nothing l.shelves k;
}
