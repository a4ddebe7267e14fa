use Rattle.std.proofs.Common.{◌≡◌, ◌<◌, ℕ, [], length, replicate}
use Rattle.crash_plant.specs.Devices.{seen_at}
use Rattle.crash_plant.specs.PlainPlant.{disk_bytes}
use Rattle.crash_plant.proofs.plain_plant.PlainPlant.zero_disks.Given as goal

abbrev pub invariant-loop : goal.invariant-loop
invariant-loop l = (length l.disks.items ≡ l.counter) × ((j : ℕ) → j < l.counter → seen_at disk_bytes [] l.disks.items j ≡ replicate l.size 0)
