use Rattle.std.proofs.Common.{◌≡◌, ◌<◌, ◌++◌, ℕ, length}
use Rattle.crash_plant.specs.declared.memory_disk.MemoryDisk.{MemoryDisk}
use Rattle.crash_plant.specs.declared.shelf.Shelf.TheVariants.{Here}
use Rattle.crash_plant.specs.Devices.{seen_at}
use Rattle.crash_plant.specs.FreshDisks.{absent, fresh_of, fresh_disk}
use Rattle.crash_plant.proofs.memory_disks.with_pasts.Given as goal

abbrev pub invariant-loop-disk : goal.invariant-loop-disk
invariant-loop-disk l = record {
  all : l.fn.plain.items ≡ l.yielded ++ l.disk-iterator.rest.items;
  number : length l.disks.items ≡ length l.yielded;
  fresh : (j : ℕ) → j < length l.yielded → seen_at (λ (disk : MemoryDisk). fresh_of (Here disk)) absent l.disks.items j ≡ seen_at fresh_disk absent l.yielded j;
}
