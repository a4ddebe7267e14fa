use Rattle.std.proofs.Common.{◌≡◌, ◌<◌, ◌++◌, ℕ, length}
use Rattle.crash_plant.specs.Devices.{seen_at}
use Rattle.crash_plant.specs.FreshDisks.{absent, fresh_of, fresh_place}
use Rattle.crash_plant.proofs.memory_disks.shelves.Given as goal

abbrev pub invariant-loop-place : goal.invariant-loop-place
invariant-loop-place l = record {
  all : l.fn.places.items ≡ l.yielded ++ l.place-iterator.rest.items;
  number : length l.shelves.items ≡ length l.yielded;
  fresh : (v : ℕ) → v < length l.yielded → seen_at fresh_of absent l.shelves.items v ≡ seen_at fresh_place absent l.yielded v;
}
