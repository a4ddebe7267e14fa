use Rattle.std.proofs.Common.{◌≡◌, ◌<◌, ℕ, [], length, replicate, false}
use Rattle.crash_plant.specs.Devices.{seen_at}
use Rattle.crash_plant.specs.PlainPlant.{place_bytes, place_is_lent}
use Rattle.crash_plant.proofs.plain_plant.PlainPlant.zero_places.Given as goal

abbrev pub invariant-loop : goal.invariant-loop
invariant-loop l = record {
  number : length l.places.items ≡ l.counter;
  zeros : (v : ℕ) → v < l.counter → seen_at place_bytes [] l.places.items v ≡ replicate l.size 0;
  here : (v : ℕ) → v < l.counter → seen_at place_is_lent false l.places.items v ≡ false;
}
