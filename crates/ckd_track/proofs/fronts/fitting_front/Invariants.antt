use Rattle.std.proofs.Common.{◌≡◌, ◌+◌, length, drop}
use Rattle.ckd_track.specs.Slots.{spelled_records}
use Rattle.ckd_track.specs.Places.{no_front, front_fitting}
use Rattle.ckd_track.proofs.Walks.{Walks}
use Rattle.ckd_track.proofs.fronts.fitting_front.Given as goal

-- from the front so far the records that are left lead to the same
abbrev pub invariant-loop : goal.invariant-loop
invariant-loop l = record {
  walks : Walks l.rest (drop l.counter (spelled_records l.count l.given));
  same : front_fitting l.front (drop l.counter (spelled_records l.count l.given)) ≡ front_fitting (no_front 0 l.room) (spelled_records l.count l.given);
  sum : l.front.end + length l.rest ≡ length l.given;
  counted : l.front.count ≡ l.counter;
}
