use Rattle.std.proofs.Common.{◌≡◌, ◌≤◌, ◌+◌, length, drop}
use Rattle.ckd_track.specs.Tracks.{capacity, track_size}
use Rattle.ckd_track.specs.Slots.{track_of_image}
use Rattle.ckd_track.specs.Places.{no_front, front_up_to}
use Rattle.ckd_track.proofs.Walks.{Walks}
use Rattle.ckd_track.proofs.fronts.kept.Given as goal

-- from the front so far the records that are left lead to the same
abbrev pub invariant-loop : goal.invariant-loop
invariant-loop l = record {
  walks : Walks l.rest (drop l.counter (track_of_image l.image));
  same : front_up_to l.after l.front (drop l.counter (track_of_image l.image)) ≡ front_up_to l.after (no_front 2 capacity) (track_of_image l.image);
  sum : l.front.end + length l.rest ≡ length l.image;
  counted : l.front.count ≡ l.counter;
  fits : track_size (drop l.counter (track_of_image l.image)) ≤ l.front.room;
}
