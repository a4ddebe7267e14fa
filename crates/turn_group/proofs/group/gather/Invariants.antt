use Rattle.std.proofs.Common.{◌≡◌, ◌+◌, ◌++◌, length, map}
use Rattle.std.specs.Prelude.{All}
use Rattle.turn.specs.Turn.{IsSameSeat}
use Rattle.turn_group.specs.Notes.{KeepsNotes}
use Rattle.turn_group.specs.Seats.{IsSeated, calls_at, AreAtTheirPlaces, AllFrom, IsOwn}
use Rattle.turn_group.proofs.group.gather.Given as goal

abbrev pub invariant-loop-place : goal.invariant-loop-place
invariant-loop-place l = record {
  same : IsSameSeat l.initial.mover.place l.mover.place;
  mine : l.mover.place.me.0.mine ≡ l.initial.mover.place.me.0.mine;
  joined : map calls_at l.places.items ++ l.mover.place.me.0.joined ≡ map calls_at l.initial.places.items;
  homes : All (IsSeated l.table.board.shared.table_id) l.places.items;
  places : AreAtTheirPlaces l.places.items;
  own : AllFrom IsOwn 0 (map calls_at l.places.items) → AllFrom IsOwn 0 (map calls_at l.initial.places.items);
  seats : l.mover.place.me.0.seats ≡ length l.places.items + 1;
  noted : KeepsNotes l.initial.mover.place.me.0.notes l.mover.place.me.0.notes;
}

abbrev pub decreases-loop-place : goal.decreases-loop-place
decreases-loop-place l = goal.left-loop-place l
