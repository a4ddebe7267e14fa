use Rattle.std.proofs.Common.{◌≡◌, ◌≤◌, length, vec_capacity}
use Rattle.turn_group.specs.Seats.{new_readers}
use Rattle.turn_group.proofs.Splitting.{split_view}
use Rattle.turn_group.proofs.group.TurnGroup.make.Given as goal

abbrev pub invariant-loop-control : goal.invariant-loop-control
invariant-loop-control l = record {
  table : l.mover.place.table_id ≡ l.table.board.shared.table_id;
  view : l.mover.place.me.0 ≡ split_view l.fn.state l.control;
  room : l.controls ≤ vec_capacity l.places;
  many : length l.places.items ≡ l.control;
  made : l.places.items ≡ new_readers l.table.board.shared.table_id l.fn.state l.control;
}
