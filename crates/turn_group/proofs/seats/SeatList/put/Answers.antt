use Rattle.std.proofs.Common.{Some, sym, ap}
use Rattle.turn_group.specs.Seats.{ReaderSeatState, IsAtPlace}
use Rattle.turn_group.proofs.Places.{set_place}
use Rattle.turn_group.proofs.seats.SeatList.put.Goals as goal

pub invariant_of-self : goal.invariant_of-self
invariant_of-self c = set_place IsAtPlace c.self.inside.places.items c.seat.inside.control (Some c.args.seat) c.self.invariant (sym (ap (λ (s : ReaderSeatState). s.control) c.seat.view_is))
