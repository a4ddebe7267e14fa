use Rattle.std.proofs.Common.{sym, subst}
use Rattle.turn_group.specs.Seats.{IsAtPlace}
use Rattle.turn_group.proofs.Places.{set_place}
use Rattle.turn_group.proofs.seats.SeatList.take.Goals as goal

pub invariant_of-self : goal.invariant_of-self
invariant_of-self c = set_place IsAtPlace c.self.inside.places.items c.args.control c.take.new.self c.self.invariant (subst (IsAtPlace c.args.control) (sym c.take.ensures.after) tt)
