use Rattle.std.proofs.Common.{None, replicate, sym, ap, ◌∙◌}
use Rattle.mover.proofs.Seating.{all_back, all_have_seats, all_may, as_many, none_limited}
use Rattle.mover.proofs.round.rounds.Goals as goal

pub go_on_seated-end-requires-clause-lanes : goal.go_on_seated-end-requires-clause-lanes
go_on_seated-end-requires-clause-lanes g c κs within = all_may g.S.Source.left g.S.Source.faults c.args.group.now c.args.limit.0 c.args.lanes.now c.args.seat.now c.args.seats.now c.requires.lanes c.requires.seats
    c.hand_out.new.lanes c.hand_out.ensures.same c.hand_out.ensures.takes

pub hand_back-requires-clause-empty : goal.hand_back-requires-clause-empty
hand_back-requires-clause-empty g c =
    let many = as_many g.S.Source.left g.S.Source.faults c.args.group.now c.args.limit.0 c.args.lanes.now c.args.seat.now c.args.seats.now c.requires.lanes c.requires.seats in
    c.hand_out.ensures.left many ∙ ap (λ n. replicate n None) (sym (c.go_on_seated-end.ensures.does.read.same ∙ c.hand_out.ensures.same))

pub hand_back-requires-clause-seated : goal.hand_back-requires-clause-seated
hand_back-requires-clause-seated g c = all_have_seats g.S.Source.left g.S.Source.faults c.args.group.now c.args.limit.0 c.args.lanes.now c.args.seat.now c.args.seats.now c.requires.lanes c.requires.seats
    c.hand_out.new.lanes c.hand_out.ensures.same c.hand_out.ensures.takes c.go_on_seated-end.new.lanes c.go_on_seated-end.ensures.does.read

pub returns : goal.returns
returns g c =
    let e = c.go_on_seated-end.ensures in
    let b = all_back g.S.Source.left g.S.Source.faults c.args.group.now c.args.limit.0 c.args.lanes.now c.args.seat.now c.args.seats.now c.requires.lanes c.requires.seats
    c.hand_out.new.lanes c.hand_out.ensures.same c.hand_out.ensures.takes c.go_on_seated-end.new.lanes e.does.read c.hand_back.new.lanes c.hand_back.new.seats c.hand_back.ensures.gives
    c.go_on_seated-end.new.seat c.go_on_seated-end.new.site e.does.still c.hand_back.ensures.same c.hand_back.ensures.all in
    record {
      lanes = b.read;
      moved = e.does.moved;
      limited = e.does.limited (none_limited g.S.Source.left g.S.Source.faults c.args.group.now c.args.limit.0 c.args.lanes.now c.args.seat.now c.args.seats.now c.requires.lanes c.requires.seats);
      seats = b.seats;
      works = e.does.works;
      numbers = e.does.numbers;
      reached = λ is. b.reached (e.reached is);
      may = e.may;
    }
