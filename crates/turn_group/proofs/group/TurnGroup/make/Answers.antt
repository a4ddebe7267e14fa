use Rattle.std.proofs.Common.{rules, arith, ◌≡◌, ◌<◌, ◌∷◌, [], length, Some, refl, sym, ap, ◌∙◌, subst, length-append}
use Rattle.group_state.specs.Calls.{is_by_reader}
use Rattle.turn_group.specs.Seats.{SeatView, IsViewSound, reader_note, reader_view, new_reader}
use Rattle.turn_group.proofs.Splitting.{split_more, split_seat, readers_more, new_places}
use Rattle.turn_group.proofs.group.TurnGroup.make.Goals as goal

pub invariant_of-push_reserved : goal.invariant_of-push_reserved
invariant_of-push_reserved c =
    let k = c.loop-control.control in
    let lt : k < length c.args.state.controls = omega (arith, c.loop-control-test.true, c.controls-controls.ensures.count) in
    let is = split_seat c.split-seat.result.place.table_id c.args.state k c.loop-control.mover.place.me.0 c.split-seat.result.place.me.0 lt c.loop-control.invariant.view c.split-seat.ensures.reader in
    subst (λ (z : SeatView). IsViewSound (reader_note k z.notes) (is_by_reader k) z) (sym is) (record { noted = refl; begun = refl; kept = c.controls-controls.ensures.kept; own = refl; unjoined = refl })

pub loop-control-preserved : goal.loop-control-preserved
loop-control-preserved c =
    let was = c.loop-control.invariant in
    let k = c.loop-control.control in
    let state = c.args.state in
    let table = c.in_ok-table.table.board.shared.table_id in
    let old = c.loop-control.mover.place.me.0 in
    let view = c.split-seat.result.place.me.0 in
    let lt : k < length state.controls = omega (arith, c.loop-control-test.true, c.controls-controls.ensures.count) in
    let is = split_seat table state k old view lt was.view c.split-seat.ensures.reader in
    let seat : reader_view c.split-seat.result.place.table_id k view ≡ new_reader table state k = λ i. reader_view (c.split-seat.ensures.table i) k (is i) in
    let pushed = c.push_reserved.ensures.items in
    record {
      table = c.split-seat.ensures.same.0 ∙ was.table;
      view = split_more state k old c.split-seat.new.mover.place.me.0 lt was.view c.split-seat.ensures.mover;
      room = search rules;
      many = (let longer = ap length pushed ∙ length-append c.loop-control.places.items (Some (reader_view c.split-seat.result.place.table_id k view) ∷ []) in let many = was.many in omega arith);
      made = readers_more table state k (reader_view c.split-seat.result.place.table_id k view) c.loop-control.places.items c.push_reserved.new.self.items was.made seat pushed;
    }

pub invariant_of-result-2 : goal.invariant_of-result-2
invariant_of-result-2 c = new_places c.in_ok-table.table.board.shared.table_id c.args.state c.loop-control.control c.loop-control.places.items c.loop-control.invariant.made
