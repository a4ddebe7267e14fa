use Rattle.std.proofs.Common.{refl}
use Rattle.group_state.specs.Machine.Call.{Drop}
use Rattle.group_state.specs.Machine.Reply.{Made}
use Rattle.turn_group.proofs.Leaving.{after_drop}
use Rattle.turn_group.proofs.Turning.{may_pass_call, called_by, noted_of, controls_known}
use Rattle.turn_group.specs.Seats.{mover_note, note_in, floor_in, known_in}
use Rattle.group_state.specs.Calls.{is_by_mover}
use Rattle.turn_group.proofs.moving.drop_volume.Goals as goal

pub pass_turn-requires-clause-call : goal.pass_turn-requires-clause-call
pass_turn-requires-clause-call g c =
    let took = c.take_turn-state.ensures.turn in
    let note = mover_note c.args.place.now.me.0.notes in
    let h = noted_of note (is_by_mover) c.requires.view took in
    may_pass_call note c.requires.view.noted took (Drop c.args.control c.args.volume c.args.all) (Made) c.drop_volume.new.self
    (refl, controls_known c.take_turn-state.result h.1 c.requires.control, c.drop_volume.ensures.step) (after_drop c.take_turn-state.result c.drop_volume.new.self Made c.args.control c.args.volume c.args.all (floor_in (note_in c.args.place.now.me.0.notes)) (known_in (note_in c.args.place.now.me.0.notes)) (controls_known c.take_turn-state.result h.1 c.requires.control) h c.drop_volume.ensures.step)

pub returns : goal.returns
returns g c = record { called = called_by (Drop c.args.control c.args.volume c.args.all) (Made) c.take_turn-state.ensures.same c.take_turn-state.ensures.turn c.pass_turn.ensures.same c.pass_turn.ensures.passed }
