use Rattle.std.proofs.Common.{refl}
use Rattle.group_state.specs.Controls.{new_control}
use Rattle.group_state.specs.Machine.Call.{NextWanted}
use Rattle.group_state.specs.Machine.Reply.{Wanted}
use Rattle.turn_group.proofs.Leaving.{after_next}
use Rattle.turn_group.proofs.Turning.{may_pass_call, called_by, noted_of, sizes_of_turn, kept_of_turn}
use Rattle.turn_group.specs.Seats.{reader_note, note_in, floor_in, reporting_in, first_or}
use Rattle.group_state.specs.Calls.{is_by_reader}
use Rattle.turn_group.proofs.Wanting.{next_within}
use Rattle.turn_group.proofs.copying.next_wanted.Goals as goal

pub pass_turn-requires-clause-call : goal.pass_turn-requires-clause-call
pass_turn-requires-clause-call g c =
    let took = c.take_turn-state.ensures.turn in
    let note = reader_note c.args.control c.args.place.now.me.0.notes in
    let h = noted_of note (is_by_reader c.args.control) c.requires.view took in
    may_pass_call note c.requires.view.noted took (NextWanted c.args.control) (Wanted c.next_wanted-wanted.result) c.take_turn-state.result
    (refl, h.0, c.next_wanted-wanted.ensures.step) (after_next c.take_turn-state.result c.take_turn-state.result (Wanted c.next_wanted-wanted.result) c.args.control (floor_in (note_in c.args.place.now.me.0.notes)) (reporting_in (note_in c.args.place.now.me.0.notes)) h c.next_wanted-wanted.ensures.step)

pub returns-clause-called : goal.returns-clause-called
returns-clause-called g c = called_by (NextWanted c.args.control) (Wanted c.next_wanted-wanted.result) c.take_turn-state.ensures.same c.take_turn-state.ensures.turn c.pass_turn.ensures.same c.pass_turn.ensures.passed

pub returns-clause-within : goal.returns-clause-within
returns-clause-within g c =
    let x = c.take_turn-state.result in
    let took = c.take_turn-state.ensures.turn in
    let note = reader_note c.args.control c.args.place.now.me.0.notes in
    let own = is_by_reader c.args.control in
    let h = noted_of note own c.requires.view took in
    next_within (first_or c.args.place.now.me.0.first) x c.args.control (sizes_of_turn note own c.requires.view took) ((kept_of_turn note own c.requires.view took).sound c.args.control (new_control 0 0 0) h.0) c.next_wanted-wanted.result c.next_wanted-wanted.ensures.wanted
