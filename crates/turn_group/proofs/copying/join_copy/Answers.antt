use Rattle.std.proofs.Common.{refl}
use Rattle.group_state.specs.Machine.Call.{Copied}
use Rattle.group_state.specs.Answers.{copy_reply}
use Rattle.turn_group.proofs.Leaving.{after_copy}
use Rattle.turn_group.proofs.Turning.{may_pass_call, called_by, noted_of, sizes_of_turn, copy_may}
use Rattle.turn_group.specs.Seats.{reader_note, reader_view, note_in, floor_in, reporting_in}
use Rattle.group_state.specs.Calls.{is_by_reader}
use Rattle.turn_group.proofs.copying.join_copy.Goals as goal

pub copied-joined-requires-clause-track : goal.copied-joined-requires-clause-track
copied-joined-requires-clause-track g c =
    let took = c.take_turn-state.ensures.turn in
    let note = reader_note c.args.control c.args.place.now.me.0.notes in
    let own = is_by_reader c.args.control in
    (copy_may c.take_turn-state.result (reader_view c.args.place.now.table_id c.args.control c.args.place.now.me.0) c.args.volume c.args.track c.args.at (noted_of note own c.requires.view took) (sizes_of_turn note own c.requires.view took) c.requires.may).track

pub pass_turn-requires-clause-call : goal.pass_turn-requires-clause-call
pass_turn-requires-clause-call g c =
    let took = c.take_turn-state.ensures.turn in
    let note = reader_note c.args.control c.args.place.now.me.0.notes in
    let h = noted_of note (is_by_reader c.args.control) c.requires.view took in
    may_pass_call note c.requires.view.noted took (Copied c.args.control c.args.volume c.args.track c.args.at c.args.slot.now) (copy_reply c.copied-joined.result) c.copied-joined.new.self
    (refl, (h.0, copy_may c.take_turn-state.result (reader_view c.args.place.now.table_id c.args.control c.args.place.now.me.0) c.args.volume c.args.track c.args.at h (sizes_of_turn note (is_by_reader c.args.control) c.requires.view took) c.requires.may), c.copied-joined.ensures.step) (after_copy c.take_turn-state.result c.copied-joined.new.self (copy_reply c.copied-joined.result) c.args.control c.args.volume c.args.track c.args.at c.args.slot.now (floor_in (note_in c.args.place.now.me.0.notes)) (reporting_in (note_in c.args.place.now.me.0.notes)) h c.copied-joined.ensures.step)

pub returns : goal.returns
returns g c = record { called = called_by (Copied c.args.control c.args.volume c.args.track c.args.at c.args.slot.now) (copy_reply c.copied-joined.result) c.take_turn-state.ensures.same c.take_turn-state.ensures.turn c.pass_turn.ensures.same c.pass_turn.ensures.passed }
