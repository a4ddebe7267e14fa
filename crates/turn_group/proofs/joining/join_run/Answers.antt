use Rattle.std.proofs.Common.{refl}
use Rattle.group_state.specs.Machine.Call.{Join}
use Rattle.group_state.specs.Answers.{run_reply}
use Rattle.turn_group.proofs.Leaving.{after_join}
use Rattle.turn_group.proofs.Turning.{may_pass_call, called_by, noted_of, sizes_of_turn, join_may}
use Rattle.turn_group.specs.Seats.{reader_note, reader_view, note_in, floor_in, reporting_in}
use Rattle.group_state.specs.Calls.{is_by_reader}
use Rattle.turn_group.proofs.joining.join_run.Goals as goal

pub join_ref-joined-requires-clause-legal : goal.join_ref-joined-requires-clause-legal
join_ref-joined-requires-clause-legal g c =
    let took = c.take_turn-state.ensures.turn in
    let note = reader_note c.args.batch.now.control c.args.place.now.me.0.notes in
    let own = is_by_reader c.args.batch.now.control in
    join_may c.take_turn-state.result (reader_view c.args.place.now.table_id c.args.batch.now.control c.args.place.now.me.0) c.args.batch.now refl (noted_of note own c.requires.view took) (sizes_of_turn note own c.requires.view took) c.requires.may

pub pass_turn-requires-clause-call : goal.pass_turn-requires-clause-call
pass_turn-requires-clause-call g c =
    let took = c.take_turn-state.ensures.turn in
    let note = reader_note c.args.batch.now.control c.args.place.now.me.0.notes in
    let h = noted_of note (is_by_reader c.args.batch.now.control) c.requires.view took in
    may_pass_call note c.requires.view.noted took (Join c.args.batch.now) (run_reply c.join_ref-joined.result) c.join_ref-joined.new.self
    (refl, record { control = h.0; rules = c.requires.may.rules; legal = join_may c.take_turn-state.result (reader_view c.args.place.now.table_id c.args.batch.now.control c.args.place.now.me.0) c.args.batch.now refl h (sizes_of_turn note (is_by_reader c.args.batch.now.control) c.requires.view took) c.requires.may }, c.join_ref-joined.ensures.step) (after_join c.take_turn-state.result c.join_ref-joined.new.self (run_reply c.join_ref-joined.result) c.args.batch.now (floor_in (note_in c.args.place.now.me.0.notes)) (reporting_in (note_in c.args.place.now.me.0.notes)) h c.join_ref-joined.ensures.step)

pub returns : goal.returns
returns g c = record { called = called_by (Join c.args.batch.now) (run_reply c.join_ref-joined.result) c.take_turn-state.ensures.same c.take_turn-state.ensures.turn c.pass_turn.ensures.same c.pass_turn.ensures.passed }
