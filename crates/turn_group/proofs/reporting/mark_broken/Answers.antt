use Rattle.std.proofs.Common.{refl}
use Rattle.group_state.specs.Machine.Call.{Break}
use Rattle.group_state.specs.Machine.Reply.{Made}
use Rattle.turn_group.proofs.Leaving.{after_break}
use Rattle.turn_group.proofs.Turning.{may_pass_call, called_by, noted_of, report_may}
use Rattle.turn_group.specs.Seats.{reader_note, reader_view, note_in, floor_in, reporting_in}
use Rattle.group_state.specs.Calls.{is_by_reader}
use Rattle.turn_group.proofs.reporting.mark_broken.Goals as goal

pub pass_turn-requires-clause-call : goal.pass_turn-requires-clause-call
pass_turn-requires-clause-call g c =
    let took = c.take_turn-state.ensures.turn in
    let note = reader_note c.args.control c.args.place.now.me.0.notes in
    let h = noted_of note (is_by_reader c.args.control) c.requires.view took in
    may_pass_call note c.requires.view.noted took (Break c.args.control c.args.upto c.args.cause) (Made) c.broken.new.self
    (refl, (h.0, report_may c.take_turn-state.result (reader_view c.args.place.now.table_id c.args.control c.args.place.now.me.0) c.args.upto h c.requires.may), c.broken.ensures.step) (after_break c.take_turn-state.result c.broken.new.self Made c.args.control c.args.upto c.args.cause (floor_in (note_in c.args.place.now.me.0.notes)) (reporting_in (note_in c.args.place.now.me.0.notes)) h c.broken.ensures.step)

pub returns : goal.returns
returns g c = record { called = called_by (Break c.args.control c.args.upto c.args.cause) (Made) c.take_turn-state.ensures.same c.take_turn-state.ensures.turn c.pass_turn.ensures.same c.pass_turn.ensures.passed }
