use Rattle.std.proofs.Common.{refl}
use Rattle.group_state.specs.Groups.{shown_in}
use Rattle.group_state.specs.Machine.Call.{Form}
use Rattle.group_state.specs.Answers.{form_reply}
use Rattle.turn_group.proofs.Leaving.{after_form}
use Rattle.turn_group.proofs.Turning.{may_pass_call, called_by, noted_of, kept_of_turn, form_may}
use Rattle.turn_group.specs.Seats.{mover_note, note_in, floor_in, known_in}
use Rattle.group_state.specs.Calls.{is_by_mover}
use Rattle.turn_group.proofs.Forming.{form_upto, form_from, form_carried}
use Rattle.turn_group.proofs.moving.form.Goals as goal

pub pass_turn-requires-clause-call : goal.pass_turn-requires-clause-call
pass_turn-requires-clause-call g c =
    let took = c.take_turn-state.ensures.turn in
    let note = mover_note c.args.place.now.me.0.notes in
    let h = noted_of note (is_by_mover) c.requires.view took in
    may_pass_call note c.requires.view.noted took (Form c.args.limit) (form_reply c.form-formed.result (shown_in c.form-formed.new.out)) c.form-formed.new.self
    (refl, form_may c.take_turn-state.result c.args.limit h c.requires.limit, c.form-formed.ensures.step) (after_form c.take_turn-state.result c.form-formed.new.self (form_reply c.form-formed.result (shown_in c.form-formed.new.out)) c.args.limit (floor_in (note_in c.args.place.now.me.0.notes)) (known_in (note_in c.args.place.now.me.0.notes)) h c.form-formed.ensures.step)

pub returns-clause-called : goal.returns-clause-called
returns-clause-called g c = called_by (Form c.args.limit) (form_reply c.form-formed.result (shown_in c.form-formed.new.out)) c.take_turn-state.ensures.same c.take_turn-state.ensures.turn c.pass_turn.ensures.same c.pass_turn.ensures.passed

pub returns-clause-from : goal.returns-clause-from
returns-clause-from g c =
    let took = c.take_turn-state.ensures.turn in
    let note = mover_note c.args.place.now.me.0.notes in
    let h = noted_of note is_by_mover c.requires.view took in
    form_from c.take_turn-state.result c.form-formed.new.self c.args.limit (floor_in (note_in c.args.place.now.me.0.notes)) c.form-formed.result c.form-formed.new.out h.0 c.requires.limit (kept_of_turn note is_by_mover c.requires.view took).told c.form-formed.ensures.step

pub returns-clause-upto : goal.returns-clause-upto
returns-clause-upto g c = form_upto c.take_turn-state.result c.form-formed.new.self c.args.limit c.form-formed.result c.form-formed.new.out c.form-formed.ensures.step

pub returns-clause-carried : goal.returns-clause-carried
returns-clause-carried g c =
    let took = c.take_turn-state.ensures.turn in
    let notes = c.args.place.now.me.0.notes in
    let note = mover_note notes in
    let h = noted_of note is_by_mover c.requires.view took in
    form_carried c.take_turn-state.result c.form-formed.new.self c.args.limit c.form-formed.result c.form-formed.new.out (known_in (note_in notes)) h.1 (kept_of_turn note is_by_mover c.requires.view took) c.form-formed.ensures.step
