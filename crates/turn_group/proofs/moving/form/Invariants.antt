use Rattle.turn_group.specs.Notes.{note_after}
use Rattle.turn_group.specs.Seats.{note_in}
use Rattle.group_state.specs.Groups.{shown_in}
use Rattle.group_state.specs.Machine.Call.{Form}
use Rattle.group_state.specs.Answers.{form_reply}
use Rattle.turn_group.proofs.moving.form.Given as goal

abbrev pub ghosts-pass_turn : goal.ghosts-pass_turn
ghosts-pass_turn g a = record { event = Form a._asked.now; reply = form_reply a._reply.now.0 (shown_in a._reply.now.1.now); note = note_after (Form a._asked.now) (form_reply a._reply.now.0 (shown_in a._reply.now.1.now)) (note_in a.place.now.me.0.notes) }
