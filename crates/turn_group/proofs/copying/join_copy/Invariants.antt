use Rattle.turn_group.specs.Notes.{note_after}
use Rattle.turn_group.specs.Seats.{note_in}
use Rattle.group_state.specs.Machine.Call.{Copied}
use Rattle.group_state.specs.Answers.{copy_reply}
use Rattle.turn_group.proofs.copying.join_copy.Given as goal

abbrev pub ghosts-pass_turn : goal.ghosts-pass_turn
ghosts-pass_turn g a = record { event = Copied a._asked.now.0 a._asked.now.1 a._asked.now.2 a._asked.now.3 a._asked.now.4.now; reply = copy_reply a._reply.now; note = note_after (Copied a._asked.now.0 a._asked.now.1 a._asked.now.2 a._asked.now.3 a._asked.now.4.now) (copy_reply a._reply.now) (note_in a.place.now.me.0.notes) }
