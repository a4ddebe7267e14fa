use Rattle.turn_group.specs.Notes.{note_after}
use Rattle.turn_group.specs.Seats.{note_in}
use Rattle.group_state.specs.Machine.Call.{Join}
use Rattle.group_state.specs.Answers.{run_reply}
use Rattle.turn_group.proofs.joining.join_run.Given as goal

abbrev pub ghosts-pass_turn : goal.ghosts-pass_turn
ghosts-pass_turn g a = record { event = Join a._asked.now; reply = run_reply a._reply.now; note = note_after (Join a._asked.now) (run_reply a._reply.now) (note_in a.place.now.me.0.notes) }
