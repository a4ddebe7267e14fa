use Rattle.turn_group.specs.Notes.{note_after}
use Rattle.turn_group.specs.Seats.{note_in}
use Rattle.group_state.specs.Machine.Call.{Break}
use Rattle.group_state.specs.Machine.Reply.{Made}
use Rattle.turn_group.proofs.reporting.mark_broken.Given as goal

abbrev pub ghosts-pass_turn : goal.ghosts-pass_turn
ghosts-pass_turn g a = record { event = Break a._asked.now.0 a._asked.now.1 a._asked.now.2; reply = Made; note = note_after (Break a._asked.now.0 a._asked.now.1 a._asked.now.2) (Made) (note_in a.place.now.me.0.notes) }
