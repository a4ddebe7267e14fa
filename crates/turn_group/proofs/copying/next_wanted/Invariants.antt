use Rattle.turn_group.specs.Notes.{note_after}
use Rattle.turn_group.specs.Seats.{note_in}
use Rattle.group_state.specs.Machine.Call.{NextWanted}
use Rattle.group_state.specs.Machine.Reply.{Wanted}
use Rattle.turn_group.proofs.copying.next_wanted.Given as goal

abbrev pub ghosts-pass_turn : goal.ghosts-pass_turn
ghosts-pass_turn g a = record { event = NextWanted a._asked.now; reply = Wanted a._reply.now; note = note_after (NextWanted a._asked.now) (Wanted a._reply.now) (note_in a.place.now.me.0.notes) }
