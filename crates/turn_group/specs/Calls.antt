-- A step of the machine under the turn.
use Rattle.std.specs.Prelude.{IsTrue}
use Rattle.group_state.specs.Groups.{Group}
use Rattle.group_state.specs.Machine.{Call, Reply, steps}
use Rattle.group_state.specs.Calls.{is_by_seat}
use Rattle.group_state.specs.Runs.{May, Answer}
use Rattle.turn.specs.declared.view.Ticketed.{Ticketed}

-- a call of a seat that may be made, answered as the machine answers
abbrev pub seat_steps : Group → Call → Reply → Group → Type 0
seat_steps old call reply new = IsTrue (is_by_seat call) × May old call × steps old call reply new

-- a call with its ticket and its reply
abbrev pub MadeCall : Type 0
MadeCall = Ticketed Call Reply

abbrev pub as_answer : MadeCall → Answer
as_answer made = record { call = made.event; reply = made.reply }
