-- A worked run.
use Rattle.std.specs.Prelude.{List, [], ◌∷◌, false}
use Rattle.ckd_track.specs.declared.layout.TheConstants.{BLOCKS_OF_QUEUE, WRITES_OF_RUN}
use Rattle.ckd_track.specs.declared.write.Cause.TheVariants.{ReadFault}
use Rattle.group_state.specs.Groups.{Group, new_group}
use Rattle.group_state.specs.Machine.{Call, reply_to, group_after}
use Rattle.group_state.specs.Machine.Call.{Join, NextWanted, Break, Form, Carry, Drop, Resume}
use Rattle.group_tests.specs.CutVectors.{whole_on}
use Rattle.group_tests.specs.StateVectors.{batch, raise, none_wanted, copy}
use Rattle.group_state.specs.Runs.{Answer}

-- the calls with the machine's replies to them
abbrev pub answers_to : Group → List Call → List Answer
answers_to s [] = []
answers_to s (call ∷ calls) = record { call = call; reply = reply_to s call } ∷ answers_to (group_after s call) calls

-- Two controllers, of which the first carries its volume 0 until it is dropped, and again from its resume on. One copied track is
-- stale. The second controller breaks.
abbrev pub first_state : Group
first_state = new_group 2 WRITES_OF_RUN BLOCKS_OF_QUEUE

abbrev pub worked_calls : List Call
worked_calls =
    Carry 0 0 none_wanted ∷ Join (batch 0 (whole_on 0 0x10 ∷ []) 0x1F) ∷ copy 1 0x1F ∷ raise 1 0x15 ∷ Form (record { 0 = 0x40 })
    ∷ Drop 0 0 false ∷ Join (batch 0 (whole_on 1 0x20 ∷ []) 0x20) ∷ Resume 0 0 ∷ NextWanted 0 ∷ copy 1 0x20 ∷ Break 1 (record { 0 = 0x30 }) ReadFault ∷ []
