-- What is handed over of the runs that are left.
use Rattle.std.specs.Prelude.{ℕ, ◌-◌, min, List, [], ◌∷◌, Option, Some, None, nat_lt, if◌then◌else◌}
use Rattle.ckd_track.specs.declared.write.Batch.{Batch}
use Rattle.ckd_track.specs.declared.write.Cause.{Cause}
use Rattle.write_trace.specs.declared.entry.Entry.{Entry}
use Rattle.write_trace.specs.Writes.{writes_of}
use Rattle.sidefile.specs.declared.hand.Hand.{Hand}
use Rattle.sidefile.specs.declared.hand.Hand.TheVariants as hands
use Rattle.sidefile.specs.Runs.{run_stamp, is_crowded}
use Rattle.sidefile.specs.Breaks.{Break, stamp, crowd, break_after}

abbrev pub batch_of : (control : ℕ) → List Entry → (upto : ℕ) → Batch
batch_of control run upto = record { control = control; writes = writes_of run; upto = stamp upto }

abbrev pub broken : Break → Hand
broken b = hands.Broken b.cause (stamp b.upto)

abbrev pub broken_or : Hand → Option Break → Hand
broken_or hand None = hand
broken_or hand (Some b) = broken b

-- The hand at a limit, where these runs are left. Nothing is left or the next stamp is above the limit: the controller is
-- at the limit. A run that is crowded, or in which the trace ends badly, is the break. Else it is a batch up to the
-- limit, or up to just before the following entry if that is less.
abbrev pub hand : (control : ℕ) → Option Cause → (limit : ℕ) → List (List Entry) → Hand
hand control cause limit [] = broken_or hands.AtLimit (break_after cause 0)
hand control cause limit (run ∷ []) =
    if nat_lt limit (run_stamp run) then hands.AtLimit
    else if is_crowded run then broken (crowd run)
    else broken_or (hands.Batch (batch_of control run limit)) (break_after cause (run_stamp run))
hand control cause limit (run ∷ next ∷ more) =
    if nat_lt limit (run_stamp run) then hands.AtLimit
    else if is_crowded run then broken (crowd run)
    else hands.Batch (batch_of control run (min limit (run_stamp next - 1)))

-- the runs that are left after a hand: a batch takes the first
abbrev pub left_after : Hand → List (List Entry) → List (List Entry)
left_after (hands.Batch batch) (run ∷ more) = more
left_after (hands.Batch batch) [] = []
left_after hands.AtLimit more = more
left_after (hands.Broken cause upto) more = more
left_after hands.NoMemory more = more
