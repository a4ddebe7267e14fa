-- What goes through a controller's queue in a run: what waited at its start and what it gains is, without what drops take out, what groups
-- show of it and what waits at the end.
use Rattle.std.specs.Prelude.{◌≡◌, ℕ, ◌<◌, ◌==◌, ◌&&◌, ◌||◌, not, List, [], ◌∷◌, ◌++◌, length, filter, Bool, false, Option, Some, None, if◌then◌else◌}
use Rattle.tod_stamp.specs.declared.stamp.Stamp.{Stamp}
use Rattle.ckd_track.specs.declared.rec.Rec.{Rec}
use Rattle.ckd_track.specs.declared.write.Batch.{Batch}
use Rattle.pending_queue.specs.Entries.{WaitingEntry, entries_of, copy_of, copy_head, is_of_volume, is_due}
use Rattle.group_state.specs.Volumes.{is_wanted}
use Rattle.group_state.specs.Controls.{ControlState, carried_writes, fits, fits_track}
use Rattle.group_state.specs.Groups.{Group, Shown, control_at}
use Rattle.group_state.specs.SoundStates.{IsGroupSound, is_entry_of_control}
use Rattle.group_state.specs.Machine.{Call, Reply, group_after}
use Rattle.group_state.specs.Machine.Call.{Join, Copied, Form, Drop}
use Rattle.group_state.specs.Runs.{Answer, Runs, shown_by}

abbrev pub waiting_at : (control : ℕ) → Group → List WaitingEntry
waiting_at k s = (control_at s k).queue.waiting

-- ---- what a queue gains

abbrev pub gained_by_batch : ControlState → Batch → List WaitingEntry
gained_by_batch c b = if fits c b then entries_of c.queue.control (carried_writes c b) else []

abbrev pub gained_by_copy : ControlState → (volume track : ℕ) → (at : Stamp) → (slot : List Rec) → List WaitingEntry
gained_by_copy c v x at slot = if is_wanted v x c.volumes && fits_track c slot then copy_of (copy_head c.queue.control v x at) slot ∷ [] else []

-- A queue gains the carried writes of its reader's batches that fit, and the wanted tracks that its reader copied and that fit.
abbrev pub gained : (control : ℕ) → Group → Call → List WaitingEntry
gained k s (Join b) = if b.control == k then gained_by_batch (control_at s b.control) b else []
gained k s (Copied j v x at slot) = if j == k then gained_by_copy (control_at s j) v x at slot else []
gained k s call = []

-- ---- what a drop takes out

abbrev pub is_shown_by : Option Shown → WaitingEntry → Bool
is_shown_by None e = false
is_shown_by (Some shown) e = is_due shown.cut e

abbrev pub falls_by : (control : ℕ) → WaitingEntry → Call → Reply → (later : Bool) → Bool
falls_by k e (Form limit) reply later = not (is_shown_by (shown_by reply) e) && later
falls_by k e (Drop j v all) reply later = (j == k && is_of_volume v e) || later
falls_by k e call reply later = later

-- whether an entry that waits for a controller is dropped with its volume before a form's cut reaches its stamp
abbrev pub falls : (control : ℕ) → List Answer → WaitingEntry → Bool
falls k [] e = false
falls k (a ∷ log) e = falls_by k e a.call a.reply (falls k log e)

-- whether no drop takes it out
abbrev pub stays_in : (control : ℕ) → List Answer → WaitingEntry → Bool
stays_in k log e = not (falls k log e)

-- what a controller's queue gains in a run, without what a drop takes out
abbrev pub stays_of : (control : ℕ) → Group → List Answer → List WaitingEntry
stays_of k s [] = []
stays_of k s (a ∷ log) = filter (stays_in k log) (gained k s a.call) ++ stays_of k (group_after s a.call) log

-- ---- what groups show

abbrev pub own_part : (control : ℕ) → Option Shown → List WaitingEntry
own_part k None = []
own_part k (Some shown) = filter (is_entry_of_control k) shown.entries

abbrev pub part_by : (control : ℕ) → Call → Reply → List WaitingEntry
part_by k (Form limit) reply = own_part k (shown_by reply)
part_by k call reply = []

-- a controller's part of the groups that the forms of a run show
abbrev pub part_of_groups : (control : ℕ) → List Answer → List WaitingEntry
part_of_groups k [] = []
part_of_groups k (a ∷ log) = part_by k a.call a.reply ++ part_of_groups k log

-- ---- the law

-- For each controller, what waited and what it gained, both without what drops take out, are its part of the groups and then what waits
-- at the end, in order, each once.
abbrev pub QueuesFlow : Type 0
QueuesFlow = (k : ℕ) (first : Group) (log : List Answer) (end : Group) → k < length first.controls → IsGroupSound first → Runs first log end
    → filter (stays_in k log) (waiting_at k first) ++ stays_of k first log ≡ part_of_groups k log ++ waiting_at k end
