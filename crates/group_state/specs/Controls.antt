-- A controller of a group state, and what each call makes of it.
use Rattle.std.specs.Prelude.{ℕ, ◌==◌, ◌||◌, not, List, [], ◌∷◌, ◌++◌, length, filter, Bool, true, false, Option, Some, None, if◌then◌else◌, min, is_some}
use Rattle.tod_stamp.specs.declared.stamp.Stamp.{Stamp}
use Rattle.ckd_track.specs.declared.rec.Rec.{Rec}
use Rattle.ckd_track.specs.declared.write.Batch.{Batch}
use Rattle.ckd_track.specs.declared.write.Cause.{Cause}
use Rattle.ckd_track.specs.declared.write.Write.{Write}
use Rattle.copy_plan.specs.Plans.{PlanState}
use Rattle.pending_queue.specs.declared.room.Room.{Room}
use Rattle.pending_queue.specs.Entries.{WaitingEntry, entries_of, copy_of, copy_head, copies, due, left, without_volume, entry_tracks}
use Rattle.pending_queue.specs.Queues.{QueueState, empty_queue, with_waiting, free_room}
use Rattle.pending_queue.specs.Rooms.{has_room, has_room_for_track}
use Rattle.group_state.specs.declared.phase.Phase.{Phase}
use Rattle.group_state.specs.declared.phase.Phase.TheVariants.{Unbroken, Broken, Reported}
use Rattle.group_state.specs.declared.volume.Volume.{Volume}
use Rattle.group_state.specs.Volumes.{with_volume, without_number, is_carried, with_writes, copied_track, dropped_volume, resumed_volume, begun, with_formed_copies, is_volume_done, numbers_of}

pub record ControlState : Type 0 where
  -- the entries that wait, and the room for them
  pub queue : QueueState
  -- the time up to which the controller has reported; once it has broken, its break time
  pub floor : Stamp
  -- whether it still reports, has broken, or has broken and was reported
  pub phase : Phase
  -- the volumes that are carried, and those that were dropped and aren't forgotten
  pub volumes : List Volume

abbrev pub new_control : (control records blocks : ℕ) → ControlState
new_control k records blocks = record { queue = empty_queue k records blocks; floor = record { 0 = 0 }; phase = Unbroken; volumes = [] }

-- ---- reading

abbrev pub is_reporting : Phase → Bool
is_reporting Unbroken = true
is_reporting (Broken cause) = false
is_reporting Reported = false

-- A controller counts for the cut until its break is reported.
abbrev pub counts : Phase → Bool
counts Unbroken = true
counts (Broken cause) = true
counts Reported = false

-- the writes of a batch that are carried
abbrev pub carried_writes : ControlState → Batch → List Write
carried_writes c b = filter (is_carried c.volumes) b.writes

abbrev pub room_of : ControlState → Room
room_of c = free_room c.queue

-- whether the carried writes of a batch fit the free room
abbrev pub fits : ControlState → Batch → Bool
fits c b = has_room (room_of c) (carried_writes c b)

abbrev pub fits_track : ControlState → List Rec → Bool
fits_track c recs = has_room_for_track (room_of c) recs

-- ---- changes

abbrev pub joined : Batch → ControlState → ControlState
joined b c = record c { queue = with_waiting c.queue (c.queue.waiting ++ entries_of c.queue.control (carried_writes c b)); floor = b.upto; volumes = with_writes c.volumes b.writes }

abbrev pub copied : (volume track : ℕ) → (at : Stamp) → List Rec → ControlState → ControlState
copied v x at recs c = record c { queue = with_waiting c.queue (c.queue.waiting ++ copy_of (copy_head c.queue.control v x at) recs ∷ []); volumes = with_volume v (copied_track x) c.volumes }

abbrev pub raised : (upto : Stamp) → ControlState → ControlState
raised upto c = record c { floor = upto }

abbrev pub broke : (upto : Stamp) → Cause → ControlState → ControlState
broke upto cause c = record c { floor = upto; phase = Broken cause }

abbrev pub begun_volume : (volume : ℕ) → PlanState → ControlState → ControlState
begun_volume v plan c = record c { volumes = c.volumes ++ begun v plan ∷ [] }

-- A drop takes out the volume's entries. A volume that was never carried, or was forgotten, has none, and no map.
abbrev pub dropped : (volume : ℕ) → (all : Bool) → ControlState → ControlState
dropped v all c = record c { queue = with_waiting c.queue (without_volume v c.queue.waiting); volumes = with_volume v (dropped_volume all (entry_tracks v c.queue.waiting)) c.volumes }

abbrev pub resumed : (volume : ℕ) → ControlState → ControlState
resumed v c = record c { volumes = with_volume v resumed_volume c.volumes }

abbrev pub forgotten : (volume : ℕ) → ControlState → ControlState
forgotten v c = record c { volumes = without_number v c.volumes }

-- ---- forms

-- the lesser of a cut and the floor, where the controller counts
abbrev pub lesser : (cut : ℕ) → ControlState → ℕ
lesser cut c = if counts c.phase then min cut c.floor.0 else cut

-- the cause of the break that a form with this cut reports: that of a broken controller whose break time is the cut
abbrev pub reported_cause : (cut floor : Stamp) → Phase → Option Cause
reported_cause cut floor Unbroken = None
reported_cause cut floor (Broken cause) = if floor.0 == cut.0 then Some cause else None
reported_cause cut floor Reported = None

abbrev pub reported : (control : ℕ) → (floor : Stamp) → Option Cause → List (ℕ × Stamp × Cause)
reported k floor None = []
reported k floor (Some cause) = (k, floor, cause) ∷ []

abbrev pub reported_break : (cut : Stamp) → ControlState → List (ℕ × Stamp × Cause)
reported_break cut c = reported c.queue.control c.floor (reported_cause cut c.floor c.phase)

-- a broken controller whose break time is the cut is reported
abbrev pub phase_after : (cut floor : Stamp) → Phase → Phase
phase_after cut floor Unbroken = Unbroken
phase_after cut floor (Broken cause) = if floor.0 == cut.0 then Reported else Broken cause
phase_after cut floor Reported = Reported

abbrev pub due_of : (cut : Stamp) → ControlState → List WaitingEntry
due_of cut c = due cut c.queue.waiting

-- A form takes the entries up to its cut, reports a break at it, and counts the copied tracks that it takes as formed.
abbrev pub formed : (cut : Stamp) → ControlState → ControlState
formed cut c = record c { queue = with_waiting c.queue (left cut c.queue.waiting); phase = phase_after cut c.floor c.phase; volumes = with_formed_copies c.volumes (copies (due_of cut c)) }

-- whether a form with this cut takes an entry of the controller or reports its break
abbrev pub has_news : (cut : Stamp) → ControlState → Bool
has_news cut c = not (length (due_of cut c) == 0) || is_some (reported_cause cut c.floor c.phase)

abbrev pub done_of : ControlState → List (ℕ × ℕ)
done_of c = numbers_of c.queue.control (filter is_volume_done c.volumes)
