-- Runs of the shared state: calls with their replies, when each may be made, and the history that a run is.
use Rattle.std.specs.Prelude.{◌≡◌, ℕ, ◌<◌, ◌≤◌, List, [], ◌∷◌, length, filter, Bool, Option, Some, None, IsTrue}
use Rattle.std.specs.List.{filter_map, range_with_len}
use Rattle.std.specs.Option.{option_map}
use Rattle.tod_stamp.specs.declared.stamp.Stamp.{Stamp}
use Rattle.ckd_track.specs.declared.write.Batch.{Batch}
use Rattle.change_map.specs.Sets.{has_track}
use Rattle.pending_queue.specs.Entries.{all_keep_rules}
use Rattle.cut_core.specs.Events.{Event}
use Rattle.cut_core.specs.Events.Event.{Join as Joins, Copied as Copies, Break as Breaks, Raise as Raises, Form as Forms, Drop as Drops, Carry as Carries, Resume as Resumes, Forget as Forgets}
use Rattle.group_state.specs.Controls.{ControlState, is_reporting}
use Rattle.group_state.specs.Groups.{Group, Shown, control_at}
use Rattle.group_state.specs.SoundStates.{MayReport, MayJoin, MayCarry, is_track_within, is_dropped}
use Rattle.group_state.specs.Machine.{Call, Reply, steps}
use Rattle.group_state.specs.Machine.Call.{Join, NextWanted, Copied, Raise, Break, Form, Carry, Drop, Resume, Forget}
use Rattle.group_state.specs.Machine.Reply.{Made, Joined, Formed, Nothing, Owed}

-- a call and its reply
pub record Answer : Type 0 where
  pub call : Call
  pub reply : Reply

-- ---- the history of a run

-- the tracks that a set has, the least first
abbrev pub tracks_in : List Bool → List ℕ
tracks_in set = filter (has_track set) (range_with_len 0 (length set))

-- what a form's reply shows
abbrev pub shown_by : Reply → Option Shown
shown_by (Formed shown) = Some shown
shown_by (Nothing shown) = Some shown
shown_by other = None

-- The event of an answered call. What is held or stale leaves the state as it was and is no event; nor is it one to ask for a
-- wanted track.
abbrev pub event_by : Call → Reply → Option Event
event_by (Join b) Joined = Some (Joins b)
event_by (Copied k v x at slot) Joined = Some (Copies k v x at.0)
event_by (Raise k upto) Made = Some (Raises k upto.0)
event_by (Break k upto cause) Made = Some (Breaks k upto.0)
event_by (Form limit) reply = option_map (λ shown. Forms shown.cut.0) (shown_by reply)
event_by (Carry k v plan) Made = Some (Carries k v (tracks_in plan.wanted))
event_by (Drop k v all) Made = Some (Drops k v all)
event_by (Resume k v) (Owed tracks) = Some (Resumes k v)
event_by (Forget k v) Made = Some (Forgets k v)
event_by call reply = None

abbrev pub event_of : Answer → Option Event
event_of answer = event_by answer.call answer.reply

abbrev pub history : List Answer → List Event
history run = filter_map event_of run

-- ---- when a call may be made

-- of a batch
pub record MayJoinIn (s : Group) (b : Batch) : Type 0 where
  pub control : b.control < length s.controls
  pub rules : IsTrue (all_keep_rules b.writes)
  pub legal : MayJoin (control_at s b.control) b

-- of a copied track
pub record MayCopy (c : ControlState) (v x : ℕ) (at : Stamp) : Type 0 where
  pub reporting : IsTrue (is_reporting c.phase)
  pub floor : at ≡ c.floor
  pub track : IsTrue (is_track_within c.volumes v x)

abbrev pub May : Group → Call → Type 0
May s (Join b) = MayJoinIn s b
May s (NextWanted k) = k < length s.controls
May s (Copied k v x at slot) = (k < length s.controls) × MayCopy (control_at s k) v x at
May s (Raise k upto) = (k < length s.controls) × MayReport (control_at s k) upto
May s (Break k upto cause) = (k < length s.controls) × MayReport (control_at s k) upto
May s (Form limit) = s.last.0 ≤ limit.0
May s (Carry k v plan) = (k < length s.controls) × MayCarry (control_at s k) v plan
May s (Drop k v all) = k < length s.controls
May s (Resume k v) = (k < length s.controls) × IsTrue (is_dropped v (control_at s k).volumes)
May s (Forget k v) = (k < length s.controls) × IsTrue (is_dropped v (control_at s k).volumes)

-- From one state to another by calls, each made when it may be made and answered as the machine answers. A `carry` without memory
-- changes nothing, and is no call of a run.
abbrev pub Runs : Group → List Answer → Group → Type 0
Runs s [] end = end ≡ s
Runs s (answer ∷ run) end = (next : Group) × May s answer.call × steps s answer.call answer.reply next × Runs next run end
