-- The machine: what each call on a group state replies, and the state after it.
use Rattle.std.specs.Prelude.{◌≡◌, ℕ, ◌&&◌, List, Bool, Option, if◌then◌else◌}
use Rattle.tod_stamp.specs.declared.stamp.Stamp.{Stamp}
use Rattle.ckd_track.specs.declared.rec.Rec.{Rec}
use Rattle.ckd_track.specs.declared.write.Batch.{Batch}
use Rattle.ckd_track.specs.declared.write.Cause.{Cause}
use Rattle.copy_plan.specs.Plans.{PlanState}
use Rattle.pending_queue.specs.declared.room.Room.{Room}
use Rattle.group_state.specs.Volumes.{next_wanted, is_wanted, owed}
use Rattle.group_state.specs.Controls.{fits, fits_track, room_of, joined, copied, raised, broke, begun_volume, dropped, resumed, forgotten}
use Rattle.group_state.specs.Groups.{Group, Shown, control_at, with_control, cut_of, gives_nothing, formed_at, shown_at}

-- the calls, with their arguments; a copied track comes with what is in its slot
pub data Call : Type 0 where
  Join : (batch : Batch) → Call
  NextWanted : (control : ℕ) → Call
  Copied : (control volume track : ℕ) → (at : Stamp) → (slot : List Rec) → Call
  Raise : (control : ℕ) → (upto : Stamp) → Call
  Break : (control : ℕ) → (upto : Stamp) → (cause : Cause) → Call
  Form : (limit : Stamp) → Call
  Carry : (control volume : ℕ) → (plan : PlanState) → Call
  Drop : (control volume : ℕ) → (all : Bool) → Call
  Resume : (control volume : ℕ) → Call
  Forget : (control volume : ℕ) → Call

-- the replies; a form replies what the group then shows
pub data Reply : Type 0 where
  Made : Reply
  Joined : Reply
  Held : (room : Room) → Reply
  Stale : Reply
  Wanted : Option (ℕ × ℕ) → Reply
  Formed : Shown → Reply
  Nothing : Shown → Reply
  Owed : (tracks : ℕ) → Reply

-- the reply to a copied track
abbrev pub reply_to_copied : (wanted fitting : Bool) → Room → Reply
reply_to_copied wanted fitting room = if wanted then (if fitting then Joined else Held room) else Stale

abbrev pub reply_to : Group → Call → Reply
reply_to s (Join b) = if fits (control_at s b.control) b then Joined else Held (room_of (control_at s b.control))
reply_to s (NextWanted k) = Wanted (next_wanted (control_at s k).volumes)
reply_to s (Copied k v x at recs) = reply_to_copied (is_wanted v x (control_at s k).volumes) (fits_track (control_at s k) recs) (room_of (control_at s k))
reply_to s (Raise k upto) = Made
reply_to s (Break k upto cause) = Made
reply_to s (Form limit) = if gives_nothing s limit then Nothing (shown_at (cut_of s limit) s) else Formed (shown_at (cut_of s limit) s)
reply_to s (Carry k v plan) = Made
reply_to s (Drop k v all) = Made
reply_to s (Resume k v) = Owed (owed v (control_at s k).volumes)
reply_to s (Forget k v) = Made

abbrev pub group_after : Group → Call → Group
group_after s (Join b) = if fits (control_at s b.control) b then with_control b.control (joined b) s else s
group_after s (NextWanted k) = s
group_after s (Copied k v x at recs) = if is_wanted v x (control_at s k).volumes && fits_track (control_at s k) recs then with_control k (copied v x at recs) s else s
group_after s (Raise k upto) = with_control k (raised upto) s
group_after s (Break k upto cause) = with_control k (broke upto cause) s
group_after s (Form limit) = formed_at (cut_of s limit) s
group_after s (Carry k v plan) = with_control k (begun_volume v plan) s
group_after s (Drop k v all) = with_control k (dropped v all) s
group_after s (Resume k v) = with_control k (resumed v) s
group_after s (Forget k v) = with_control k (forgotten v) s

-- A step of the machine: the call replies as the machine does, and the state is the machine's.
abbrev pub steps : Group → Call → Reply → Group → Type 0
steps old call reply new = (reply ≡ reply_to old call) × (new ≡ group_after old call)
