-- What a group state keeps after a history: each thing that it keeps is what the history says of it.
use Rattle.std.specs.Prelude.{◌≡◌, ℕ, ◌<◌, not, List, [], length, filter, Bool, Option, Some, None, nat_lt, IsTrue}
use Rattle.std.specs.List.{AllZip}
use Rattle.ckd_track.specs.declared.write.Kind.{Kind}
use Rattle.change_map.specs.Sets.{has_track}
use Rattle.pending_queue.specs.Entries.{WaitingEntry, write_of, entry_of}
use Rattle.cut_core.specs.Events.{Event, floor, is_broken_after, is_live, last_cut}
use Rattle.cut_core.specs.Shares.{Share, share}
use Rattle.cut_core.specs.Groups.{CarriedEntry, waiting_in}
use Rattle.cut_core.specs.LegalHistories.{are_legal}
use Rattle.cut_core.specs.Fates.{is_of_control}
use Rattle.group_state.specs.declared.volume.Volume.{Volume}
use Rattle.group_state.specs.Volumes.{volume_of, passes, wants}
use Rattle.group_state.specs.Controls.{ControlState, is_reporting, counts}
use Rattle.group_state.specs.Groups.{Group, control_at}
use Rattle.group_state.specs.SoundStates.{passes_or_none}

-- ---- entries

-- An entry that waits has what a write does to its track, spelled in its form; where the history has no content it is a copied
-- track.
abbrev pub HasContent : WaitingEntry → Option Kind → Type 0
HasContent w None = IsTrue w.is_copy
HasContent w (Some kind) = w ≡ entry_of w.head.control (write_of w.head kind)

-- An entry that waits is the history's.
pub record IsSeen (w : WaitingEntry) (e : CarriedEntry) : Type 0 where
  pub control : w.head.control ≡ e.control
  pub volume : w.head.volume ≡ e.volume
  pub track : w.head.track ≡ e.track
  pub stamp : w.head.stamp.0 ≡ e.stamp
  pub content : HasContent w e.kind

-- one for one, in order
abbrev pub AreSeen : List WaitingEntry → List CarriedEntry → Type 0
AreSeen waiting entries = AllZip IsSeen waiting entries

-- ---- volumes

abbrev pub has_mapped : (track : ℕ) → Volume → Bool
has_mapped x u = has_track u.map x

-- a track of the volume
abbrev pub is_track_of_volume : (track : ℕ) → Volume → Bool
is_track_of_volume x u = nat_lt x (length u.map)

-- What is kept of a volume, if anything, is what the history makes of its track x.
pub record IsShareOf (kept : Option Volume) (x : ℕ) (s : Share) : Type 0 where
  pub carried : passes (λ u. u.carried) kept ≡ s.is_carried
  pub dropped : passes (λ u. not u.carried) kept ≡ s.is_dropped
  pub wanted : IsTrue (passes_or_none (is_track_of_volume x) kept) → passes (wants x) kept ≡ s.is_wanted
  pub mapped : IsTrue (passes_or_none (is_track_of_volume x) kept) → passes (has_mapped x) kept ≡ s.is_mapped

-- ---- controllers

-- What is kept of a controller is what the history says of it.
pub record IsControlOf (k : ℕ) (past : List Event) (c : ControlState) : Type 0 where
  pub told : c.floor.0 ≡ floor k past
  pub reporting : is_reporting c.phase ≡ not (is_broken_after k past)
  pub live : counts c.phase ≡ is_live k past
  pub volumes : (v x : ℕ) → IsShareOf (volume_of v c.volumes) x (share k v x past)
  pub waiting : AreSeen c.queue.waiting (filter (is_of_control k) (waiting_in [] past))

-- The history is legal, and the state is what it makes.
pub record FollowsHistory (controls : ℕ) (past : List Event) (s : Group) : Type 0 where
  pub legal : IsTrue (are_legal controls [] past)
  pub count : length s.controls ≡ controls
  pub last : s.last.0 ≡ last_cut past
  pub each : (k : ℕ) → k < controls → IsControlOf k past (control_at s k)
