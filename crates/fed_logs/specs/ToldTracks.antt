-- What is held of each track, what waits between that and what was reported of it, and what each call reports.
use Rattle.std.specs.Prelude.{◌≡◌, ℕ, ◌<◌, ◌≤◌, ◌==◌, ◌&&◌, ◌||◌, not, List, length, map, filter, Bool, true, false, Option, Some, None, nat_lt, nat_le, if◌then◌else◌, IsTrue}
use Rattle.std.specs.List.{list_all}
use Rattle.ckd_track.specs.declared.rec.Rec.{Rec}
use Rattle.ckd_track.specs.declared.write.Write.{Write}
use Rattle.change_map.specs.Sets.{has_track}
use Rattle.pending_queue.specs.Entries.{WaitingEntry, entry_stamp, is_queued_on}
use Rattle.image_former.specs.Changes.{changed_where}
use Rattle.primary_ctl.specs.States.{is_on, after_writes}
use Rattle.group_state.specs.declared.volume.Volume.{Volume}
use Rattle.group_state.specs.Volumes.{volume_of, passes, is_wanted}
use Rattle.group_state.specs.Controls.{ControlState}
use Rattle.group_state.specs.Groups.{Group, Shown, control_at}
use Rattle.group_state.specs.SoundStates.{is_entry_of_control}
use Rattle.group_state.specs.Machine.{Call, Reply}
use Rattle.group_state.specs.Machine.Call.{Join, NextWanted, Copied, Raise, Break, Form, Carry, Drop, Resume, Forget}
use Rattle.group_state.specs.Machine.Reply.{Made, Joined, Held, Stale, Wanted, Formed, Nothing, Owed}
use Rattle.group_state.specs.Runs.{shown_by}

-- the track of a controller's volume at a time, as the primary has it
abbrev pub Truth : Type 0
Truth = (control volume track time : ℕ) → List Rec

-- the track that stands for it on the other side, if there is one
abbrev pub HeldTracks : Type 0
HeldTracks = (control volume track : ℕ) → Option (List Rec)

-- ---- entries and writes

-- what entries in turn leave of a track, where those that pass a test are on it
abbrev pub after_entries : (WaitingEntry → Bool) → List WaitingEntry → Option (List Rec) → Option (List Rec)
after_entries on entries old = changed_where on entries (map (λ entry. entry.kind) entries) old

-- an entry on a track with a stamp up to a time
abbrev pub is_queued_up_to : (volume track time : ℕ) → WaitingEntry → Bool
is_queued_up_to v x t entry = is_queued_on v x entry && nat_le (entry_stamp entry) t

-- a write on a track with a stamp up to a time
abbrev pub is_write_up_to : (volume track time : ℕ) → Write → Bool
is_write_up_to v x t w = is_on v x w && nat_le w.stamp.0 t

-- an entry on a track of a controller's volume
abbrev pub names_track : (control volume track : ℕ) → WaitingEntry → Bool
names_track k v x entry = is_entry_of_control k entry && is_queued_on v x entry

-- the entry is no copied track of the volume's track, or its stamp isn't above a time
abbrev pub is_no_later_copy : (volume track time : ℕ) → WaitingEntry → Bool
is_no_later_copy v x t entry = not (entry.is_copy && is_queued_on v x entry) || nat_le (entry_stamp entry) t

-- no copied track on it waits with a stamp above a time
abbrev pub has_no_later_copy : (volume track time : ℕ) → List WaitingEntry → Bool
has_no_later_copy v x t entries = list_all (is_no_later_copy v x t) entries

-- ---- what calls report

-- A call that was held, that was stale, or that only asked leaves the state as it was.
abbrev pub has_changed : Reply → Bool
has_changed Made = true
has_changed Joined = true
has_changed (Held room) = false
has_changed Stale = false
has_changed (Wanted found) = false
has_changed (Formed shown) = true
has_changed (Nothing shown) = true
has_changed (Owed tracks) = true

-- the floor of a controller
abbrev pub floor_of : Group → (control : ℕ) → ℕ
floor_of s k = (control_at s k).floor.0

-- Nothing changes on a controller's tracks from its floor up to a time.
abbrev pub IsStill : Truth → Group → (control upto : ℕ) → Type 0
IsStill truth s k upto = (v x t : ℕ) → floor_of s k ≤ t → t ≤ upto → truth k v x t ≡ truth k v x (floor_of s k)

-- What a call reports, in the state before it. A batch reports what its writes make of each track from the floor up to its own time; a raise
-- and a break report that nothing changes. A copied track is the primary's at its stamp. A volume is dropped with all tracks mapped, or
-- where its copy wants none; and it begins to be carried with all tracks wanted.
abbrev pub ReportsTruth : Truth → Group → Call → Type 0
ReportsTruth truth s (Join b) = (v x t : ℕ) → floor_of s b.control ≤ t → t ≤ b.upto.0
    → truth b.control v x t ≡ after_writes (truth b.control v x (floor_of s b.control)) (filter (is_write_up_to v x t) b.writes)
ReportsTruth truth s (NextWanted k) = Unit {0}
ReportsTruth truth s (Copied k v x at slot) = slot ≡ truth k v x at.0
ReportsTruth truth s (Raise k upto) = IsStill truth s k upto.0
ReportsTruth truth s (Break k upto cause) = IsStill truth s k upto.0
ReportsTruth truth s (Form limit) = Unit {0}
ReportsTruth truth s (Carry k v plan) = (x : ℕ) → x < length plan.wanted → IsTrue (has_track plan.wanted x)
ReportsTruth truth s (Drop k v all) = all ≡ false → (x : ℕ) → is_wanted v x (control_at s k).volumes ≡ false
ReportsTruth truth s (Resume k v) = Unit {0}
ReportsTruth truth s (Forget k v) = Unit {0}

-- ---- what is kept

-- A track is settled where nothing is to be copied of it: while the volume is carried its plan doesn't want it, and while it is dropped
-- its map hasn't got it.
abbrev pub is_track_settled : (track : ℕ) → Volume → Bool
is_track_settled x u = nat_lt x (length u.map) && (if u.carried then not (has_track u.plan.wanted x) else not (has_track u.map x))

-- whether a track of a controller's volume is settled
abbrev pub is_settled_in : (volume track : ℕ) → ControlState → Bool
is_settled_in v x c = passes (is_track_settled x) (volume_of v c.volumes)

-- What waits on each track that is settled stands between what is held of it and what was reported of it.
--   holds: what is held, changed by what waits up to a time, is the primary's track at that time, for each time from the last cut, or from
--          the stamp of a copied track that waits on it, to the floor
pub record HoldsTold (truth : (volume track time : ℕ) → List Rec) (last : ℕ) (held : (volume track : ℕ) → Option (List Rec)) (c : ControlState) : Type 0 where
  pub holds : (v x t : ℕ) → IsTrue (is_settled_in v x c) → IsTrue (has_no_later_copy v x t c.queue.waiting) → last ≤ t → t ≤ c.floor.0
      → after_entries (is_queued_up_to v x t) c.queue.waiting (held v x) ≡ Some (truth v x t)

abbrev pub AllHold : Truth → HeldTracks → Group → Type 0
AllHold truth held s = (k : ℕ) → k < length s.controls → HoldsTold (truth k) s.last.0 (held k) (control_at s k)

-- ---- what a group leaves

-- what entries leave of what is held
abbrev pub held_after_group : List WaitingEntry → HeldTracks → HeldTracks
held_after_group entries held = λ k v x. after_entries (names_track k v x) entries (held k v x)

abbrev pub held_after_shown : Option Shown → HeldTracks → HeldTracks
held_after_shown None held = held
held_after_shown (Some shown) held = held_after_group shown.entries held

-- A form applies its group. No other call changes what is held.
abbrev pub held_after : Reply → HeldTracks → HeldTracks
held_after reply held = held_after_shown (shown_by reply) held
