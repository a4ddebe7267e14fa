-- What a group state is to its callers, and what a form gives.
use Rattle.std.specs.Prelude.{ℕ, ◌+◌, ◌*◌, ◌≤◌, ◌==◌, ◌&&◌, not, zero, suc, List, [], ◌∷◌, ◌++◌, length, map, fold, Bool, true, nat_le, slice_index_or, slice_set, IsTrue}
use Rattle.ckd_track.specs.declared.layout.TheConstants.{WRITES_OF_RUN}
use Rattle.xrc_edge.specs.declared.limits.TheConstants.{MOST_CONTROLS}
use Rattle.std.specs.List.{flat_map, list_any}
use Rattle.tod_stamp.specs.declared.stamp.Stamp.{Stamp}
use Rattle.xrc_edge.specs.Order.{in_order}
use Rattle.ckd_track.specs.declared.write.Cause.{Cause}
use Rattle.pending_queue.specs.Entries.{WaitingEntry, stands_before}
use Rattle.pending_queue.specs.Groups.{FormedGroup, most_done_of_control}
use Rattle.group_state.specs.Controls.{ControlState, new_control, lesser, reported_break, due_of, has_news, formed, done_of}

pub record Group : Type 0 where
  -- the controllers in order of their numbers
  pub controls : List ControlState
  -- the cut of the last form, or 0
  pub last : Stamp

-- Controllers from a number on, of which none has reported anything.
abbrev pub new_controls : (controls first records blocks : ℕ) → List ControlState
new_controls zero k records blocks = []
new_controls (suc n) k records blocks = new_control k records blocks ∷ new_controls n (k + 1) records blocks

abbrev pub new_group : (controls records blocks : ℕ) → Group
new_group controls records blocks = record { controls = new_controls controls 0 records blocks; last = record { 0 = 0 } }

-- the controller of a number
abbrev pub control_at : Group → (control : ℕ) → ControlState
control_at s k = slice_index_or s.controls k (new_control 0 0 0)

-- the group state with one controller changed
abbrev pub with_control : (control : ℕ) → (ControlState → ControlState) → Group → Group
with_control k change s = record s { controls = slice_set s.controls k (change (control_at s k)) }

-- ---- forms

-- The cut is the least of the limit and the floors of all controllers that count.
abbrev pub cut_of : Group → (limit : Stamp) → Stamp
cut_of s limit = record { 0 = fold lesser limit.0 s.controls }

-- A form gives nothing where its cut is the last one, no entry up to it waits, and no break at it is unreported.
abbrev pub gives_nothing : Group → (limit : Stamp) → Bool
gives_nothing s limit = (cut_of s limit).0 == s.last.0 && not (list_any (has_news (cut_of s limit)) s.controls)

abbrev pub formed_at : (cut : Stamp) → Group → Group
formed_at cut s = record { controls = map (formed cut) s.controls; last = cut }

-- What a form shows: its cut, all entries up to it by stamp, controller and position, the breaks at it, and the carried volumes
-- whose plans are done after it.
pub record Shown : Type 0 where
  pub cut : Stamp
  pub entries : List WaitingEntry
  pub breaks : List (ℕ × Stamp × Cause)
  pub done : List (ℕ × ℕ)

abbrev pub shown_at : (cut : Stamp) → Group → Shown
shown_at cut s = record {
  cut = cut;
  entries = in_order stands_before (flat_map (due_of cut) s.controls);
  breaks = flat_map (reported_break cut) s.controls;
  done = flat_map done_of (map (formed cut) s.controls);
}

-- what a group shows, whatever room it has
abbrev pub shown_in : FormedGroup → Shown
shown_in group = record { cut = group.cut; entries = group.entries; breaks = group.breaks; done = group.done }

-- the group with the breaks of a form at this cut, and the volumes whose plans are done after it
abbrev pub with_news : (cut : Stamp) → List ControlState → FormedGroup → FormedGroup
with_news cut controls group = record group { breaks = group.breaks ++ flat_map (reported_break cut) controls; done = group.done ++ flat_map done_of (map (formed cut) controls) }

-- The group has room for the breaks and the done plans of so many controllers more.
pub record HasRoomForNews (group : FormedGroup) (more : ℕ) : Type 0 where
  pub breaks_room : length group.breaks + more ≤ group.controls
  pub done_room : length group.done + most_done_of_control * more ≤ most_done_of_control * group.controls

-- ---- the rules over several controllers

-- whether a controller has room for no more entries than a run has writes
abbrev pub has_few : ControlState → Bool
has_few c = nat_le c.queue.records WRITES_OF_RUN

-- Controllers stand by their numbers, from one on, each with room for at most so many entries.
abbrev pub are_numbered : (first : ℕ) → List ControlState → Bool
are_numbered k [] = true
are_numbered k (c ∷ controls) = c.queue.control == k && has_few c && are_numbered (k + 1) controls

-- The controllers of a group state are sound: there are some, no more than the most, and each has the number of its place.
pub record AreControlsSound (controls : List ControlState) : Type 0 where
  pub some : 1 ≤ length controls
  pub few : length controls ≤ MOST_CONTROLS
  pub numbered : IsTrue (are_numbered 0 controls)
