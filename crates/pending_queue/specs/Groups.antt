-- What a formed group is to its callers.
use Rattle.std.specs.Prelude.{ℕ, ◌≤◌, ◌+◌, ◌*◌, ◌^◌, List, [], ◌∷◌, ◌++◌, length, map, IsTrue}
use Rattle.tod_stamp.specs.declared.stamp.Stamp.{Stamp}
use Rattle.ckd_track.specs.declared.layout.TheConstants.{WRITES_OF_RUN}
use Rattle.ckd_track.specs.declared.write.Cause.{Cause}
use Rattle.pending_queue.specs.declared.head.EntryHead.{EntryHead}
use Rattle.pending_queue.specs.Entries.{WaitingEntry, stands_before}
use Rattle.xrc_edge.specs.Order.{in_order, is_in_order}

pub record FormedGroup : Type 0 where
  -- the number of controllers that it has room for
  pub controls : ℕ
  pub cut : Stamp
  -- the entries by stamp, controller and position
  pub entries : List WaitingEntry
  -- the breaks that are reported with it: controller, time and cause of each
  pub breaks : List (ℕ × Stamp × Cause)
  -- controller and volume of each carried volume whose plan is done after it
  pub done : List (ℕ × ℕ)

-- a group at a cut, with nothing in it yet
abbrev pub empty_group : (controls : ℕ) → (cut : Stamp) → FormedGroup
empty_group controls cut = record { controls = controls; cut = cut; entries = []; breaks = []; done = [] }

-- The group with more entries, each put at its place after those that were in it and stand by the same stamp and controller.
abbrev pub with_entries : FormedGroup → List WaitingEntry → FormedGroup
with_entries group entries = record group { entries = in_order stands_before (group.entries ++ entries) }

abbrev pub with_break : FormedGroup → (control : ℕ) → (upto : Stamp) → Cause → FormedGroup
with_break group k upto cause = record group { breaks = group.breaks ++ (k, upto, cause) ∷ [] }

abbrev pub with_done : FormedGroup → (control volume : ℕ) → FormedGroup
with_done group k volume = record group { done = group.done ++ (k, volume) ∷ [] }

-- whether the group has room for so many more entries, which are at most so many of each controller
abbrev pub HasRoomFor : FormedGroup → (count : ℕ) → Type 0
HasRoomFor group count = length group.entries + count ≤ WRITES_OF_RUN * group.controls

-- whether it has room for so many more breaks, which are at most one of each controller
abbrev pub HasRoomForBreaks : FormedGroup → (count : ℕ) → Type 0
HasRoomForBreaks group count = length group.breaks + count ≤ group.controls

-- the most done plans of a controller in a group: one of each number that a volume may have
abbrev pub most_done_of_control : ℕ
most_done_of_control = 2 ^ 16

-- whether it has room for so many more done plans
abbrev pub HasRoomForDone : FormedGroup → (count : ℕ) → Type 0
HasRoomForDone group count = length group.done + count ≤ most_done_of_control * group.controls

abbrev pub heads_in : List WaitingEntry → List EntryHead
heads_in entries = map (λ entry. entry.head) entries

abbrev pub forms_in : List WaitingEntry → List (List ℕ)
forms_in entries = map (λ entry. entry.form) entries

abbrev pub heads : FormedGroup → List EntryHead
heads group = heads_in group.entries

abbrev pub forms_of : FormedGroup → List (List ℕ)
forms_of group = forms_in group.entries

-- The order of a group is sound: it stands in order, and has its memory for all breaks and done plans.
pub record IsOrderSound (controls breaks done : ℕ) (entries : List WaitingEntry) : Type 0 where
  pub ordered : IsTrue (is_in_order stands_before entries)
  pub break_room : controls ≤ breaks
  pub done_room : most_done_of_control * controls ≤ done
