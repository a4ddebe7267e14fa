-- The laws of runs. Each is the contract of a public function without parameters.
use Rattle.std.specs.Prelude.{◌≡◌, ℕ, ◌<◌, ◌&&◌, not, List, [], ◌∷◌, ◌++◌, length, map, filter, fold, count_by, Bool, Some, nat_lt, nat_le, if◌then◌else◌, IfSome, IsTrue}
use Rattle.std.specs.List.{list_all, list_any, range_with_len, All, Contains}
use Rattle.tod_stamp.specs.declared.stamp.Stamp.{Stamp}
use Rattle.ckd_track.specs.declared.rec.Rec.{Rec}
use Rattle.ckd_track.specs.declared.write.Batch.{Batch}
use Rattle.ckd_track.specs.declared.write.Cause.{Cause}
use Rattle.xrc_edge.specs.Order.{in_order}
use Rattle.pending_queue.specs.Entries.{WaitingEntry, copy_head, copy_of, due, entry_stamp}
use Rattle.cut_core.specs.Events.{Event, floor, is_live, last_cut}
use Rattle.cut_core.specs.Events.Event.{Form as Forms}
use Rattle.cut_core.specs.Shares.{names_volume, share}
use Rattle.cut_core.specs.Groups.{CarriedEntry, is_copy, comes_before, waiting_in, group}
use Rattle.cut_core.specs.LegalHistories.{least_floor}
use Rattle.cut_core.specs.Cuts.{kept_writes}
use Rattle.group_state.specs.declared.volume.Volume.{Volume}
use Rattle.group_state.specs.Volumes.{volume_of}
use Rattle.group_state.specs.Controls.{ControlState}
use Rattle.group_state.specs.Groups.{Group, Shown, new_group, control_at, shown_at}
use Rattle.group_state.specs.SoundStates.{IsGroupSound, are_distinct, is_entry_of_control}
use Rattle.group_state.specs.Machine.{Call, Reply}
use Rattle.group_state.specs.Machine.Call.{Join, Copied, Break, Form, Carry, Resume}
use Rattle.group_state.specs.Machine.Reply.{Made, Joined, Owed}
use Rattle.group_state.specs.Runs.{Answer, Runs, history, shown_by}
use Rattle.group_state.specs.Histories.{AreSeen, FollowsHistory}

-- ---- what is kept

abbrev pub RunsAreHistories : Type 0
RunsAreHistories = (controls records blocks : ℕ) (run : List Answer) (s : Group) → Runs (new_group controls records blocks) run s → FollowsHistory controls (history run) s

-- ---- what forms show

abbrev pub answered : (limit : Stamp) → Reply → Answer
answered limit reply = record { call = Form limit; reply = reply }

-- A run from a first state has a form with this limit that shows this, with these answers before it and after it.
pub record HasForm (controls : ℕ) (before later : List Answer) (limit : Stamp) (shown : Shown) : Type 0 where
  pub records : ℕ
  pub blocks : ℕ
  pub reply : Reply
  pub shows : shown_by reply ≡ Some shown
  pub last : Group
  pub runs : Runs (new_group controls records blocks) (before ++ answered limit reply ∷ later) last

-- a controller that is live, and after a form with this cut no longer
abbrev pub ends_with_form : (cut : ℕ) → List Event → (control : ℕ) → Bool
ends_with_form cut past k = is_live k past && not (is_live k (past ++ Forms cut ∷ []))

-- controller and time of a break that is shown, and of one in a history
abbrev pub named : ℕ × Stamp × Cause → ℕ × ℕ
named shown = (shown.0, shown.1.0)

abbrev pub break_at_floor : List Event → (control : ℕ) → ℕ × ℕ
break_at_floor past k = (k, floor k past)

-- What a form shows is the history's: the cut is the least of the limit and all live floors, the entries are the group, one for
-- one and in order, and the breaks are those of the controllers that this form ends, each once, at their floors.
pub record IsGroupOf (controls : ℕ) (limit : Stamp) (past : List Event) (shown : Shown) : Type 0 where
  pub cut : shown.cut.0 ≡ least_floor controls limit.0 past
  pub entries : AreSeen shown.entries (group past shown.cut.0)
  pub breaks : map named shown.breaks ≡ map (break_at_floor past) (filter (ends_with_form shown.cut.0 past) (range_with_len 0 controls))

abbrev pub FormsGiveGroups : Type 0
FormsGiveGroups = (controls : ℕ) (before later : List Answer) (limit : Stamp) (shown : Shown) → HasForm controls before later limit shown → IsGroupOf controls limit (history before) shown

-- ---- breaks

abbrev pub answered_break : ℕ × Stamp × Cause → Answer
answered_break shown = record { call = Break shown.0 shown.1 shown.2; reply = Made }

-- Each break that a form shows was reported so by a call before.
abbrev pub BreaksWereReported : Type 0
BreaksWereReported = (controls : ℕ) (before later : List Answer) (limit : Stamp) (shown : Shown) → HasForm controls before later limit shown → All (λ b. Contains before (answered_break b)) shown.breaks

-- ---- copied tracks

abbrev pub answered_copy : WaitingEntry → (slot : List Rec) → Answer
answered_copy w slot = record { call = Copied w.head.control w.head.volume w.head.track w.head.stamp slot; reply = Joined }

-- A call before joined the copied track: the entry is a write of the whole track that was in its slot.
pub record WasCopied (run : List Answer) (w : WaitingEntry) : Type 0 where
  pub slot : List Rec
  pub is : w ≡ copy_of (copy_head w.head.control w.head.volume w.head.track w.head.stamp) slot
  pub told : Contains run (answered_copy w slot)

abbrev pub CopiesWereReported : Type 0
CopiesWereReported = (controls : ℕ) (before later : List Answer) (limit : Stamp) (shown : Shown) → HasForm controls before later limit shown → All (λ w. IsTrue w.is_copy → WasCopied before w) shown.entries

-- ---- done plans

-- how many tracks a volume of a controller has: those of the plan with which it began to be carried last
abbrev pub tracks_by : (k v : ℕ) → (tracks : ℕ) → Call → Reply → ℕ
tracks_by k v n (Carry j u plan) Made = if names_volume j u k v then length plan.wanted else n
tracks_by k v n call reply = n

abbrev pub tracks_reported : (k v : ℕ) → List Answer → ℕ
tracks_reported k v run = fold (λ n answer. tracks_by k v n answer.call answer.reply) 0 run

-- whether an entry is a copied track of controller k's volume v
abbrev pub is_copy_on : (k v : ℕ) → CarriedEntry → Bool
is_copy_on k v e = names_volume e.control e.volume k v && is_copy e

-- A volume of so many tracks is carried, none of its tracks is wanted, and no copied track of it waits.
abbrev pub is_plan_done : (k v tracks : ℕ) → List Event → Bool
is_plan_done k v tracks past =
    (share k v 0 past).is_carried && list_all (λ x. not (share k v x past).is_wanted) (range_with_len 0 tracks) && not (list_any (is_copy_on k v) (waiting_in [] past))

abbrev pub is_named : (k v : ℕ) → ℕ × ℕ → Bool
is_named k v shown = names_volume shown.0 shown.1 k v

-- A form shows exactly the volumes whose plans are done after it, each once.
abbrev pub DonePlansAreShown : Type 0
DonePlansAreShown = (controls : ℕ) (before later : List Answer) (limit : Stamp) (shown : Shown) (k v : ℕ) → HasForm controls before later limit shown
    → count_by (is_named k v) shown.done ≡ (if is_plan_done k v (tracks_reported k v before) (history before ++ Forms shown.cut.0 ∷ []) then 1 else 0)

-- ---- sizes and numbers

-- A volume is of so many tracks, in its map and in its plan.
pub record IsOfTracks (tracks : ℕ) (u : Volume) : Type 0 where
  pub mapped : length u.map ≡ tracks
  pub planned : length u.plan.wanted ≡ tracks

-- A volume that is kept is of as many tracks as the plan with which it began to be carried last.
abbrev pub SizesAreTold : Type 0
SizesAreTold = (controls records blocks : ℕ) (run : List Answer) (s : Group) (k v : ℕ) → Runs (new_group controls records blocks) run s → IfSome (volume_of v (control_at s k).volumes) (IsOfTracks (tracks_reported k v run))

-- A controller stands under its number, and no two of its volumes have one number.
pub record IsNumbered (k : ℕ) (c : ControlState) : Type 0 where
  pub control : c.queue.control ≡ k
  pub volumes : IsTrue (are_distinct c.volumes)

abbrev pub NumbersAreKept : Type 0
NumbersAreKept = (controls records blocks : ℕ) (run : List Answer) (s : Group) (k : ℕ) → k < controls → Runs (new_group controls records blocks) run s → IsNumbered k (control_at s k)

-- ---- resumes

abbrev pub answered_resume : (k v owed : ℕ) → Answer
answered_resume k v n = record { call = Resume k v; reply = Owed n }

-- how many of a volume's tracks the history has mapped
abbrev pub mapped_of : (k v tracks : ℕ) → List Event → ℕ
mapped_of k v tracks past = count_by (λ x. (share k v x past).is_mapped) (range_with_len 0 tracks)

-- A resume reports how many of the volume's tracks the history before it has mapped.
abbrev pub ResumesOweMapped : Type 0
ResumesOweMapped = (controls records blocks : ℕ) (before later : List Answer) (s : Group) (k v n : ℕ) → Runs (new_group controls records blocks) (before ++ answered_resume k v n ∷ later) s
    → n ≡ mapped_of k v (tracks_reported k v before) (history before)

-- ---- no late join

abbrev pub joined_answer : Batch → Answer
joined_answer b = record { call = Join b; reply = Joined }

-- After a form no batch joins with a write whose stamp is at most the form's cut.
abbrev pub NoLateJoin : Type 0
NoLateJoin = (controls : ℕ) (before between later : List Answer) (limit : Stamp) (shown : Shown) (b : Batch) → HasForm controls before (between ++ joined_answer b ∷ later) limit shown
    → IsTrue (list_all (λ w. nat_lt shown.cut.0 w.stamp.0) b.writes)

-- ---- the theorem on cuts

-- after the last cut and up to this one, and from it on
abbrev pub is_after : (last cut : ℕ) → CarriedEntry → Bool
is_after last cut e = nat_lt last e.stamp && nat_le e.stamp cut

abbrev pub is_between_cuts : (last cut : ℕ) → WaitingEntry → Bool
is_between_cuts last cut w = nat_le last (entry_stamp w) && nat_le (entry_stamp w) cut

-- The writes that a form shows are exactly all carried writes, joined anywhere in the run, that no drop took out and that have a
-- stamp above the cut before and at most this one, in order. Copied tracks that it shows have a stamp from the cut before to this
-- one.
pub record IsComplete (before run : List Event) (shown : Shown) : Type 0 where
  pub writes : AreSeen (filter (λ w. not w.is_copy) shown.entries) (in_order comes_before (filter (is_after (last_cut before) shown.cut.0) (kept_writes [] run)))
  pub copies : IsTrue (list_all (is_between_cuts (last_cut before) shown.cut.0) (filter (λ w. w.is_copy) shown.entries))

abbrev pub FormsAreComplete : Type 0
FormsAreComplete = (controls : ℕ) (before later : List Answer) (limit : Stamp) (shown : Shown) → HasForm controls before later limit shown
    → IsComplete (history before) (history before ++ Forms shown.cut.0 ∷ history later) shown

-- ---- the parts of a group

-- Of the entries that a form shows those of one controller are what its queue had up to the cut, in order.
abbrev pub FormsShowOwnParts : Type 0
FormsShowOwnParts = (s : Group) (cut : Stamp) (k : ℕ) → IsGroupSound s → k < length s.controls
    → filter (is_entry_of_control k) (shown_at cut s).entries ≡ due cut (control_at s k).queue.waiting
