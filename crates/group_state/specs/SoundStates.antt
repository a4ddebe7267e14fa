-- Controllers and group states that are sound, and when a call may be made.
use Rattle.std.specs.Prelude.{◌≡◌, ℕ, ◌≤◌, ◌==◌, ◌&&◌, ◌||◌, not, List, [], ◌∷◌, length, Bool, true, false, Option, Some, None, nat_lt, nat_le, IsTrue, count_by}
use Rattle.std.specs.List.{list_all, All}
use Rattle.tod_stamp.specs.declared.stamp.Stamp.{Stamp}
use Rattle.ckd_track.specs.declared.write.Batch.{Batch}
use Rattle.ckd_track.specs.declared.write.Write.{Write}
use Rattle.xrc_edge.specs.Order.{is_in_order}
use Rattle.cut_core.specs.LegalHistories.{are_in}
use Rattle.change_map.specs.Sets.{has_track}
use Rattle.copy_plan.specs.Plans.{PlanState}
use Rattle.pending_queue.specs.Entries.{WaitingEntry, entries_never_fall, entry_stamp, is_copy_of}
use Rattle.pending_queue.specs.Groups.{most_done_of_control}
use Rattle.group_state.specs.declared.volume.Volume.{Volume}
use Rattle.group_state.specs.Volumes.{volume_of, has_volume, passes}
use Rattle.group_state.specs.Controls.{ControlState, is_reporting, counts}
use Rattle.group_state.specs.Groups.{Group, AreControlsSound}
use Rattle.ckd_track.specs.Writes.{is_earlier}

abbrev pub passes_or_none : (Volume → Bool) → Option Volume → Bool
passes_or_none test None = true
passes_or_none test (Some u) = test u

-- ---- what is kept

-- a volume's map has as many tracks as its plan
abbrev pub has_sizes : Volume → Bool
has_sizes u = length u.map == length u.plan.wanted

-- no two volumes have one number
abbrev pub are_distinct : List Volume → Bool
are_distinct [] = true
are_distinct (u ∷ volumes) = not (has_volume u.number volumes) && are_distinct volumes

-- an entry may wait on a volume that is carried and has its track, which isn't wanted where the entry is a copied track
abbrev pub may_wait : WaitingEntry → Volume → Bool
may_wait e u = u.carried && (nat_lt e.head.track (length u.map) && not (e.is_copy && has_track u.plan.wanted e.head.track))

abbrev pub is_entry_of : List Volume → WaitingEntry → Bool
is_entry_of volumes e = passes (may_wait e) (volume_of e.head.volume volumes)

-- a copied track of the volume may be formed
abbrev pub may_form : (track : ℕ) → Volume → Bool
may_form x u = not (has_track u.plan.wanted x) && nat_lt 0 u.plan.joined

-- a carried volume's plan has joined so many tracks
abbrev pub has_joined : (count : ℕ) → Volume → Bool
has_joined count u = not u.carried || u.plan.joined == count

-- the copied tracks of a carried volume that wait are as many as its plan has joined
abbrev pub CopiesAreCounted : List WaitingEntry → List Volume → Type 0
CopiesAreCounted waiting volumes = (v : ℕ) → IsTrue (passes_or_none (has_joined (count_by (is_copy_of v) waiting)) (volume_of v volumes))

-- stamps are at most a time
abbrev pub are_up_to : (time : Stamp) → List WaitingEntry → Bool
are_up_to time entries = list_all (λ e. nat_le (entry_stamp e) time.0) entries

-- whether an entry is a controller's
abbrev pub is_entry_of_control : (control : ℕ) → WaitingEntry → Bool
is_entry_of_control k e = e.head.control == k

pub record Sound (c : ControlState) : Type 0 where
  -- the entries are the controller's own, and their stamps don't fall
  pub own : IsTrue (list_all (is_entry_of_control c.queue.control) c.queue.waiting)
  pub rises : IsTrue (entries_never_fall 0 c.queue.waiting)
  -- no entry is above the floor
  pub stamps : IsTrue (are_up_to c.floor c.queue.waiting)
  pub sizes : IsTrue (list_all has_sizes c.volumes)
  pub distinct : IsTrue (are_distinct c.volumes)
  pub entries : IsTrue (list_all (is_entry_of c.volumes) c.queue.waiting)
  pub counts : CopiesAreCounted c.queue.waiting c.volumes

-- a volume's number is of 16 bits, so a controller has at most so many volumes
abbrev pub has_number : Volume → Bool
has_number u = nat_lt u.number most_done_of_control

-- A controller of a group state is sound, with the numbers of its volumes.
pub record AreVolumesSound (c : ControlState) : Type 0 where
  pub sound : Sound c
  pub numbers : IsTrue (list_all has_number c.volumes)

-- a controller that counts has reported up to the cut
abbrev pub has_reported : (cut : Stamp) → ControlState → Bool
has_reported cut c = not (counts c.phase) || nat_le cut.0 c.floor.0

-- The cut is at most the floor of each controller that counts.
abbrev pub HaveReported : (cut : Stamp) → List ControlState → Type 0
HaveReported cut controls = IsTrue (list_all (has_reported cut) controls)

-- A group state is sound.
pub record IsGroupSound (s : Group) : Type 0 where
  pub controls_kept : AreControlsSound s.controls
  pub sound : All Sound s.controls
  pub told : HaveReported s.last s.controls

-- ---- when a call may be made

-- the track is below the tracks of the volume, where that was carried and isn't forgotten
abbrev pub is_track_within : List Volume → (volume track : ℕ) → Bool
is_track_within volumes v x = passes_or_none (λ u. nat_lt x (length u.map)) (volume_of v volumes)

abbrev pub are_within : List Volume → List Write → Bool
are_within volumes writes = list_all (λ w. is_track_within volumes w.volume w.track) writes

-- a controller still reports, and no earlier time than before
pub record MayReport (c : ControlState) (upto : Stamp) : Type 0 where
  pub reporting : IsTrue (is_reporting c.phase)
  pub up : c.floor.0 ≤ upto.0

-- A batch may be joined where its controller still reports, each write's stamp is above the floor and at most `upto`, and stamps
-- don't fall.
pub record MayJoin (c : ControlState) (b : Batch) : Type 0 where
  pub tells : MayReport c b.upto
  pub within : IsTrue (are_in c.floor.0 b.upto.0 b.writes)
  pub order : IsTrue (is_in_order is_earlier b.writes)
  pub tracks : IsTrue (are_within c.volumes b.writes)

-- the volume was carried, is dropped and isn't forgotten
abbrev pub is_dropped : (volume : ℕ) → List Volume → Bool
is_dropped v volumes = passes (λ u. not u.carried) (volume_of v volumes)

-- A volume may begin to be carried where it was never carried or was forgotten since, with a plan of which nothing is joined.
pub record MayCarry (c : ControlState) (volume : ℕ) (plan : PlanState) : Type 0 where
  pub unknown : has_volume volume c.volumes ≡ false
  pub fresh : plan.joined ≡ 0
