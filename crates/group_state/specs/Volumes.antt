-- The volumes of a controller: those that are carried, and those that were dropped and aren't forgotten.
use Rattle.std.specs.Prelude.{◌≡◌, ℕ, ◌<◌, slice_index_or, slice_set, ◌==◌, ◌&&◌, not, List, [], ◌∷◌, length, map, find, fold, Bool, true, false, Option, Some, None, if◌then◌else◌}
use Rattle.std.specs.List.{list_any, remove}
use Rattle.tod_stamp.specs.declared.stamp.Stamp.{Stamp}
use Rattle.ckd_track.specs.declared.write.Write.{Write}
use Rattle.change_map.specs.Sets.{no_track, every_track, has_track, with_track, least_from, size}
use Rattle.copy_plan.specs.Plans.{PlanState, is_complete, with_joined, with_formed, fresh_plan}
use Rattle.pending_queue.specs.Entries.{WaitingEntry, is_copy_of, is_due, left}
use Rattle.pending_queue.specs.Maps.{with_tracks}
use Rattle.group_state.specs.declared.volume.Volume.{Volume}

abbrev pub is_numbered : (volume : ℕ) → Volume → Bool
is_numbered v u = u.number == v

-- the volume with a number
abbrev pub volume_of : (volume : ℕ) → List Volume → Option Volume
volume_of v volumes = find (is_numbered v) volumes

abbrev pub has_volume : (volume : ℕ) → List Volume → Bool
has_volume v volumes = list_any (is_numbered v) volumes

-- the volumes with the one of a number changed
abbrev pub with_volume : (volume : ℕ) → (Volume → Volume) → List Volume → List Volume
with_volume v change [] = []
with_volume v change (u ∷ volumes) = if is_numbered v u then change u ∷ volumes else u ∷ with_volume v change volumes

-- the volumes without the one of a number
abbrev pub without_number : (volume : ℕ) → List Volume → List Volume
without_number v [] = []
without_number v (u ∷ volumes) = if is_numbered v u then volumes else u ∷ without_number v volumes

-- The place of the volume with a number: what stands there is that volume, and a change or a removal there is one of it.
pub record IsPlaceOf (v : ℕ) (volumes : List Volume) (place : ℕ) : Type 0 where
  pub within : place < length volumes
  pub found : (d : Volume) → volume_of v volumes ≡ Some (slice_index_or volumes place d)
  pub changes : (change : Volume → Volume) (d : Volume) → slice_set volumes place (change (slice_index_or volumes place d)) ≡ with_volume v change volumes
  pub removes : remove volumes place ≡ without_number v volumes

abbrev pub passes : (Volume → Bool) → Option Volume → Bool
passes test None = false
passes test (Some u) = test u

-- ---- carried and wanted

-- whether a copy still has to read the track
abbrev pub wants : (track : ℕ) → Volume → Bool
wants x u = u.carried && has_track u.plan.wanted x

-- A write is carried where its volume is and its track isn't wanted.
abbrev pub carries : (track : ℕ) → Volume → Bool
carries x u = u.carried && not (has_track u.plan.wanted x)

abbrev pub is_carried : List Volume → Write → Bool
is_carried volumes w = passes (carries w.track) (volume_of w.volume volumes)

abbrev pub is_wanted : (volume track : ℕ) → List Volume → Bool
is_wanted v x volumes = passes (wants x) (volume_of v volumes)

-- the least track that a volume wants
abbrev pub next_in : Volume → Option ℕ
next_in u = if u.carried then least_from u.plan.wanted 0 else None

-- the least wanted track of the first volume that wants one
abbrev pub first_wanted : (volume : ℕ) → Option ℕ → Option (ℕ × ℕ) → Option (ℕ × ℕ)
first_wanted v None later = later
first_wanted v (Some x) later = Some (v, x)

abbrev pub next_wanted : List Volume → Option (ℕ × ℕ)
next_wanted [] = None
next_wanted (u ∷ volumes) = first_wanted u.number (next_in u) (next_wanted volumes)

-- ---- changes

-- a volume that begins to be carried with a plan; its map is clear
abbrev pub begun : (volume : ℕ) → PlanState → Volume
begun v plan = record { number = v; carried = true; plan = plan; map = no_track (length plan.wanted) }

-- a write on a dropped volume goes into its map
abbrev pub noted_write : (track : ℕ) → Volume → Volume
noted_write x u = if u.carried then u else record u { map = with_track u.map x }

abbrev pub with_write : List Volume → Write → List Volume
with_write volumes w = with_volume w.volume (noted_write w.track) volumes

abbrev pub with_writes : List Volume → List Write → List Volume
with_writes volumes writes = fold with_write volumes writes

-- a copied track is wanted no longer
abbrev pub copied_track : (track : ℕ) → Volume → Volume
copied_track x u = record u { plan = with_joined u.plan x }

-- a copied track that is formed is done
abbrev pub formed_track : Volume → Volume
formed_track u = record u { plan = with_formed u.plan }

abbrev pub with_formed_copy : List Volume → WaitingEntry → List Volume
with_formed_copy volumes e = with_volume e.head.volume formed_track volumes

abbrev pub is_due_copy : (cut : Stamp) → WaitingEntry → Bool
is_due_copy cut e = is_due cut e && e.is_copy

-- the volumes after these copied tracks are formed
abbrev pub with_formed_copies : List Volume → List WaitingEntry → List Volume
with_formed_copies volumes entries = fold with_formed_copy volumes entries

-- A drop ends the carrying. The map holds all tracks, or those of the entries that it takes out.
abbrev pub dropped_map : (all : Bool) → (tracks : List ℕ) → List Bool → List Bool
dropped_map all tracks map = if all then every_track (length map) else with_tracks map tracks

abbrev pub dropped_volume : (all : Bool) → (tracks : List ℕ) → Volume → Volume
dropped_volume all tracks u = record u { carried = false; map = dropped_map all tracks u.map }

-- A resume makes exactly the tracks of the map wanted.
abbrev pub resumed_volume : Volume → Volume
resumed_volume u = record u { carried = true; plan = fresh_plan u.map; map = no_track (length u.map) }

-- whether a volume is carried and all of its plan is formed
abbrev pub is_volume_done : Volume → Bool
is_volume_done u = u.carried && is_complete u.plan

-- The same once a cut has taken what is due of these waiting entries: nothing is wanted, and no copied track is left.
abbrev pub is_done_after : (cut : Stamp) → List WaitingEntry → Volume → Bool
is_done_after cut waiting u = u.carried && (size u.plan.wanted == 0 && not (list_any (is_copy_of u.number) (left cut waiting)))

-- how many tracks a resume of the volume makes wanted
abbrev pub owed_in : Option Volume → ℕ
owed_in None = 0
owed_in (Some u) = size u.map

abbrev pub owed : (volume : ℕ) → List Volume → ℕ
owed v volumes = owed_in (volume_of v volumes)

-- the volumes' controller and numbers
abbrev pub numbers_of : (control : ℕ) → List Volume → List (ℕ × ℕ)
numbers_of k volumes = map (λ u. (k, u.number)) volumes
