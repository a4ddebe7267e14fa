-- The slots that the mover writes: those of the tracks of rows that aren't suspended, and of tracks of which an item waits.
use Rattle.std.specs.Prelude.{◌≡◌, ◌⊎◌, ℕ, ◌*◌, ◌<◌, ◌≤◌, ◌==◌, ◌&&◌, ◌||◌, not, nat_lt, List, length, Bool, Result, OnOk, IsTrue, slice_range}
use Rattle.std.specs.List.{list_any}
use Rattle.xrc_edge.specs.declared.limits.TheConstants.{TRACKS_OF_CYLINDER}
use Rattle.ckd_track.specs.SlotPlaces.{slot_place, slot_end}
use Rattle.crash_plant.specs.declared.device.Device.TheVariants.{Volume}
use Rattle.crash_plant.specs.Moments.{Follows, PlantState, Standing, on}
use Rattle.pair_table.specs.declared.row.PairRow.{PairRow}
use Rattle.pair_table.specs.Rows.{is_suspended}
use Rattle.xrc_journal.specs.Contents.{is_of_track}
use Rattle.site_store.specs.declared.store_error.StoreError.{StoreError}
use Rattle.site_store.specs.Sites.{SiteState}

-- ---- tracks

-- whether a row is of a volume, and the track lies in its cylinders
abbrev pub is_track_of_row : (volume track : ℕ) → PairRow → Bool
is_track_of_row v x r = r.device == v && nat_lt x (TRACKS_OF_CYLINDER * r.cylinders)

-- The same of a row that isn't suspended.
abbrev pub is_track_of_live : (volume track : ℕ) → PairRow → Bool
is_track_of_live v x r = not (is_suspended r.state) && is_track_of_row v x r

-- whether the mover writes the slot of a track: it is one of a row that isn't suspended, or an item of it waits. None waits before an epoch.
abbrev pub is_track_of_mover : SiteState → (volume track : ℕ) → Bool
is_track_of_mover site v x = list_any (is_track_of_live v x) site.told || list_any (is_of_track v x) site.waiting

-- ---- bytes

-- A range of bytes meets no slot of these tracks.
abbrev pub IsApartFromSlots : (tracks : ℕ → Bool) → (from to : ℕ) → Type 0
IsApartFromSlots tracks from to = (x : ℕ) → IsTrue (tracks x) → (to ≤ slot_place x) ⊎ (slot_end x ≤ from)

-- Only the slots of these tracks may differ.
pub record DiffersInSlotsOf (tracks : ℕ → Bool) (old new : List ℕ) : Type 0 where
  pub size : length new ≡ length old
  pub others : (from to : ℕ) → from ≤ to → IsApartFromSlots tracks from to → slice_range new from to ≡ slice_range old from to

-- On a device only these slots differ: now, and in what a crash leaves at every moment.
pub record WritesSlotsOf (tracks : ℕ → Bool) (old new : Standing) : Type 0 where
  pub bytes : DiffersInSlotsOf tracks old.bytes new.bytes
  pub moments : Follows (DiffersInSlotsOf tracks) old new

-- ---- the mover

-- On each volume calls of the mover write its slots alone, and after Ok it writes no other slot from then on.
pub record WritesSlots (tells : Type 0) (site after : SiteState) (old new : PlantState) (result : Result (Unit {0}) StoreError) : Type 0 where
  pub volumes : tells → (v : ℕ) → v < old.volumes → WritesSlotsOf (is_track_of_mover site v) (on old (Volume v)) (on new (Volume v))
  pub rest : OnOk result ((v x : ℕ) → IsTrue (is_track_of_mover after v x) → IsTrue (is_track_of_mover site v x))
