-- What a session's calls leave as it was.
use Rattle.std.specs.Prelude.{◌≡◌, true, ◌⊎◌, ℕ, ◌≤◌, ◌<◌, List, length, slice_range, ◌++◌}
use Rattle.std.specs.List.{Contains, flat_map}
use Rattle.ckd_track.specs.SlotPlaces.{slot_end, slot_place}
use Rattle.crash_plant.specs.declared.device.Device.TheVariants.{Volume}
use Rattle.crash_plant.specs.Calls.{Elapses, NoneLent, SameSite}
use Rattle.crash_plant.specs.Moments.{Follows, PlantState, on}
use Rattle.pair_table.specs.declared.row.PairRow.{PairRow}
use Rattle.pair_table.specs.States.{is_device_suspended}
use Rattle.consistency.specs.Stages.{tracks_of_row}
use Rattle.consistency.specs.Ways.{PassedPoint}
use Rattle.mover.specs.Moves.{most_faults}

-- the rows that a session's points have
abbrev pub rows_passed : List PassedPoint → List PairRow
rows_passed points = flat_map (λ n. n.point.rows) points

-- A range of bytes of a device meets no slot of the tracks of these rows there.
abbrev pub IsApartFromRows : (device : ℕ) → List PairRow → (from to : ℕ) → Type 0
IsApartFromRows d rows from to = (r : PairRow) → Contains rows r → r.device ≡ d → (x : ℕ) → x < tracks_of_row r → (to ≤ slot_place x) ⊎ (slot_end x ≤ from)

-- Only those slots may differ.
pub record DiffersInRows (device : ℕ) (rows : List PairRow) (old new : List ℕ) : Type 0 where
  pub size : length new ≡ length old
  pub others : (from to : ℕ) → from ≤ to → IsApartFromRows device rows from to → slice_range new from to ≡ slice_range old from to

-- Of the volumes only the slots of the tracks of these rows are written, at no moment another byte. One that has no row holds what it held.
pub record ChangesRows (rows : List PairRow) (old new : PlantState) : Type 0 where
  pub bytes : (d : ℕ) → d < old.volumes → DiffersInRows d rows (old.bytes (Volume d)) (new.bytes (Volume d))
  pub moments : (d : ℕ) → d < old.volumes → Follows (DiffersInRows d rows) (on old (Volume d)) (on new (Volume d))

-- A count of faults rose, or stands at its end.
abbrev pub CountRose : (before now : ℕ) → Type 0
CountRose before now = (before < now) ⊎ (most_faults ≤ now)

-- A row is suspended by its device only where it was so before, since the same time, or where its volume's count of faults has risen.
abbrev pub SuspendsByCounts : (rows rows_now : List PairRow) → (old new : PlantState) → Type 0
SuspendsByCounts rows rows_now old new = (r : PairRow) → Contains rows_now r → is_device_suspended r.state ≡ true
    → CountRose (old.faults (Volume r.device)) (new.faults (Volume r.device)) ⊎ ((s : PairRow) × Contains rows s × (s.device ≡ r.device) × (s.state ≡ r.state))

-- What was said is a front of what is said then. On a plant that keeps its past what was said by a moment is a front of what was said by each
-- later one.
pub record SaidGrows (old new : PlantState) : Type 0 where
  pub more : List ℕ
  pub said : new.said new.clock ≡ old.said old.clock ++ more
  pub moments : 0 < old.clock → (s t : ℕ) → old.clock ≤ s → s ≤ t → t ≤ new.clock → (later : List ℕ) × (new.said t ≡ new.said s ++ later)

-- Calls of a session keep the site's numbers and lengths and the past, and no volume stays lent. What they say they never take back.
pub record KeepsPlant (tells : Type 0) (old new : PlantState) : Type 0 where
  pub site : SameSite old new
  pub home : NoneLent new
  pub elapses : tells → Elapses old new
  pub grows : tells → SaidGrows old new
