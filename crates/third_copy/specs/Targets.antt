-- The targets of duplex pairs: the devices to which their volumes are copied, and whether a pair has one.
use Rattle.std.specs.Prelude.{◌≡◌, ◌≤◌, ◌<◌, ◌+◌, ◌&&◌, ℕ, List, take, Bool, true, false, not, nat_le, nat_lt, Option, Some, None, if◌then◌else◌}
use Rattle.std.specs.List.{list_any}
use Rattle.crash_plant.specs.declared.device.Device.TheVariants.{Volume}
use Rattle.crash_plant.specs.Moments.{PlantState}
use Rattle.pair_table.specs.declared.row.PairRow.{PairRow}
use Rattle.pair_table.specs.Tables.{HasRow, is_of}
use Rattle.volume_label.specs.declared.label.Label.{Label}
use Rattle.volume_label.specs.Labels.{label_of, volume_need}
use Rattle.third_copy.specs.declared.targets.Target.{Target}
use Rattle.third_copy.specs.declared.targets.Target.TheVariants.{Found, Missing, Unread}

-- the device of a pair's target
abbrev pub target_of : (shift : ℕ) → PairRow → ℕ
target_of shift r = r.device + shift

-- A pair's target is a volume that no row has, with room for the pair's cylinders.
pub record HasTarget (plant : PlantState) (rows : List PairRow) (shift : ℕ) (r : PairRow) : Type 0 where
  pub there : target_of shift r < plant.volumes
  pub free : ¬ HasRow (target_of shift r) rows
  pub long : volume_need r.cylinders ≤ plant.lengths (Volume (target_of shift r))

-- what a label makes of a volume that no row has
abbrev pub by_label : Option Label → (cylinders : ℕ) → Target
by_label None cylinders = Missing
by_label (Some l) cylinders = if nat_le cylinders l.cylinders then Found else Missing

-- what a pair has for a target, by what reads give
abbrev pub target_in : PlantState → List PairRow → (shift : ℕ) → PairRow → Target
target_in plant rows shift r =
    if nat_lt (target_of shift r) plant.volumes && not (list_any (is_of (target_of shift r)) rows)
    then by_label (label_of (plant.lengths (Volume (target_of shift r))) (take 14 (plant.bytes (Volume (target_of shift r))))) r.cylinders
    else Missing

-- A pair lacks a target by what reads give.
abbrev pub IsWithoutTarget : PlantState → List PairRow → (shift : ℕ) → PairRow → Type 0
IsWithoutTarget plant rows shift r = target_in plant rows shift r ≡ Missing

-- A pair's target is found by what reads give.
abbrev pub IsTargetFound : PlantState → List PairRow → (shift : ℕ) → PairRow → Type 0
IsTargetFound plant rows shift r = target_in plant rows shift r ≡ Found

abbrev pub is_unread : Target → Bool
is_unread Unread = true
is_unread Found = false
is_unread Missing = false
