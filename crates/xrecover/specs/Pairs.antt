-- The duplex pairs among rows, and whether their volumes are long enough.
use Rattle.std.specs.Prelude.{◌≡◌, ℕ, ◌&&◌, List, find, filter, map, Bool, Option, nat_lt, IsTrue}
use Rattle.std.specs.List.{list_any}
use Rattle.crash_plant.specs.declared.device.Device.{Device}
use Rattle.crash_plant.specs.declared.device.Device.TheVariants.{Volume}
use Rattle.crash_plant.specs.Moments.{PlantState}
use Rattle.pair_table.specs.declared.row.PairRow.{PairRow}
use Rattle.pair_table.specs.States.{is_duplex}
use Rattle.pair_table.specs.Tables.{is_of}
use Rattle.xrc_journal.specs.Jobs.{FailsByCount}
use Rattle.volume_label.specs.Labels.{volume_need}

-- whether a row is a device's, and duplex
abbrev pub is_duplex_of : (device : ℕ) → PairRow → Bool
is_duplex_of device r = is_of device r && is_duplex r.state

-- A device is that of a duplex pair.
abbrev pub HasDuplex : List PairRow → (device : ℕ) → Type 0
HasDuplex rows device = IsTrue (list_any (is_duplex_of device) rows)

-- Whether a duplex pair's volume has fewer bytes than the pair's cylinders need.
abbrev pub is_small : PlantState → PairRow → Bool
is_small plant r = is_duplex r.state && nat_lt (plant.lengths (Volume r.device)) (volume_need r.cylinders)

-- the first such pair, in the order of the rows
abbrev pub first_small : PlantState → List PairRow → Option PairRow
first_small plant rows = find (is_small plant) rows

-- the devices of the duplex pairs, in the order of the rows
abbrev pub duplex_devices : List PairRow → List ℕ
duplex_devices rows = map (λ r. r.device) (filter (λ r. is_duplex r.state) rows)

-- No count of a volume changes but that of a duplex pair's.
abbrev pub SparesOthers : List PairRow → (before now : Device → ℕ) → Type 0
SparesOthers rows before now = (v : ℕ) → ¬ HasDuplex rows v → now (Volume v) ≡ before (Volume v)

-- The devices that failed are those of the duplex pairs whose counts rose, by one each, in the order of the rows. No other volume's
-- count rose.
pub record AreFaulty (rows : List PairRow) (before now : Device → ℕ) (failed : List ℕ) : Type 0 where
  pub has_failed : ℕ → Bool
  pub listed : failed ≡ filter has_failed (duplex_devices rows)
  pub are_duplex : (v : ℕ) → IsTrue (has_failed v) → HasDuplex rows v
  pub counted : (v : ℕ) → FailsByCount (has_failed v) (before (Volume v)) (now (Volume v))
