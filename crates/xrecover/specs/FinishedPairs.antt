-- What is left of the volumes that are finished, row by row, when items were applied to them.
use Rattle.std.specs.Prelude.{◌≡◌, ◌≢◌, ◌||◌, ℕ, List, [], All, Bool, true, false, filter, IsTrue}
use Rattle.crash_plant.specs.declared.device.Device.{Device}
use Rattle.crash_plant.specs.declared.device.Device.TheVariants.{Volume}
use Rattle.crash_plant.specs.Moments.{PlantState, on, Follows, Same}
use Rattle.pair_table.specs.declared.row.PairRow.{PairRow}
use Rattle.xrc_journal.specs.Jobs.{FailsByCount}
use Rattle.xrecover.specs.declared.labelling.Labelling.{Labelling}
use Rattle.xrecover.specs.Labels.{TreatsLabel, TreatsLabels}
use Rattle.xrecover.specs.Pairs.{HasDuplex, duplex_devices}
use Rattle.pair_table.specs.States.{is_duplex}
use Rattle.xrecover.specs.RedoneVolumes.{IsRedone, Recovers, Redoes}
use Rattle.xrecover.specs.Works.{OfOneVolume, Works}

-- A pair's volume was synced and labelled, or a call on it failed.
pub record FinishesVolume (tells : Type 0) (labelling : Labelling) (row : PairRow) (failed : Bool) (old new : PlantState) : Type 0 where
  pub works : Works tells (OfOneVolume row.device (Redoes row.device [])) old new
  pub fails : FailsByCount failed (old.faults (Volume row.device)) (new.faults (Volume row.device))
  pub counts : (d : Device) → d ≢ Volume row.device → new.faults d ≡ old.faults d
  pub redone : tells → failed ≡ false → IsRedone labelling row [] old new
  pub treats : tells → TreatsLabel labelling row [] old new

-- Volumes that are left alone stay. Of the other duplex pairs' volumes each is finished, or it failed by its count. All that have failed
-- are told, in the order of the rows.
pub record FinishesPairs (tells : Type 0) (labelling : Labelling) (rows : List PairRow) (left : ℕ → Bool) (failed : List ℕ) (old new : PlantState) : Type 0 where
  pub works : Works tells (Recovers rows []) old new
  pub has_failed : ℕ → Bool
  pub listed : failed ≡ filter (λ v. left v || has_failed v) (duplex_devices rows)
  pub are_duplex : (v : ℕ) → IsTrue (has_failed v) → HasDuplex rows v
  pub were_fit : (v : ℕ) → IsTrue (has_failed v) → left v ≡ false
  pub counted : (v : ℕ) → FailsByCount (has_failed v) (old.faults (Volume v)) (new.faults (Volume v))
  pub redone : tells → All (λ row. is_duplex row.state ≡ true → left row.device ≡ false → has_failed row.device ≡ false → IsRedone labelling row [] old new) rows
  pub stays : tells → (v : ℕ) → left v ≡ true → (new.bytes (Volume v) ≡ old.bytes (Volume v)) × Follows Same (on old (Volume v)) (on new (Volume v))
  pub treats : tells → TreatsLabels labelling rows [] old new
