-- What reads give is a choice, and the rows with hits are on the same volumes.
use Rattle.std.proofs.Common.{◌≡◌, ℕ, Bool, true, List, [], ap, ◌∙◌}
use Rattle.std.specs.List.{list_all}
use Rattle.crash_plant.specs.declared.device.Device.{Device}
use Rattle.crash_plant.specs.Calls.{IsThere, NoneLent}
use Rattle.crash_plant.specs.Choices.{Choice, IsChoice}
use Rattle.crash_plant.specs.Moments.{PlantState}
use Rattle.pair_table.specs.declared.level.Level.{Level}
use Rattle.pair_table.specs.declared.row.PairRow.{PairRow}
use Rattle.row_changes.specs.Changes.{reach_of}
use Rattle.record_rows.specs.ChangedRows.{state_told}
use Rattle.record_rows.specs.Hits.{hit_now}
use Rattle.record_rows.specs.Records.{rows_with_hits}
use Rattle.record_rows.proofs.Changed.{hits_change}
use Rattle.site_store.specs.Standing.{row_has_volume}
pub use Rattle.site_store.proofs.MarkFits.{reads_choice}
use Rattle.site_store.proofs.RecordPairsFit.{next_have_volumes}

-- So there is a choice.
pub some_choice : (tells : Type 0) (plant : PlantState) → NoneLent plant → (tells → (d : Device) → IsThere plant d → plant.images plant.clock d (plant.bytes d)) → tells → (c : Choice) × IsChoice plant plant.clock c
some_choice tells plant home read told = (plant.bytes, reads_choice plant home (read told))

pub hits_have : (plant : PlantState) (level : Level) (cut : ℕ) (failed : List Bool) (rows : List PairRow) → list_all (row_has_volume plant) rows ≡ true → list_all (row_has_volume plant) (rows_with_hits level cut failed rows) ≡ true
hits_have plant level cut failed rows have = ap (list_all (row_has_volume plant)) (hits_change level cut failed rows) ∙ next_have_volumes (state_told (reach_of level rows) cut [] (hit_now failed rows)) plant rows have
