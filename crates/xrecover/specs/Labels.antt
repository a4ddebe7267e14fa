-- When labels are written, and which; or that each stays.
use Rattle.std.specs.Prelude.{◌≡◌, ◌⊎◌, ◌≤◌, ℕ, List, All, drop, take, true}
use Rattle.xrc_edge.specs.Causes.{Rose}
use Rattle.crash_plant.specs.declared.device.Device.TheVariants.{Volume}
use Rattle.crash_plant.specs.Moments.{PlantState, Standing, Follows, on}
use Rattle.pair_table.specs.declared.row.PairRow.{PairRow}
use Rattle.xrc_journal.specs.Items.{Item}
use Rattle.volume_label.specs.Labels.{label_spelling}
use Rattle.xrecover.specs.declared.labelling.Labelling.{Labelling}
use Rattle.xrecover.specs.declared.labelling.Labelling.TheVariants.{AsPrimary, AsItIs}
use Rattle.pair_table.specs.States.{is_duplex}
use Rattle.xrecover.specs.RedoneVolumes.{Draws, SameLabel}

-- Calls on a device leave its label: what a read gives has the same one, and at every moment so has whatever a crash leaves.
pub record KeepsLabel (old new : Standing) : Type 0 where
  pub bytes : SameLabel old.bytes new.bytes
  pub moments : Follows SameLabel old new

-- A label is written on what is redone and durable: at every moment of calls whatever a crash leaves of a device has the 14 bytes of a
-- label that it could have had before them, or the slot of each of its tracks of which an item is begins with the image of the track's
-- content, and it holds after the label what a read gives in the end.
abbrev pub LabelsLast : (device : ℕ) → List Item → (old new : Standing) → Type 0
LabelsLast device items old new = (t : ℕ) → old.clock ≤ t → t ≤ new.clock → (c : List ℕ) → new.images t c → ((b : List ℕ) × old.images old.clock b × SameLabel b c) ⊎ (Draws device items old.bytes c × (drop 14 c ≡ drop 14 new.bytes))

-- The volume of a pair has the label that it had, or its primary's, but where its count of faults rose.
abbrev pub IsNamed : PairRow → (old new : PlantState) → Type 0
IsNamed row old new = ¬ Rose (old.faults (Volume row.device)) (new.faults (Volume row.device))
    → SameLabel (old.bytes (Volume row.device)) (new.bytes (Volume row.device)) ⊎ (take 14 (new.bytes (Volume row.device)) ≡ label_spelling (record { serial = row.primary; cylinders = row.cylinders }))

-- So has the volume of each duplex pair.
abbrev pub AreNamed : List PairRow → (old new : PlantState) → Type 0
AreNamed rows old new = All (λ row. is_duplex row.state ≡ true → IsNamed row old new) rows

-- Each volume keeps its label.
abbrev pub KeepsLabels : (old new : PlantState) → Type 0
KeepsLabels old new = (v : ℕ) → KeepsLabel (on old (Volume v)) (on new (Volume v))

-- What becomes of the label of a pair's volume: the primary's is written last, and it is there in the end, or the label that was there,
-- but where the volume's count rose. Or the label stays.
abbrev pub TreatsLabel : Labelling → PairRow → List Item → (old new : PlantState) → Type 0
TreatsLabel AsPrimary row items old new = LabelsLast row.device items (on old (Volume row.device)) (on new (Volume row.device)) × IsNamed row old new
TreatsLabel AsItIs row items old new = KeepsLabel (on old (Volume row.device)) (on new (Volume row.device))

-- The same of all volumes, where these are the rows.
abbrev pub TreatsLabels : Labelling → List PairRow → List Item → (old new : PlantState) → Type 0
TreatsLabels AsPrimary rows items old new = ((v : ℕ) → LabelsLast v items (on old (Volume v)) (on new (Volume v))) × AreNamed rows old new
TreatsLabels AsItIs rows items old new = KeepsLabels old new
