-- The laws of labels.
use Rattle.std.specs.Prelude.{◌≡◌, ◌<◌, ◌^◌, ℕ, List, Some, IsTrue}
use Rattle.tod_stamp.specs.Fields.{IsBytes}
use Rattle.tod_stamp.specs.Names.{is_serial}
use Rattle.volume_label.specs.declared.label.Label.{Label}
use Rattle.volume_label.specs.Labels.{holds_cylinders, label_of, label_spelling}

-- What every label keeps by its types, and that a device of this length has room for its cylinders.
pub record IsValid (device_length : ℕ) (label : Label) : Type 0 where
  pub serial : IsTrue (is_serial label.serial)
  pub fits : label.cylinders < 2 ^ 32
  pub room : IsTrue (holds_cylinders device_length label.cylinders)

-- What a valid label spells is read again.
abbrev pub LabelsReadBack : Type 0
LabelsReadBack = (device_length : ℕ) (label : Label) → IsValid device_length label → label_of device_length (label_spelling label) ≡ Some label

-- What is read as a label is valid, and was spelled so.
abbrev pub LabelsAreSpelled : Type 0
LabelsAreSpelled = (device_length : ℕ) (bytes : List ℕ) (label : Label) → IsBytes bytes → label_of device_length bytes ≡ Some label → IsValid device_length label × (bytes ≡ label_spelling label)
