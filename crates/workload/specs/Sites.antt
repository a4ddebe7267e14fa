-- The devices and the console of a generated input.
use Rattle.std.specs.Prelude.{◌≡◌, ◌≢◌, ◌<◌, ℕ, List, [], replicate, nat_lt, if◌then◌else◌}
use Rattle.crash_plant.specs.declared.layout.TheConstants.{CONTROL_LENGTH, STATE_LENGTH}
use Rattle.crash_plant.specs.declared.device.Device.{Device}
use Rattle.crash_plant.specs.declared.device.Device.TheVariants.{Control, State, Journal, Volume}
use Rattle.crash_plant.specs.Bytes.{patched}
use Rattle.crash_plant.specs.Calls.{NoneLent, SameLoan, SameSite}
use Rattle.crash_plant.specs.NewPlants.{SameConsole}
use Rattle.crash_plant.specs.Moments.{PlantState}
use Rattle.volume_label.specs.declared.label.Label.{Label}
use Rattle.volume_label.specs.Labels.{label_spelling, volume_need}
use Rattle.xrc_journal.specs.Lengths.{journal_length}
use Rattle.workload.specs.declared.layout.TheConstants.{CONTROLS, CYLINDERS, JOURNALS, PAIRS}
use Rattle.workload.specs.Scripts.{generated_script, secondary_named}

abbrev pub generated_label : (device : ℕ) → Label
generated_label device = record { serial = secondary_named device; cylinders = CYLINDERS }

-- so many zeros
unfoldable pub zero_bytes : (count : ℕ) → List ℕ
zero_bytes count = replicate count 0

-- a volume of zeros that is as long as its cylinders need
abbrev pub blank_volume : List ℕ
blank_volume = zero_bytes (volume_need CYLINDERS)

-- the same after its label
abbrev pub labelled_volume : (device : ℕ) → List ℕ
labelled_volume device = patched 0 (label_spelling (generated_label device)) blank_volume

-- What is there before a session: two journals that are long enough for all controllers, the volumes of all pairs with their labels, zeros
-- elsewhere, and the script, of which nothing was heard. Nothing was said, no volume is lent, and no call has failed.
pub record HoldsInput (plant : PlantState) : Type 0 where
  pub has_journals : plant.journals ≡ JOURNALS
  pub has_volumes : plant.volumes ≡ PAIRS
  pub control : plant.bytes Control ≡ zero_bytes CONTROL_LENGTH
  pub state : plant.bytes State ≡ zero_bytes STATE_LENGTH
  pub each_journal : (j : ℕ) → j < JOURNALS → plant.bytes (Journal j) ≡ zero_bytes (journal_length CONTROLS)
  pub each_volume : (v : ℕ) → v < PAIRS → plant.bytes (Volume v) ≡ labelled_volume v
  pub heard : plant.heard plant.clock ≡ []
  pub said : plant.said plant.clock ≡ []
  pub is_to_hear : plant.script ≡ generated_script
  pub none_lent : NoneLent plant
  pub faults : (d : Device) → plant.faults d ≡ 0
  pub console_faults : plant.console_faults ≡ 0

-- ---- the labels, one after another

-- A volume gets its label, and all else stays.
pub record LabelsVolume (v : ℕ) (old new : PlantState) : Type 0 where
  pub bytes : new.bytes (Volume v) ≡ patched 0 (label_spelling (generated_label v)) (old.bytes (Volume v))
  pub others : (d : Device) → d ≢ Volume v → new.bytes d ≡ old.bytes d
  pub site : SameSite old new
  pub loans : (w : ℕ) → SameLoan w old new
  pub faults : (d : Device) → new.faults d ≡ old.faults d
  pub console : SameConsole old new

-- what a volume holds once so many volumes were labelled
abbrev pub volume_after : (count v : ℕ) → List ℕ
volume_after count v = if nat_lt v count then labelled_volume v else blank_volume

-- The first volumes were labelled, so many, and all else is as the plant was made.
pub record IsLabelledUpTo (count : ℕ) (made plant : PlantState) : Type 0 where
  pub volumes : (v : ℕ) → v < PAIRS → plant.bytes (Volume v) ≡ volume_after count v
  pub others : (d : Device) → ((v : ℕ) → d ≢ Volume v) → plant.bytes d ≡ made.bytes d
  pub site : SameSite made plant
  pub loans : (w : ℕ) → SameLoan w made plant
  pub faults : (d : Device) → plant.faults d ≡ made.faults d
  pub console : SameConsole made plant
