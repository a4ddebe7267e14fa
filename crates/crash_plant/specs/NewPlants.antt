-- A plant in memory as it is made, and what its changes outside a run leave.
use Rattle.std.specs.Prelude.{◌≡◌, ◌≢◌, ◌<◌, ℕ, List, [], replicate}
use Rattle.crash_plant.specs.declared.layout.TheConstants.{CONTROL_LENGTH, STATE_LENGTH}
use Rattle.crash_plant.specs.declared.device.Device.{Device}
use Rattle.crash_plant.specs.declared.device.Device.TheVariants.{Control, State, Journal, Volume}
use Rattle.crash_plant.specs.Bytes.{resized}
use Rattle.crash_plant.specs.Moments.{PlantState}
use Rattle.crash_plant.specs.Calls.{NoneLent, SameSite, SameLoan}

-- A new plant: each device holds zeros. Nothing was heard or said, no volume
-- is lent, and no call has failed.
pub record IsMade (journals journal_length volumes volume_length : ℕ) (script : List ℕ) (plant : PlantState) : Type 0 where
  pub has_journals : plant.journals ≡ journals
  pub has_volumes : plant.volumes ≡ volumes
  pub control : plant.bytes Control ≡ replicate CONTROL_LENGTH 0
  pub state : plant.bytes State ≡ replicate STATE_LENGTH 0
  pub each_journal : (j : ℕ) → j < journals → plant.bytes (Journal j) ≡ replicate journal_length 0
  pub each_volume : (v : ℕ) → v < volumes → plant.bytes (Volume v) ≡ replicate volume_length 0
  pub heard : plant.heard plant.clock ≡ []
  pub said : plant.said plant.clock ≡ []
  pub is_to_hear : plant.script ≡ script
  pub none_lent : NoneLent plant
  pub faults : (d : Device) → plant.faults d ≡ 0
  pub console_faults : plant.console_faults ≡ 0

-- what two plants have in common that hold the same bytes and lent the same volumes, whatever their consoles
pub record SameDevices (old new : PlantState) : Type 0 where
  pub site : SameSite old new
  pub loans : (v : ℕ) → SameLoan v old new
  pub bytes : (d : Device) → new.bytes d ≡ old.bytes d
  pub faults : (d : Device) → new.faults d ≡ old.faults d

pub record SameConsole (old new : PlantState) : Type 0 where
  pub heard : new.heard new.clock ≡ old.heard old.clock
  pub said : new.said new.clock ≡ old.said old.clock
  pub script : new.script ≡ old.script
  pub console_faults : new.console_faults ≡ old.console_faults

-- One device has another length: its bytes are cut, or filled up with zeros.
pub record Resizes (device : Device) (n : ℕ) (old new : PlantState) : Type 0 where
  pub bytes : new.bytes device ≡ resized n (old.bytes device)
  pub length_is : new.lengths device ≡ n
  pub other_bytes : (d : Device) → d ≢ device → new.bytes d ≡ old.bytes d
  pub other_lengths : (d : Device) → d ≢ device → new.lengths d ≡ old.lengths d
  pub journals : new.journals ≡ old.journals
  pub volumes : new.volumes ≡ old.volumes
  pub loans : (v : ℕ) → SameLoan v old new
  pub faults : (d : Device) → new.faults d ≡ old.faults d
  pub console : SameConsole old new

-- Another script is heard from its beginning.
pub record Restarts (script : List ℕ) (old new : PlantState) : Type 0 where
  pub devices : SameDevices old new
  pub is_to_hear : new.script ≡ script
  pub heard : new.heard new.clock ≡ []
  pub said : new.said new.clock ≡ old.said old.clock
  pub console_faults : new.console_faults ≡ old.console_faults

-- Nothing was heard or said, there is nothing to hear, and no call has failed.
pub record IsSilent (plant : PlantState) : Type 0 where
  pub heard : plant.heard plant.clock ≡ []
  pub said : plant.said plant.clock ≡ []
  pub is_to_hear : plant.script ≡ []
  pub faults : (d : Device) → plant.faults d ≡ 0
  pub console_faults : plant.console_faults ≡ 0
