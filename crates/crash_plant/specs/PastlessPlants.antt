-- Plants that keep no past: their clock stands at 0, so that each moment is now, and a crash leaves what a read gives.
use Rattle.std.specs.Prelude.{◌≡◌, ℕ, Bool, List, []}
use Rattle.crash_plant.specs.declared.device.Device.{Device}
use Rattle.crash_plant.specs.Moments.{Standing, PlantState}

-- what such a plant holds, heard and said
pub record Contents : Type 0 where
  pub journals : ℕ
  pub volumes : ℕ
  pub lengths : Device → ℕ
  pub bytes : Device → List ℕ
  pub heard : List ℕ
  pub said : List ℕ
  -- what is left to hear
  pub script : List ℕ
  pub faults : Device → ℕ
  pub console_faults : ℕ
  pub is_lent : ℕ → Bool

-- a device of which nothing is known
abbrev pub unknown : Standing
unknown = record { bytes = []; clock = 0; images = λ t c. ⊥; length_is = 0; faults = 0 }

-- Such a plant among all plants.
abbrev pub still : Contents → PlantState
still a = record {
  journals = a.journals;
  volumes = a.volumes;
  lengths = a.lengths;
  bytes = a.bytes;
  clock = 0;
  images = λ t d c. c ≡ a.bytes d;
  heard = λ t. a.heard;
  said = λ t. a.said;
  script = a.script;
  faults = a.faults;
  console_faults = a.console_faults;
  is_lent = a.is_lent;
  lent_since = λ v. 1;
  lent = λ v. unknown;
}

-- One disk of these bytes, length and count among all disks.
abbrev pub still_disk : List ℕ → ℕ → ℕ → Standing
still_disk bytes length_is faults = record { bytes = bytes; clock = 0; images = λ t c. c ≡ bytes; length_is = length_is; faults = faults }

-- Two such plants agree but for these devices' bytes and counts, and for what is lent.
pub record AgreesBut (among : Device → Type 0) (a b : Contents) : Type 0 where
  pub journals : b.journals ≡ a.journals
  pub volumes : b.volumes ≡ a.volumes
  pub lengths : (d : Device) → b.lengths d ≡ a.lengths d
  pub bytes : (d : Device) → ¬ among d → b.bytes d ≡ a.bytes d
  pub faults : (d : Device) → ¬ among d → b.faults d ≡ a.faults d
  pub heard : b.heard ≡ a.heard
  pub said : b.said ≡ a.said
  pub script : b.script ≡ a.script
  pub console_faults : b.console_faults ≡ a.console_faults
