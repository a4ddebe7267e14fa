-- What a plant without a past holds, where it has a disk for the control, one for the state, a list of them for the
-- journals and a list of places for the volumes.
use Rattle.std.specs.Prelude.{ℕ, zero, suc, Bool, false, List, [], ◌∷◌, length}
use Rattle.crash_plant.specs.declared.device.Device.{Device}
use Rattle.crash_plant.specs.declared.device.Device.TheVariants.{Control, State, Journal, Volume}
use Rattle.crash_plant.specs.PastlessPlants.{Contents}

-- what is seen of the item at an index; after the end it is the second argument
abbrev pub seen_at : {A B : Type 0} → (A → B) → B → List A → ℕ → B
seen_at see none [] i = none
seen_at see none (x ∷ xs) zero = see x
seen_at see none (x ∷ xs) (suc i) = seen_at see none xs i

-- what is seen of each device
abbrev pub seen_of : {D P B : Type 0} → (see : D → B) (see_place : P → B) (none : B) (control state : D) (journals : List D) (volumes : List P) → Device → B
seen_of see see_place none control state journals volumes Control = see control
seen_of see see_place none control state journals volumes State = see state
seen_of see see_place none control state journals volumes (Journal j) = seen_at see none journals j
seen_of see see_place none control state journals volumes (Volume v) = seen_at see_place none volumes v

-- how a disk and a volume's place are seen
pub record Sight (D P : Type 0) : Type 0 where
  pub disk_length : D → ℕ
  pub disk_bytes : D → List ℕ
  pub disk_faults : D → ℕ
  pub place_length : P → ℕ
  pub place_bytes : P → List ℕ
  pub place_faults : P → ℕ
  pub place_is_lent : P → Bool

abbrev pub contents_of : {D P : Type 0} → Sight D P → (control state : D) (journals : List D) (volumes : List P) (heard said script : List ℕ) (console_faults : ℕ) → Contents
contents_of sight control state journals volumes heard said script console_faults = record {
  journals = length journals;
  volumes = length volumes;
  lengths = seen_of sight.disk_length sight.place_length 0 control state journals volumes;
  bytes = seen_of sight.disk_bytes sight.place_bytes [] control state journals volumes;
  heard = heard;
  said = said;
  script = script;
  faults = seen_of sight.disk_faults sight.place_faults 0 control state journals volumes;
  console_faults = console_faults;
  is_lent = seen_at sight.place_is_lent false volumes;
}
