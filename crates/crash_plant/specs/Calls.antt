-- What a call of a plant leaves as it was.
use Rattle.std.specs.Prelude.{◌≡◌, ◌≢◌, ℕ, ◌+◌, ◌<◌, ◌≤◌, true, false, List, [], ◌∷◌, ◌++◌, length, take, ◌⊎◌}
use Rattle.xrc_edge.specs.Causes.{Rose}
use Rattle.crash_plant.specs.declared.device.Device.{Device}
use Rattle.crash_plant.specs.declared.device.Device.TheVariants.{Journal, Volume}
use Rattle.crash_plant.specs.declared.device.Heard.{Heard}
use Rattle.crash_plant.specs.declared.device.Heard.TheVariants.{Byte, End}
use Rattle.crash_plant.specs.Moments.{Standing, PlantState, on, SamePast, Stays, OwnImage, GoesOn}

-- a device that calls may name now
abbrev pub IsThere : PlantState → Device → Type 0
IsThere plant (Journal j) = j < plant.journals
IsThere plant (Volume v) = (v < plant.volumes) × (plant.is_lent v ≡ false)
IsThere plant d = Unit {0}

-- a device of the plant, also a volume that is lent
abbrev pub IsPart : PlantState → Device → Type 0
IsPart plant (Journal j) = j < plant.journals
IsPart plant (Volume v) = v < plant.volumes
IsPart plant d = Unit {0}

abbrev pub NoneLent : PlantState → Type 0
NoneLent plant = (v : ℕ) → v < plant.volumes → plant.is_lent v ≡ false

-- numbers and lengths are as before
pub record SameSite (old new : PlantState) : Type 0 where
  pub journals : new.journals ≡ old.journals
  pub volumes : new.volumes ≡ old.volumes
  pub lengths : (d : Device) → new.lengths d ≡ old.lengths d

-- a volume is lent as before, or isn't as before
pub record SameLoan (v : ℕ) (old new : PlantState) : Type 0 where
  pub is_lent : new.is_lent v ≡ old.is_lent v
  pub since : new.lent_since v ≡ old.lent_since v
  pub lent : SamePast (new.lent v) (old.lent v)
  pub clock : (new.lent v).clock ≡ (old.lent v).clock

-- The past of a plant doesn't change.
pub record Elapses (old new : PlantState) : Type 0 where
  pub kept : (d : Device) → SamePast (on old d) (on new d)
  pub heard : (t : ℕ) → 0 < old.clock → t ≤ old.clock → new.heard t ≡ old.heard t
  pub said : (t : ℕ) → 0 < old.clock → t ≤ old.clock → new.said t ≡ old.said t

-- nothing is heard or said
pub record Silent (old new : PlantState) : Type 0 where
  pub heard : (t : ℕ) → old.clock ≤ t → t ≤ new.clock → new.heard t ≡ old.heard old.clock
  pub said : (t : ℕ) → old.clock ≤ t → t ≤ new.clock → new.said t ≡ old.said old.clock
  pub script : new.script ≡ old.script

-- Each device but these is left alone.
abbrev pub OthersStay : (among : Device → Type 0) → PlantState → PlantState → Type 0
OthersStay among old new = (d : Device) → ¬ among d → Stays (on old d) (on new d)

-- Calls work on some devices alone. What is said of bytes and moments is said of plants that tell them.
pub record WorksOn (tells : Type 0) (among : Device → Type 0) (old new : PlantState) : Type 0 where
  pub site : SameSite old new
  pub loans : (v : ℕ) → SameLoan v old new
  pub elapses : tells → Elapses old new
  pub silent : tells → Silent old new
  pub others : tells → OthersStay among old new
  pub others_faults : (d : Device) → ¬ among d → new.faults d ≡ old.faults d
  pub console_faults : new.console_faults ≡ old.console_faults
  pub faults : (d : Device) → old.faults d ≤ new.faults d

-- No count rose, neither a device's nor the console's.
pub record NoneRose (old new : PlantState) : Type 0 where
  pub devices : (d : Device) → ¬ Rose (old.faults d) (new.faults d)
  pub console : ¬ Rose old.console_faults new.console_faults

-- The next byte is heard, or the end.
abbrev pub Hears : PlantState → PlantState → Heard → Type 0
Hears old new (Byte b) = (old.script ≡ b ∷ new.script) × (new.heard new.clock ≡ old.heard old.clock ++ b ∷ [])
Hears old new End = (old.script ≡ []) × (new.script ≡ []) × (new.heard new.clock ≡ old.heard old.clock)

-- Nothing is said, and at every moment of the call what was heard is what was before it or is after it.
pub record Listens (old new : PlantState) : Type 0 where
  pub said : (t : ℕ) → old.clock ≤ t → t ≤ new.clock → new.said t ≡ old.said old.clock
  pub heard : (t : ℕ) → old.clock ≤ t → t ≤ new.clock → (new.heard t ≡ old.heard old.clock) ⊎ (new.heard t ≡ new.heard new.clock)

-- nothing was heard
pub record HearsNothing (old new : PlantState) : Type 0 where
  pub script : new.script ≡ old.script
  pub heard : new.heard new.clock ≡ old.heard old.clock

-- A call works on the console alone.
pub record WorksOnConsole (tells : Type 0) (old new : PlantState) : Type 0 where
  pub site : SameSite old new
  pub loans : (v : ℕ) → SameLoan v old new
  pub elapses : tells → Elapses old new
  pub devices : tells → (d : Device) → Stays (on old d) (on new d)
  pub faults : (d : Device) → new.faults d ≡ old.faults d

-- At every moment of the call a front of these bytes was said, and later moments have no shorter one.
pub record Says (bytes : List ℕ) (old new : PlantState) : Type 0 where
  pub front : (t : ℕ) → old.clock ≤ t → t ≤ new.clock → (k : ℕ) × (k ≤ length bytes) × (new.said t ≡ old.said old.clock ++ take k bytes)
  pub grows : (s t : ℕ) → old.clock ≤ s → s ≤ t → t ≤ new.clock → length (new.said s) ≤ length (new.said t)
  pub heard : (t : ℕ) → old.clock ≤ t → t ≤ new.clock → new.heard t ≡ old.heard old.clock
  pub script : new.script ≡ old.script

-- what lending and taking back leave as it was
pub record LeavesAllBut (tells : Type 0) (v : ℕ) (old new : PlantState) : Type 0 where
  pub site : SameSite old new
  pub loans : (w : ℕ) → w ≢ v → SameLoan w old new
  pub goes_on : tells → GoesOn old.clock new.clock
  pub heard : tells → (t : ℕ) → 0 < old.clock → t ≤ old.clock → new.heard t ≡ old.heard t
  pub said : tells → (t : ℕ) → 0 < old.clock → t ≤ old.clock → new.said t ≡ old.said t
  pub kept : tells → (d : Device) → d ≢ Volume v → SamePast (on old d) (on new d)
  pub silent : tells → Silent old new
  pub others : tells → (d : Device) → d ≢ Volume v → Stays (on old d) (on new d)
  pub others_faults : (d : Device) → d ≢ Volume v → new.faults d ≡ old.faults d
  pub console_faults : new.console_faults ≡ old.console_faults

-- A volume is lent: it goes on from what it was in the plant. The lent time begins after the moment at which it was lent.
pub record Lends (tells : Type 0) (v : ℕ) (old new : PlantState) (volume : Standing) : Type 0 where
  pub rest : LeavesAllBut tells v old new
  pub is_lent : new.is_lent v ≡ true
  pub since : new.lent_since v ≡ old.clock + 1
  pub lent : SamePast (new.lent v) volume
  pub clock : (new.lent v).clock ≡ volume.clock
  -- The volume of a plant that keeps its past keeps its own.
  pub keeps_past : tells → 0 < old.clock → 0 < volume.clock
  pub length_is : volume.length_is ≡ old.lengths (Volume v)
  pub faults : volume.faults ≡ old.faults (Volume v)
  pub same_faults : new.faults (Volume v) ≡ old.faults (Volume v)
  pub bytes : tells → volume.bytes ≡ old.bytes (Volume v)
  pub images : tells → (c : List ℕ) → volume.images volume.clock c → old.images old.clock (Volume v) c
  pub images_all : tells → (c : List ℕ) → old.images old.clock (Volume v) c → volume.images volume.clock c
  pub kept : tells → SamePast (on old (Volume v)) (on new (Volume v))

-- A volume that can be taken back: of the length of the lent one, and with its past, as far as these tell which one it is.
pub record IsLentOne (tells : Type 0) (v : ℕ) (plant : PlantState) (volume : Standing) : Type 0 where
  pub there : v < plant.volumes
  pub is_lent : plant.is_lent v ≡ true
  pub length_is : volume.length_is ≡ plant.lengths (Volume v)
  pub past : tells → SamePast (plant.lent v) volume
  pub faults : plant.faults (Volume v) ≤ volume.faults

-- A volume is taken back. At each moment of the lent time a crash could leave an image of any of its own moments of that
-- time, whatever stood on the other devices; and now what it can leave on the volume now.
pub record TakesBack (tells : Type 0) (v : ℕ) (old new : PlantState) (volume : Standing) : Type 0 where
  pub rest : LeavesAllBut tells v old new
  pub is_back : new.is_lent v ≡ false
  pub faults : new.faults (Volume v) ≡ volume.faults
  pub bytes : tells → new.bytes (Volume v) ≡ volume.bytes
  pub before : tells → (t : ℕ) → 0 < old.clock → t < old.lent_since v → t ≤ old.clock → (c : List ℕ) → new.images t (Volume v) c → old.images t (Volume v) c
  pub before_all : tells → (t : ℕ) → 0 < old.clock → t < old.lent_since v → t ≤ old.clock → (c : List ℕ) → old.images t (Volume v) c → new.images t (Volume v) c
  pub own : tells → (t : ℕ) → old.lent_since v ≤ t → t < new.clock → (c : List ℕ) → new.images t (Volume v) c → OwnImage (old.lent v).clock volume c
  pub own_all : tells → (t : ℕ) → old.lent_since v ≤ t → t < new.clock → (c : List ℕ) → OwnImage (old.lent v).clock volume c → new.images t (Volume v) c
  -- where the volume has moments of its own in that time, the plant has one
  pub has_moment : tells → (old.lent v).clock < volume.clock → old.lent_since v < new.clock
  pub now : tells → (c : List ℕ) → new.images new.clock (Volume v) c → volume.images volume.clock c
  pub now_all : tells → (c : List ℕ) → volume.images volume.clock c → new.images new.clock (Volume v) c
