-- Devices and plants through time. A moment is named by the clock. The images of a device at a moment are the contents
-- that a crash at that moment may leave there; those of several devices are chosen independently of one another.
use Rattle.std.specs.Prelude.{◌≡◌, ℕ, ◌<◌, ◌≤◌, Bool, List}
use Rattle.crash_plant.specs.declared.device.Device.{Device}

-- one device, with its past
pub record Standing : Type 1 where
  -- what a read gives
  pub bytes : List ℕ
  pub clock : ℕ
  -- what a crash at a moment may leave
  pub images : ℕ → List ℕ → Type 0
  pub length_is : ℕ
  pub faults : ℕ

-- a plant, with its past
pub record PlantState : Type 1 where
  pub journals : ℕ
  pub volumes : ℕ
  pub lengths : Device → ℕ
  pub bytes : Device → List ℕ
  pub clock : ℕ
  -- what a crash at a moment may leave on a device
  pub images : ℕ → Device → List ℕ → Type 0
  -- what was heard and said up to a moment
  pub heard : ℕ → List ℕ
  pub said : ℕ → List ℕ
  -- what is left to hear
  pub script : List ℕ
  pub faults : Device → ℕ
  pub console_faults : ℕ
  -- whether a volume is lent; the first moment of the lent time; what the volume was when it was lent
  pub is_lent : ℕ → Bool
  pub lent_since : ℕ → ℕ
  pub lent : ℕ → Standing

-- one device of a plant
abbrev pub on : PlantState → Device → Standing
on plant d = record { bytes = plant.bytes d; clock = plant.clock; images = λ t c. plant.images t d c; length_is = plant.lengths d; faults = plant.faults d }

-- The clock never falls. On a device that keeps no past it stands at 0, and the one moment is now.
abbrev pub GoesOn : ℕ → ℕ → Type 0
GoesOn old new = (old ≤ new) × (old ≡ 0 → new ≡ 0)

-- A call raises the clock of a device that keeps its past.
abbrev pub Raises : ℕ → ℕ → Type 0
Raises old new = 0 < old → old < new

-- The past of a device doesn't change: nothing comes to it, and nothing is forgotten. It is so too where no call is made.
pub record SamePast (old new : Standing) : Type 0 where
  pub later : old.clock ≤ new.clock
  pub still : old.clock ≡ 0 → new.clock ≡ 0
  pub same : (t : ℕ) → 0 < old.clock → t ≤ old.clock → (c : List ℕ) → new.images t c → old.images t c
  pub all : (t : ℕ) → 0 < old.clock → t ≤ old.clock → (c : List ℕ) → old.images t c → new.images t c

-- At every moment from the one on at which calls began, each image comes by this step from one that a crash could leave
-- when they began.
abbrev pub Follows : (List ℕ → List ℕ → Type 0) → Standing → Standing → Type 0
Follows step old new = (t : ℕ) → old.clock ≤ t → t ≤ new.clock → (c : List ℕ) → new.images t c → (b : List ℕ) × old.images old.clock b × step b c

-- the step of what changes nothing
abbrev pub Same : List ℕ → List ℕ → Type 0
Same b c = c ≡ b

-- At every moment from the one on at which calls began, a crash may leave whatever it could leave then.
abbrev pub Stands : Standing → Standing → Type 0
Stands old new = (t : ℕ) → old.clock ≤ t → t ≤ new.clock → (c : List ℕ) → old.images old.clock c → new.images t c

-- a device that a call leaves alone
pub record Stays (old new : Standing) : Type 0 where
  pub bytes : new.bytes ≡ old.bytes
  pub images : Follows Same old new
  pub all : Stands old new
  pub faults : new.faults ≡ old.faults

-- a crash now leaves what a read gives
abbrev pub IsDurable : Standing → Type 0
IsDurable device = (c : List ℕ) → device.images device.clock c → c ≡ device.bytes

-- an image that a crash could leave at one of a volume's own moments, from that one on
abbrev pub OwnImage : ℕ → Standing → List ℕ → Type 0
OwnImage first volume c = (s : ℕ) × (first ≤ s) × (s ≤ volume.clock) × volume.images s c
