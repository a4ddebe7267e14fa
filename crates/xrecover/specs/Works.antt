-- What calls that lend volumes and take them back leave as it was, and by which step each device comes to what it has.
use Rattle.std.specs.Prelude.{◌≡◌, ◌≢◌, ◌≤◌, ℕ, List}
use Rattle.crash_plant.specs.declared.device.Device.{Device}
use Rattle.crash_plant.specs.declared.device.Device.TheVariants.{Control, State, Journal, Volume}
use Rattle.crash_plant.specs.Moments.{PlantState, on, Follows}
use Rattle.crash_plant.specs.Calls.{Elapses, NoneLent, SameSite, Silent}

-- Numbers, lengths, the past and the console are as before, and no volume is away that wasn't. What reads give, and what a crash
-- leaves at each moment, comes by this step from what it was when the calls began.
pub record Works (tells : Type 0) (step : Device → List ℕ → List ℕ → Type 0) (old new : PlantState) : Type 0 where
  pub site : SameSite old new
  pub home : NoneLent old → NoneLent new
  pub elapses : tells → Elapses old new
  pub silent : tells → Silent old new
  pub bytes : tells → (d : Device) → step d (old.bytes d) (new.bytes d)
  pub moments : tells → (d : Device) → Follows (step d) (on old d) (on new d)
  pub console_faults : new.console_faults ≡ old.console_faults
  pub faults : (d : Device) → old.faults d ≤ new.faults d

-- nothing differs
abbrev pub Nothing : Device → List ℕ → List ℕ → Type 0
Nothing d b c = c ≡ b

-- a step of one volume
abbrev pub OfOneVolume : (device : ℕ) → (List ℕ → List ℕ → Type 0) → Device → List ℕ → List ℕ → Type 0
OfOneVolume device step (Volume v) b c = (v ≡ device → step b c) × (v ≢ device → c ≡ b)
OfOneVolume device step Control b c = c ≡ b
OfOneVolume device step State b c = c ≡ b
OfOneVolume device step (Journal j) b c = c ≡ b
