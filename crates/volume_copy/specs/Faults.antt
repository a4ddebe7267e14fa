-- Which count rises where a call on several devices fails.
use Rattle.std.specs.Prelude.{◌≡◌, ◌≢◌, ◌≤◌, ◌+◌, ℕ, Result, OnOk, OnErr}
use Rattle.xrc_edge.specs.Causes.{Rose}
use Rattle.crash_plant.specs.declared.device.Device.{Device}

-- The count of one of these devices rose, by one, and no other count changed.
pub record FailsAt (among : Device → Type 0) (old new : Device → ℕ) : Type 0 where
  pub device : Device
  pub among_is : among device
  pub rose : Rose (old device) (new device)
  pub later : old device ≤ new device
  pub by_one : new device ≤ old device + 1
  pub others : (d : Device) → d ≢ device → new d ≡ old d

-- A call fails only at one of these devices, and no count rises where it doesn't fail.
pub record FailsAmong {T E : Type 0} (among : Device → Type 0) (old new : Device → ℕ) (result : Result T E) : Type 0 where
  pub ok : OnOk result ((d : Device) → new d ≡ old d)
  pub failed : OnErr result (FailsAt among old new)
