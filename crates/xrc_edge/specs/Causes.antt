-- When a call on the outside may fail: only where the count of faults of what it works on rose in the call.
use Rattle.std.specs.Prelude.{◌≡◌, ◌≤◌, ◌<◌, ◌+◌, ◌-◌, ◌^◌, ◌⊎◌, ℕ, Result, OnOk, OnErr}

-- A count rose in a call. Counts end at the largest number of 64 bits; one that stands there also counts as risen.
abbrev pub Rose : ℕ → ℕ → Type 0
Rose before now = (before < now) ⊎ (now ≡ 2 ^ 64 - 1)

-- A call fails only where the count rose in it, by one. The count rises in no other call and never falls.
pub record HasCause {T E : Type 0} (before now : ℕ) (result : Result T E) : Type 0 where
  pub later : before ≤ now
  pub by_one : now ≤ before + 1
  pub ok : OnOk result (now ≡ before)
  pub failed : OnErr result (Rose before now)
