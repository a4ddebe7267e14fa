-- Counts of faults that are told in another way.
use Rattle.std.proofs.Common.{◌≡◌, ℕ, sym, subst, Result}
use Rattle.xrc_edge.specs.Causes.{HasCause}
use Rattle.crash_plant.specs.declared.device.Device.{Device}
use Rattle.crash_plant.specs.declared.plain_plant.PlainPlant.{PlainPlant}
use Rattle.crash_plant.specs.PlainPlant.{plain_state}
use Rattle.crash_plant.proofs.Seen.{seen_of_alike}

-- A cause in other words.
pub cause_along : {T E : Type 0} (old now was is : ℕ) (result : Result T E) → old ≡ was → now ≡ is → HasCause was is result → HasCause old now result
cause_along old now was is result from to cause = subst (λ (n : ℕ). HasCause old n result) (sym to) (subst (λ (n : ℕ). HasCause n is result) (sym from) cause)

-- A plain plant's devices count no fault.
pub plain_faults : (p : PlainPlant) (d : Device) → (plain_state p).faults d ≡ 0
plain_faults p d = seen_of_alike 0 p.control p.state p.journals.items p.volumes.items d
