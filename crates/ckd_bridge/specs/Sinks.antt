-- What is put into a sink, and when that may fail.
use Rattle.std.specs.Prelude.{◌≡◌, ℕ, List, ◌++◌, Option, Some, None, Result, Ok, Err}
use Rattle.xrc_edge.specs.Causes.{Rose}
use Rattle.ckd_bridge.specs.declared.stop.Stop.{Stop}
use Rattle.ckd_bridge.specs.declared.stop.Stop.TheVariants.{NoMemory, ReadFault, WriteFault, Refused}

-- Bytes are put after those that were put, where these are told.
abbrev pub Appends : List ℕ → (old new : Option (List ℕ)) → Type 0
Appends bytes (Some old) (Some new) = new ≡ old ++ bytes
Appends bytes None None = Unit {0}
Appends bytes (Some old) None = ⊥
Appends bytes None (Some new) = ⊥

-- Bytes are put, or the sink failed, and its count of faults rose in the call.
abbrev pub PutsWithCause : {X : Type 0} → (before now : ℕ) → Result X Stop → Type 0
PutsWithCause before now (Ok x) = now ≡ before
PutsWithCause before now (Err NoMemory) = ⊥
PutsWithCause before now (Err ReadFault) = ⊥
PutsWithCause before now (Err WriteFault) = Rose before now
PutsWithCause before now (Err (Refused refusal)) = ⊥
