-- Why no record is put at the journal's end.
use Rattle.std.proofs.Common.{◌≡◌, ◌≤◌, inl, inr, arith, ℕ, Result, Ok, Err, refl, sym, subst, ◌∙◌}
use Rattle.std.specs.Prelude.{OnOk}
use Rattle.xrc_edge.specs.Causes.{Rose}
use Rattle.crash_plant.specs.declared.device.Device.{Device}
use Rattle.crash_plant.specs.declared.device.Device.TheVariants.{Journal}
use Rattle.crash_plant.specs.Moments.{PlantState}
use Rattle.crash_plant.proofs.Choices.{device_cases}
use Rattle.xrc_journal.specs.declared.journal.AppendError.{AppendError}
use Rattle.xrc_journal.specs.declared.journal.AppendError.TheVariants.{NoRoom, Fault}
use Rattle.xrc_journal.specs.Appending.{GrowCause, RefusesRoom}

fault_is : (set j : ℕ) → (let a : Result (Unit {0}) AppendError = Err (Fault set) in let b : Result (Unit {0}) AppendError = Err (Fault j) in a ≡ b) → j ≡ set
fault_is set j e = cc

pub fault_not_full : (set n f : ℕ) → (let a : Result (Unit {0}) AppendError = Err (Fault set) in let b : Result (Unit {0}) AppendError = Err (NoRoom n f) in a ≡ b) → ⊥
fault_not_full set n f e = cc

-- A journal whose count rose is named.
pub fault_grows : (among : Device → Type 0) (old new : PlantState) (set : ℕ) → among (Journal set) → Rose (old.faults (Journal set)) (new.faults (Journal set)) → ((d : Device) → ¬ (d ≡ Journal set) → new.faults d ≡ old.faults d) → GrowCause among old new (Err (Fault set))
fault_grows among old new set is rose others = record {
  fault = λ j named. let same = sym (fault_is set j named) in (subst (λ (n : ℕ). among (Journal n)) same is, subst (λ (n : ℕ). Rose (old.faults (Journal n)) (new.faults (Journal n))) same rose);
  others = λ d none. others d (none set refl);
}

-- Counts stay in a call that doesn't fail and in one after it, but for those of that one's device.
pub counts_still : (device : Device) (old mid new : PlantState) → ((d : Device) → ¬ (d ≡ device) → mid.faults d ≡ old.faults d) → mid.faults device ≡ old.faults device → (other : Device) → ((d : Device) → ¬ (d ≡ other) → new.faults d ≡ mid.faults d)
    → (d : Device) → ¬ (d ≡ other) → new.faults d ≡ old.faults d
counts_still device old mid new first same other then d not = elim (device_cases d device) [
  | inl is ↦ then d not ∙ subst (λ (e : Device). mid.faults e ≡ old.faults e) (sym is) same
  | inr differs ↦ then d not ∙ first d differs
]

-- A count that rose in a later call rose.
pub rose_since : (a b c : ℕ) → a ≤ b → Rose b c → Rose a c
rose_since a b c le (inl lower) = inl (omega (arith, le, lower))
rose_since a b c le (inr most) = inr most

-- A fault refuses for no want of room.
pub fault_has_room : (why : Type 0) (needed free set : ℕ) → ¬ why → RefusesRoom why needed free (Err (Fault set))
fault_has_room why needed free set not = record { refused = λ full. absurd (not full); only = λ n f named. absurd (fault_not_full set n f named) }

-- what two clauses of one answer show together
pub on_ok_both : {T E P Q R : Type 0} (result : Result T E) → (P → Q → R) → OnOk result P → OnOk result Q → OnOk result R
on_ok_both (Ok value) both one two = both one two
on_ok_both (Err error) both one two = tt
