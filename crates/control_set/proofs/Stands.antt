-- What the chosen mark says of the bytes, and what gates say of the chosen mark.
use Rattle.std.proofs.Common.{◌≡◌, ◌↔◌, ℕ, Bool, true, false, cond, nat_eq, nat_lt, List, drop, slice_index, Option, Some, None, Result, Ok, Err, IfOk, refl, sym, ap, ◌∙◌}
use Rattle.std.proofs.lemmas.List.{get_or-drop}
use Rattle.control_set.specs.declared.value.Mark.{Mark}
use Rattle.control_set.specs.declared.slot.Slot.{Slot}
use Rattle.control_set.specs.declared.slot.Slot.TheVariants.{Closed, Holds, Damaged}
use Rattle.control_set.specs.Slots.{slot_of, chosen_of, chosen_mark, NoGateOpen, is_closed}
use Rattle.control_set.proofs.Reading.{closed_is, gate_shut}

-- ---- gates

-- No mark counts only where both slots are closed.
both_closed : (first second : Slot) → chosen_of first second ≡ Ok None → (is_closed first ≡ true) × (is_closed second ≡ true)
both_closed Closed Closed e = (refl, refl)
both_closed Closed (Holds n) e = absurd cc
both_closed Closed Damaged e = absurd cc
both_closed Damaged second e = absurd cc
both_closed (Holds m) Closed e = absurd cc
both_closed (Holds m) Damaged e = absurd cc
both_closed (Holds m) (Holds n) e = by_numbers (nat_eq m.number n.number) (nat_lt m.number n.number) e
  where
    by_numbers : (same below : Bool) → cond {A = Result (Option Mark) ℕ} same (Err 512) (Ok (Some (cond below n m))) ≡ Ok None → (false ≡ true) × (false ≡ true)
    by_numbers true below e = absurd cc
    by_numbers false below e = absurd cc

second_gate : (control : List ℕ) → slice_index (drop 512 control) 0 ≡ slice_index control 512
second_gate control = get_or-drop 512 control 0 0

pub none_of_gates : (lengths control : List ℕ) → NoGateOpen control → chosen_mark lengths control ≡ Ok None
none_of_gates lengths control none =
    ap (λ (s : Slot). chosen_of s (slot_of lengths (drop 512 control))) (closed_is lengths control none.first)
    ∙ ap (λ (s : Slot). chosen_of Closed s) (closed_is lengths (drop 512 control) (λ is. none.second (sym (second_gate control) ∙ is)))

-- There is no chosen mark exactly where no gate is open.
pub none_where : (lengths control : List ℕ) → (chosen_mark lengths control ≡ Ok None) ↔ NoGateOpen control
none_where lengths control = (
  λ e.
      let shut = both_closed (slot_of lengths control) (slot_of lengths (drop 512 control)) e in
      record {
        first = gate_shut lengths control shut.0;
        second = λ is. gate_shut lengths (drop 512 control) shut.1 (second_gate control ∙ is);
      },
  none_of_gates lengths control,
)

-- None is chosen exactly where no gate is open.
ok_is : (a b : Option Mark) → (let x : Result (Option Mark) ℕ = Ok a in let y : Result (Option Mark) ℕ = Ok b in x ≡ y) → a ≡ b
ok_is a b e = cc

pub none_of : {E : Type 0} (lengths control : List ℕ) (r : Result (Option Mark) E) → IfOk r (λ found. chosen_mark lengths control ≡ Ok found) → IfOk r (λ found. (found ≡ None) ↔ NoGateOpen control)
none_of lengths control (Ok found) is = (λ e. (none_where lengths control).0 (is ∙ ap Ok e), λ gates. ok_is found None (sym is ∙ (none_where lengths control).1 gates))
none_of lengths control (Err e) is = tt

-- What is chosen beside a first slot that was read.
pub beside_is : (lengths more control still : List ℕ) (first : Slot) → first ≡ slot_of lengths control → more ≡ lengths → still ≡ control → chosen_mark lengths control ≡ chosen_of first (slot_of more (drop 512 still))
beside_is lengths more control still first is same kept =
    ap (λ (s : Slot). chosen_of s (slot_of lengths (drop 512 control))) (sym is)
    ∙ ap (λ (l : List ℕ). chosen_of first (slot_of lengths (drop 512 l))) (sym kept)
    ∙ ap (λ (ls : List ℕ). chosen_of first (slot_of ls (drop 512 still))) (sym same)
