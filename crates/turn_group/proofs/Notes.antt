-- The notes at the start are true, no two are about one part, and each split hands on the next one.
use Rattle.std.proofs.Common.{◌≡◌, ◌≢◌, ℕ, zero, suc, ◌+◌, ◌<◌, ◌≤◌, List, [], ◌∷◌, length, get_or, drop, refl, sym, ap, ◌∙◌, subst, arith}
use Rattle.std.proofs.lemmas.Bool.Decides.{nat_tests}
use Rattle.std.proofs.lemmas.List.{drop_more}
use mathlib.Core.Logic.{dite}
use native.Mathlib.Decide.{ℕ_discrete}
use Rattle.turn.specs.Turn.{AllTrue, notes_about, same}
use Rattle.turn.proofs.Totals.{same_self}
use Rattle.group_state.specs.Controls.{ControlState, new_control, is_reporting}
use Rattle.group_state.specs.Groups.{Group, control_at}
use Rattle.turn_group.specs.Notes.{part_of, says, reader_notes, notes_of}
use Rattle.turn_group.specs.Notes.SeatNote.{ReaderNote}

from_true : (s : Group) (k : ℕ) (controls : List ControlState) → ((j : ℕ) → j < length controls → (k + j < length s.controls) × (control_at s (k + j) ≡ get_or controls j (new_control 0 0 0))) → AllTrue says s (reader_notes k controls)
from_true s k [] at = tt
from_true s k (c ∷ controls) at =
    let here = at 0 (omega arith) in
    let k_is : k + 0 ≡ k = omega arith in
    let is : control_at s k ≡ c = subst (λ i. control_at s i ≡ c) k_is here.1 in (
      (subst (λ i. i < length s.controls) k_is here.0, (ap (λ (d : ControlState). d.floor) is, ap (λ (d : ControlState). is_reporting d.phase) is)),
      from_true s (suc k) controls
          (λ j lt.
          let there = at (suc j) (omega arith) in
          let next : k + suc j ≡ suc k + j = omega arith in subst (λ i. (i < length s.controls) × (control_at s i ≡ get_or controls j (new_control 0 0 0))) next there),
    )

pub notes_true : (s : Group) → AllTrue says s (notes_of s)
notes_true s = ((refl, refl), from_true s 0 s.controls (λ j lt. let is : j ≡ 0 + j = omega arith in subst (λ i. (i < length s.controls) × (control_at s i ≡ get_or s.controls j (new_control 0 0 0))) is (lt, refl)))

other_part : (p k : ℕ) → p ≢ k → same p k ≡ 0
other_part p k apart = grind (arith, nat_tests)

none_below : (p k : ℕ) (controls : List ControlState) → p < suc k → notes_about part_of p (reader_notes k controls) ≡ 0
none_below p k [] lt = refl
none_below p k (c ∷ controls) lt =
    let rest : notes_about part_of p (reader_notes (suc k) controls) ≡ 0 = none_below p (suc k) controls (omega arith) in
    let other : same p (suc k) ≡ 0 = other_part p (suc k) (λ e. absurd (omega arith)) in omega arith

from_apart : (p k : ℕ) (controls : List ControlState) → notes_about part_of p (reader_notes k controls) ≤ 1
from_apart p k [] = omega arith
from_apart p k (c ∷ controls) = dite (ℕ_discrete p (suc k))
    (λ (e : p ≡ suc k).
    let one : same p (suc k) ≡ 1 = ap (same p) (sym e) ∙ same_self p in
    let rest : notes_about part_of p (reader_notes (suc k) controls) ≡ 0 = none_below p (suc k) controls (omega arith) in omega arith)
    (λ (ne : p ≢ suc k). let other : same p (suc k) ≡ 0 = other_part p (suc k) ne in let rest : notes_about part_of p (reader_notes (suc k) controls) ≤ 1 = from_apart p (suc k) controls in omega arith)

first_apart : (p : ℕ) (controls : List ControlState) → same p 0 + notes_about part_of p (reader_notes 0 controls) ≤ 1
first_apart zero controls = let rest : notes_about part_of 0 (reader_notes 0 controls) ≡ 0 = none_below 0 0 controls (omega arith) in let one : same 0 0 ≡ 1 = same_self 0 in omega arith
first_apart (suc p) controls =
    let other : same (suc p) 0 ≡ 0 = other_part (suc p) 0 (λ e. absurd (omega arith)) in let rest : notes_about part_of (suc p) (reader_notes 0 controls) ≤ 1 = from_apart (suc p) 0 controls in omega arith

pub notes_apart : (s : Group) (p : ℕ) → notes_about part_of p (notes_of s) ≤ 1
notes_apart s p = first_apart p s.controls

-- the notes from a controller on
pub notes_more : (s : Group) (k : ℕ) → k < length s.controls
    → reader_notes k (drop k s.controls) ≡ ReaderNote k (control_at s k).floor (is_reporting (control_at s k).phase) ∷ reader_notes (suc k) (drop (k + 1) s.controls)
notes_more s k lt = ap (reader_notes k) (drop_more s.controls k (new_control 0 0 0) lt)
