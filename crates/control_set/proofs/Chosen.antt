-- The chosen mark while the free slot is written.
use Rattle.std.proofs.Common.{◌≡◌, inl, inr, ℕ, suc, ◌+◌, ◌≤◌, Bool, true, false, cond, nat_lt, List, [], ◌∷◌, ◌++◌, length, take, drop, slice_index, Option, Some, None, Result, Ok, Err, IsOk, refl, sym, ap, subst, ◌∙◌, arith, append_assoc, append-nil, length-take}
use Rattle.std.proofs.lemmas.Bool.{ne_eqb, eq-eqb, lt-ltb, le-ltb, cases_eq, cases_lt}
use Rattle.std.proofs.lemmas.List.{take-take, drop-drop, drop_at, get_or-drop}
use Rattle.crash_plant.specs.Bytes.{patched, Torn}
use Rattle.crash_plant.proofs.Patches.{patched_torn}
use Rattle.crash_plant.specs.Gates.{Gated}
use Rattle.crash_plant.proofs.BehindGates.{torn_here}
use Rattle.control_set.specs.declared.value.Mark.{Mark}
use Rattle.control_set.specs.declared.slot.Slot.{Slot}
use Rattle.control_set.specs.declared.slot.Slot.TheVariants.{Closed, Holds, Damaged}
use Rattle.control_set.specs.Marks.{IsMark, IsInRange, mark_spelling, mark_at}
use Rattle.control_set.specs.Slots.{slot_read, slot_of, chosen_of, chosen_mark, NoGateOpen, IsNext, is_second_free, place_of_slot, free_place, OldOrNew}
use Rattle.control_set.proofs.Again.{length_is, marks_again}
use Rattle.control_set.proofs.Reading.{holds_is, closed_is, same_slot}

-- The chosen mark where one slot is something else: the second or the first.
abbrev pub chosen_with : (second : Bool) → Slot → Slot → Slot → Result (Option Mark) ℕ
chosen_with true own first second = chosen_of first own
chosen_with false own first second = chosen_of own second

-- ---- which slot is free

abbrev either : (m n : Mark) (same below : Bool) → Result (Option Mark) ℕ
either m n same below = cond same (Err 512) (Ok (Some (cond below n m)))

-- Two marks: the one that isn't chosen may be closed.
two_marks : (m n : Mark) → IsOk (chosen_of (Holds m) (Holds n)) → chosen_with (nat_lt n.number m.number) Closed (Holds m) (Holds n) ≡ chosen_of (Holds m) (Holds n)
two_marks m n is = elim (cases_eq m.number n.number) [
  | inl same ↦ absurd (none (subst (λ (b : Bool). IsOk (either m n b (nat_lt m.number n.number))) (eq-eqb m.number n.number same) is))
  | inr differ ↦ elim (cases_lt m.number n.number) [
    | inl below ↦ rw (le-ltb n.number m.number (omega (arith, below)), ne_eqb m.number n.number differ, lt-ltb m.number n.number below) refl
    | inr above ↦ rw (lt-ltb n.number m.number (omega (arith, above, differ)), ne_eqb m.number n.number differ, le-ltb m.number n.number above) refl
  ]
]
  where
    none : IsOk (either m n true (nat_lt m.number n.number)) → ⊥
    none e = cc

-- Closing the free slot leaves the chosen mark.
pub free_is : (first second : Slot) → IsOk (chosen_of first second) → chosen_with (is_second_free first second) Closed first second ≡ chosen_of first second
free_is Closed Closed is = refl
free_is Closed (Holds n) is = refl
free_is Closed Damaged is = refl
free_is Damaged second is = absurd cc
free_is (Holds m) Closed is = refl
free_is (Holds m) Damaged is = absurd cc
free_is (Holds m) (Holds n) is = two_marks m n is

-- ---- the next mark in the free slot

-- the mark in a slot, with a greater number than the other slot's
greater : (n v : Mark) → v.number ≡ n.number + 1 → chosen_of (Holds n) (Holds v) ≡ Ok (Some v)
greater n v is = rw (ne_eqb n.number v.number (λ e. absurd (omega (arith, is, e))), lt-ltb n.number v.number (omega (arith, is))) refl

lesser : (n v : Mark) → v.number ≡ n.number + 1 → chosen_of (Holds v) (Holds n) ≡ Ok (Some v)
lesser n v is = rw (ne_eqb v.number n.number (λ e. absurd (omega (arith, is, e))), le-ltb v.number n.number (omega (arith, is))) refl

next_chosen : (is_second : Bool) (first second : Slot) (v : Mark) → IsNext (chosen_with is_second Closed first second) v.number → chosen_with is_second (Holds v) first second ≡ Ok (Some v)
next_chosen true Closed second v is = refl
next_chosen true (Holds n) second v is = greater n v is
next_chosen true Damaged second v is = absurd is
next_chosen false first Closed v is = refl
next_chosen false first (Holds n) v is = lesser n v is
next_chosen false first Damaged v is = absurd is

next_ok : (r : Result (Option Mark) ℕ) (n : ℕ) → IsNext r n → IsOk r
next_ok (Ok None) n is = refl
next_ok (Ok (Some m)) n is = refl
next_ok (Err place) n is = absurd is

-- ---- where one slot's bytes alone have changed

pub put_is : (lengths : List ℕ) (is_second : Bool) (x c : List ℕ) (own : Slot) → Torn (place_of_slot is_second) 49 x c → slot_of lengths (drop (place_of_slot is_second) c) ≡ own
    → chosen_mark lengths c ≡ chosen_with is_second own (slot_of lengths x) (slot_of lengths (drop 512 x))
put_is lengths true x c own torn is =
    ap (λ (s : Slot). chosen_of (slot_of lengths c) s) is
    ∙ ap (λ (s : Slot). chosen_of s own) (same_slot lengths x c (sym (take-take 49 512 c (omega arith)) ∙ ap (λ (l : List ℕ). take 49 l) torn.before ∙ take-take 49 512 x (omega arith)))
put_is lengths false x c own torn is =
    ap (λ (s : Slot). chosen_of s (slot_of lengths (drop 512 c))) is
    ∙ ap (λ (l : List ℕ). chosen_of own (slot_of lengths l)) (sym (drop-drop 463 49 c) ∙ ap (λ (l : List ℕ). drop 463 l) torn.after ∙ drop-drop 463 49 x)

place_low : (b : Bool) → place_of_slot b ≤ 512
place_low true = omega arith
place_low false = omega arith

module _ (lengths : List ℕ) (m : Mark) (is_mark : IsMark lengths m) (in_range : IsInRange m) where
  -- a mark behind an open gate
  whole : (x : List ℕ) → slot_of lengths (1 ∷ mark_spelling m ++ x) ≡ Holds m
  whole x = holds_is lengths (mark_spelling m) x m (length_is m in_range) again
    where
      again : slot_read (mark_at lengths (record { place = 1; bytes = mark_spelling m })) ≡ Holds m
      again = ap (λ (l : List ℕ). slot_read (mark_at lengths (record { place = 1; bytes = l }))) (sym (append-nil (mark_spelling m))) ∙ ap slot_read (marks_again lengths 1 m [] is_mark in_range)

  module _ (x : List ℕ) (next : IsNext (chosen_mark lengths x) m.number) where
    new_is : (c : List ℕ) → Torn (free_place lengths x) 49 x c → slot_of lengths (drop (free_place lengths x) c) ≡ Holds m → chosen_mark lengths c ≡ Ok (Some m)
    new_is c torn is = put_is lengths (is_second_free (slot_of lengths x) (slot_of lengths (drop 512 x))) x c (Holds m) torn is
        ∙ next_chosen (is_second_free (slot_of lengths x) (slot_of lengths (drop 512 x))) (slot_of lengths x) (slot_of lengths (drop 512 x)) m
        (subst (λ (r : Result (Option Mark) ℕ). IsNext r m.number) (sym (free_is (slot_of lengths x) (slot_of lengths (drop 512 x)) (next_ok (chosen_mark lengths x) m.number next))) next)

    -- What is written behind the free slot's gate leaves the chosen mark, or makes it the new one.
    pub gated_step : (c : List ℕ) → Gated (free_place lengths x) (mark_spelling m) x c → OldOrNew lengths m (free_place lengths x) x c
    gated_step c gated = record {
      chosen = elim gated.gate [
        | inl is ↦ inl (ap (λ (l : List ℕ). chosen_mark lengths l) is)
        | inr (inl shut) ↦ inl (put_is lengths (is_second_free (slot_of lengths x) (slot_of lengths (drop 512 x))) x c Closed torn (closed_is lengths (drop (free_place lengths x) c) (λ is. shut (gate_there ∙ is)))
            ∙ free_is (slot_of lengths x) (slot_of lengths (drop 512 x)) (next_ok (chosen_mark lengths x) m.number next))
        | inr (inr open_now) ↦ inr (new_is c torn (ap (λ (l : List ℕ). slot_of lengths l) open_now ∙ whole (drop (free_place lengths x + 1 + length (mark_spelling m)) x)))
      ];
      elsewhere = torn;
    }
      where
        torn : Torn (free_place lengths x) 49 x c
        torn = subst (λ (k : ℕ). Torn (free_place lengths x) (1 + k) x c) (length_is m in_range) gated.torn

        gate_there : slice_index c (free_place lengths x) ≡ slice_index (drop (free_place lengths x) c) 0
        gate_there = sym (get_or-drop (free_place lengths x) c 0 0 ∙ ap (λ (k : ℕ). slice_index c k) (omega arith))

    module _ (c : List ℕ) (long : 1024 ≤ length x) (is : c ≡ patched (free_place lengths x) (1 ∷ mark_spelling m) x) where
      low : free_place lengths x ≤ 512
      low = place_low (is_second_free (slot_of lengths x) (slot_of lengths (drop 512 x)))

      stands : drop (free_place lengths x) c ≡ 1 ∷ mark_spelling m ++ drop (free_place lengths x + length (1 ∷ mark_spelling m)) x
      stands = ap (λ (l : List ℕ). drop (free_place lengths x) l) (is ∙ append_assoc (take (free_place lengths x) x) (1 ∷ mark_spelling m) (drop (free_place lengths x + length (1 ∷ mark_spelling m)) x))
          ∙ drop_at (take (free_place lengths x) x) (1 ∷ mark_spelling m ++ drop (free_place lengths x + length (1 ∷ mark_spelling m)) x) (free_place lengths x) (omega (arith, length-take (free_place lengths x) x, long, low))

      -- After the write the new mark stands in the free slot,
      pub there : slot_of lengths (drop (free_place lengths x) c) ≡ Holds m
      there = ap (λ (l : List ℕ). slot_of lengths l) stands ∙ whole (drop (free_place lengths x + length (1 ∷ mark_spelling m)) x)

      -- and is the chosen one.
      pub put_chosen : chosen_mark lengths c ≡ Ok (Some m)
      put_chosen = new_is c (subst (λ (k : ℕ). Torn (free_place lengths x) k x c) (ap suc (length_is m in_range)) (patched_torn (free_place lengths x) (1 ∷ mark_spelling m) x c (omega (arith, length_is m in_range, long, low)) is)) there

-- With no gate open the free slot is the first.
pub none_first : (lengths x : List ℕ) → NoGateOpen x → free_place lengths x ≡ 0
none_first lengths x none = ap (λ (s : Slot). place_of_slot (is_second_free s (slot_of lengths (drop 512 x)))) (closed_is lengths x none.first)

-- nothing has changed
pub same_step : (lengths : List ℕ) (m : Mark) (place : ℕ) (x c : List ℕ) → c ≡ x → OldOrNew lengths m place x c
same_step lengths m place x c is = record { chosen = inl (ap (λ (l : List ℕ). chosen_mark lengths l) is); elsewhere = subst (λ (l : List ℕ). Torn place 49 x l) (sym is) (torn_here place 49 x) }

-- ---- from the slots that were read

module _ (lengths start : List ℕ) (s0 s1 : Slot) (s0_is : s0 ≡ slot_of lengths start) (s1_is : s1 ≡ slot_of lengths (drop 512 start)) (is_second : Bool) (second_is : is_second ≡ is_second_free s0 s1) (place : ℕ) (place_is : place ≡ place_of_slot is_second) where
  pub place_free : place ≡ free_place lengths start
  place_free = place_is ∙ ap place_of_slot (second_is ∙ ap (λ (s : Slot). is_second_free s s1) s0_is ∙ ap (λ (s : Slot). is_second_free (slot_of lengths start) s) s1_is)

  -- a step behind that gate, in an image at the start
  pub put_step : (m : Mark) → IsMark lengths m → IsInRange m → IsNext (chosen_mark lengths start) m.number → (body : List ℕ) → body ≡ mark_spelling m → (x c : List ℕ) → x ≡ start → Gated place body x c → OldOrNew lengths m (free_place lengths start) x c
  put_step m is_mark in_range next body body_is x c x_is gated =
      let there = subst (λ (p : ℕ). Gated p body x c) place_free gated in
      let of_mark = subst (λ (l : List ℕ). Gated (free_place lengths start) l x c) body_is there in
      let from_start = subst (λ (l : List ℕ). Gated (free_place lengths start) (mark_spelling m) l c) x_is of_mark in
      subst (λ (l : List ℕ). OldOrNew lengths m (free_place lengths start) l c) (sym x_is) (gated_step lengths m is_mark in_range start next c from_start)

  -- what is written in all
  pub put_written : (m : Mark) (body : List ℕ) → body ≡ mark_spelling m → (c : List ℕ) → c ≡ patched place (1 ∷ body) start → c ≡ patched (free_place lengths start) (1 ∷ mark_spelling m) start
  put_written m body body_is c is = is ∙ ap (λ (p : ℕ). patched p (1 ∷ body) start) place_free ∙ ap (λ (l : List ℕ). patched (free_place lengths start) (1 ∷ l) start) body_is
