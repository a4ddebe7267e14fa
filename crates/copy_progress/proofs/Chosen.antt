-- The chosen progress while the free slot is written, and while gates are closed.
use Rattle.std.proofs.Common.{◌≡◌, ◌≢◌, inl, inr, ℕ, suc, ◌+◌, ◌≤◌, Bool, true, false, cond, nat_eq, nat_le, List, ◌∷◌, ◌++◌, length, take, drop, slice_index, Option, Some, None, refl, sym, ap, subst, ◌∙◌, arith, append_assoc, length-take}
use Rattle.std.proofs.lemmas.Bool.{lt-ltb, le-ltb, le-leb, lt-leb, cases_lt, eq-eqb, eqb-true}
use Rattle.std.proofs.lemmas.List.{take-take, drop-drop, drop_at, drop-take, get_or-drop}
use Rattle.crash_plant.specs.Bytes.{patched, Torn}
use Rattle.crash_plant.proofs.Patches.{patched_torn}
use Rattle.crash_plant.specs.Gates.{Gated}
use Rattle.crash_plant.proofs.BehindGates.{torn_here}
use Rattle.copy_progress.specs.declared.progress.Progress.{Progress}
use Rattle.copy_progress.specs.declared.slot.Seen.{Seen}
use Rattle.copy_progress.specs.Progresses.{IsProgress, IsProgressInRange, progress_spelling}
use Rattle.copy_progress.specs.Slots.{IsNextNumber, IsSlotSeen, OldOrNext, greater_of, chosen_progress, free_progress_place, is_second_slot_free, progress_place, leading_progress}
use Rattle.copy_progress.proofs.Reading.{closed_is, length_is, same_slot, whole}

-- The chosen progress where one slot is something else: the second or the first.
abbrev pub chosen_with : (second : Bool) → Option Progress → Option Progress → Option Progress → Option Progress
chosen_with true own first second = greater_of first own
chosen_with false own first second = greater_of own second

-- ---- which slot is free

two : (m n : Progress) → chosen_with (nat_le n.number m.number) None (Some m) (Some n) ≡ greater_of (Some m) (Some n)
two m n = elim (cases_lt m.number n.number) [
  | inl below ↦ rw (lt-leb n.number m.number below, lt-ltb m.number n.number below) refl
  | inr above ↦ rw (le-leb n.number m.number above, le-ltb m.number n.number above) refl
]

-- Without what is in the free slot the same one is chosen.
pub free_is : (first second : Option Progress) → chosen_with (is_second_slot_free first second) None first second ≡ greater_of first second
free_is None None = refl
free_is None (Some n) = refl
free_is (Some m) None = refl
free_is (Some m) (Some n) = two m n

-- ---- the next one in the free slot

greater : (n v : Progress) → v.number ≡ n.number + 1 → greater_of (Some n) (Some v) ≡ Some v
greater n v is = rw (lt-ltb n.number v.number (omega (arith, is))) refl

lesser : (n v : Progress) → v.number ≡ n.number + 1 → greater_of (Some v) (Some n) ≡ Some v
lesser n v is = rw (le-ltb v.number n.number (omega (arith, is))) refl

next_chosen : (is_second : Bool) (first second : Option Progress) (v : Progress) → IsNextNumber (chosen_with is_second None first second) v.number → chosen_with is_second (Some v) first second ≡ Some v
next_chosen true None second v is = refl
next_chosen true (Some n) second v is = greater n v is
next_chosen false first None v is = refl
next_chosen false first (Some n) v is = lesser n v is

-- ---- where one slot's bytes alone have changed

pub put_is : (is_second : Bool) (x c : List ℕ) (own : Option Progress) → Torn (progress_place is_second) 43 x c → leading_progress (drop (progress_place is_second) c) ≡ own
    → chosen_progress c ≡ chosen_with is_second own (leading_progress (drop 16 x)) (leading_progress (drop 80 x))
put_is true x c own torn is =
    ap (λ (s : Option Progress). greater_of (leading_progress (drop 16 c)) s) is
    ∙ ap (λ (s : Option Progress). greater_of s own) (same_slot (drop 16 x) (drop 16 c) (front c ∙ ap (λ (l : List ℕ). take 43 (drop 16 l)) torn.before ∙ sym (front x)))
  where
    front : (l : List ℕ) → take 43 (drop 16 l) ≡ take 43 (drop 16 (take 80 l))
    front l = sym (take-take 43 64 (drop 16 l) (omega arith)) ∙ ap (λ (k : List ℕ). take 43 k) (sym (drop-take 16 64 l))
put_is false x c own torn is =
    ap (λ (s : Option Progress). greater_of s (leading_progress (drop 80 c))) is
    ∙ ap (λ (l : List ℕ). greater_of own (leading_progress l)) (sym (drop-drop 21 59 c) ∙ ap (λ (l : List ℕ). drop 21 l) torn.after ∙ drop-drop 21 59 x)

pub place_low : (b : Bool) → progress_place b ≤ 80
place_low true = omega arith
place_low false = omega arith

pub gate_at : (b : Bool) (c : List ℕ) → slice_index c (progress_place b) ≡ slice_index (drop (progress_place b) c) 0
gate_at b c = sym (get_or-drop (progress_place b) c 0 0 ∙ ap (λ (k : ℕ). slice_index c k) (omega arith))

abbrev second_free : List ℕ → Bool
second_free x = is_second_slot_free (leading_progress (drop 16 x)) (leading_progress (drop 80 x))

-- The free slot's gate is shut.
pub shut_is : (x c : List ℕ) → Torn (free_progress_place x) 43 x c → slice_index c (free_progress_place x) ≢ 1 → chosen_progress c ≡ chosen_progress x
shut_is x c torn shut = put_is (second_free x) x c None torn (closed_is (drop (free_progress_place x) c) (λ is. shut (gate_at (second_free x) c ∙ is))) ∙ free_is (leading_progress (drop 16 x)) (leading_progress (drop 80 x))

module _ (v : Progress) (is_progress : IsProgress v) (in_range : IsProgressInRange v) where
  module _ (x : List ℕ) (next : IsNextNumber (chosen_progress x) v.number) where
    new_is : (c : List ℕ) → Torn (free_progress_place x) 43 x c → leading_progress (drop (free_progress_place x) c) ≡ Some v → chosen_progress c ≡ Some v
    new_is c torn is = put_is (second_free x) x c (Some v) torn is
        ∙ next_chosen (second_free x) (leading_progress (drop 16 x)) (leading_progress (drop 80 x)) v
        (subst (λ (r : Option Progress). IsNextNumber r v.number) (sym (free_is (leading_progress (drop 16 x)) (leading_progress (drop 80 x)))) next)

    -- What is written behind the free slot's gate leaves the chosen progress, or makes it the new one.
    pub gated_step : (c : List ℕ) → Gated (free_progress_place x) (progress_spelling v) x c → OldOrNext v (free_progress_place x) x c
    gated_step c gated = record {
      chosen = elim gated.gate [
        | inl is ↦ inl (ap chosen_progress is)
        | inr (inl shut) ↦ inl (shut_is x c torn shut)
        | inr (inr open_now) ↦ inr (new_is c torn (ap leading_progress open_now ∙ whole v is_progress in_range (drop (free_progress_place x + 1 + length (progress_spelling v)) x)))
      ];
      elsewhere = torn;
    }
      where
        torn : Torn (free_progress_place x) 43 x c
        torn = subst (λ (k : ℕ). Torn (free_progress_place x) (1 + k) x c) (length_is v is_progress in_range) gated.torn

    module _ (c : List ℕ) (long : 512 ≤ length x) (is : c ≡ patched (free_progress_place x) (1 ∷ progress_spelling v) x) where
      low : free_progress_place x ≤ 80
      low = place_low (second_free x)

      stands : drop (free_progress_place x) c ≡ 1 ∷ progress_spelling v ++ drop (free_progress_place x + length (1 ∷ progress_spelling v)) x
      stands = ap (λ (l : List ℕ). drop (free_progress_place x) l) (is ∙ append_assoc (take (free_progress_place x) x) (1 ∷ progress_spelling v) (drop (free_progress_place x + length (1 ∷ progress_spelling v)) x))
          ∙ drop_at (take (free_progress_place x) x) (1 ∷ progress_spelling v ++ drop (free_progress_place x + length (1 ∷ progress_spelling v)) x) (free_progress_place x) (omega (arith, length-take (free_progress_place x) x, long, low))

      -- After the write it is the chosen one.
      pub put_chosen : chosen_progress c ≡ Some v
      put_chosen = new_is c (subst (λ (k : ℕ). Torn (free_progress_place x) k x c) (ap suc (length_is v is_progress in_range)) (patched_torn (free_progress_place x) (1 ∷ progress_spelling v) x c (omega (arith, length_is v is_progress in_range, long, low)) is))
          (ap leading_progress stands ∙ whole v is_progress in_range (drop (free_progress_place x + length (1 ∷ progress_spelling v)) x))

-- nothing has changed
pub same_step : (v : Progress) (place : ℕ) (x c : List ℕ) → c ≡ x → OldOrNext v place x c
same_step v place x c is = record { chosen = inl (ap chosen_progress is); elsewhere = subst (λ (l : List ℕ). Torn place 43 x l) (sym is) (torn_here place 43 x) }

-- ---- from the slots that were read

module _ (start : List ℕ) (s0 s1 : Seen) (s0_is : IsSlotSeen (drop 16 start) s0) (s1_is : IsSlotSeen (drop 80 start) s1) (is_second : Bool) (second_is : is_second ≡ is_second_slot_free s0.progress s1.progress) where
  pub second_is_free : is_second ≡ second_free start
  second_is_free = second_is ∙ ap (λ (s : Option Progress). is_second_slot_free s s1.progress) s0_is.progress ∙ ap (λ (s : Option Progress). is_second_slot_free (leading_progress (drop 16 start)) s) s1_is.progress

  module _ (place : ℕ) (place_is : place ≡ progress_place is_second) where
    pub place_free : place ≡ free_progress_place start
    place_free = place_is ∙ ap progress_place second_is_free

    pub put_step : (v : Progress) → IsProgress v → IsProgressInRange v → IsNextNumber (chosen_progress start) v.number → (body : List ℕ) → body ≡ progress_spelling v → (x c : List ℕ) → x ≡ start → Gated place body x c → OldOrNext v (free_progress_place start) x c
    put_step v is_progress in_range next body body_is x c x_is gated =
        let there = subst (λ (p : ℕ). Gated p body x c) place_free gated in
        let of_value = subst (λ (l : List ℕ). Gated (free_progress_place start) l x c) body_is there in
        let from_start = subst (λ (l : List ℕ). Gated (free_progress_place start) (progress_spelling v) l c) x_is of_value in
        subst (λ (l : List ℕ). OldOrNext v (free_progress_place start) l c) (sym x_is) (gated_step v is_progress in_range start next c from_start)

    pub put_written : (v : Progress) (body : List ℕ) → body ≡ progress_spelling v → (c : List ℕ) → c ≡ patched place (1 ∷ body) start → c ≡ patched (free_progress_place start) (1 ∷ progress_spelling v) start
    put_written v body body_is c is = is ∙ ap (λ (p : ℕ). patched p (1 ∷ body) start) place_free ∙ ap (λ (l : List ℕ). patched (free_progress_place start) (1 ∷ l) start) body_is

-- ---- gates that were seen

module _ (start : List ℕ) (s0 s1 : Seen) (s0_is : IsSlotSeen (drop 16 start) s0) (s1_is : IsSlotSeen (drop 80 start) s1) where
  pub gate_seen : (b : Bool) → cond b s1.is_open s0.is_open ≡ nat_eq (slice_index start (progress_place b)) 1
  gate_seen true = s1_is.gate ∙ ap (λ (n : ℕ). nat_eq n 1) (get_or-drop 80 start 0 0)
  gate_seen false = s0_is.gate ∙ ap (λ (n : ℕ). nat_eq n 1) (get_or-drop 16 start 0 0)

  pub gate_opened : (b : Bool) → cond b s1.is_open s0.is_open ≡ true → slice_index start (progress_place b) ≡ 1
  gate_opened b is = eqb-true (slice_index start (progress_place b)) 1 (sym (gate_seen b) ∙ is)

  pub gate_closed : (b : Bool) → cond b s1.is_open s0.is_open ≡ false → slice_index start (progress_place b) ≢ 1
  gate_closed b is e = clash (sym (eq-eqb (slice_index start (progress_place b)) 1 e) ∙ sym (gate_seen b) ∙ is)
    where
      clash : (true ≡ false) → ⊥
      clash e = cc
