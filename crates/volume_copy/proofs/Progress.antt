-- How far a target is while cylinders are copied to it.
use Rattle.std.proofs.Common.{◌≡◌, ◌≢◌, ◌⊎◌, inl, inr, ◌≤◌, ◌+◌, ◌*◌, ◌/◌, ◌&&◌, ℕ, Bool, true, false, cond, nat_eq, nat_le, nat_lt, List, length, take, drop, slice_index, Option, Some, None, refl, sym, ◌∙◌, ap, subst, arith}
use Rattle.std.specs.Prelude.{bytes_eq, codes}
use Rattle.std.proofs.lemmas.Bool.{and_parts, eq-eqb, eqb-true, leb-true}
use Rattle.ckd_track.specs.SlotPlaces.{slot_place}
use Rattle.crash_plant.specs.Bytes.{Torn}
use Rattle.std.proofs.lemmas.Slice.Eq.{bytes_eq-Decides}
use Rattle.tod_stamp.specs.Fields.{u32_at, u64_at}
use Rattle.tod_stamp.specs.Names.{is_field}
use Rattle.tod_stamp.proofs.NameLaws.{and_true}
use Rattle.copy_progress.specs.declared.claim.Claim.{Claim}
use Rattle.copy_progress.specs.declared.progress.Progress.{Progress}
use Rattle.copy_progress.specs.Copies.{counts_for, done, done_by}
use Rattle.copy_progress.specs.Progresses.{IsProgress, is_table_kept, primary_field_of, progress_in, session_field_of}
use Rattle.copy_progress.specs.Slots.{IsCleared, IsNextNumber, chosen_progress, greater_of, leading_progress, slot_in}
use Rattle.copy_progress.proofs.Clearing.{none_chosen}
use Rattle.copy_progress.proofs.Telling.{front_chosen}
use Rattle.volume_copy.specs.Targets.{HasCylindersDone, progress_after}
use Rattle.volume_copy.proofs.Ranges.{front_less}

same_bytes : (bytes : List ℕ) → bytes_eq bytes bytes ≡ true
same_bytes bytes = (bytes_eq-Decides bytes bytes).1 refl

-- The progress after a cylinder counts, and keeps the table.
pub next_counts : (claim : Claim) (k : ℕ) → counts_for claim (progress_after claim k) ≡ true
next_counts claim k = and_true _ _ (same_bytes claim.session) (and_true _ _ (eq-eqb claim.time.0 claim.time.0 refl) (and_true _ _ (same_bytes claim.primary) (and_true _ _ (eq-eqb claim.tracks claim.tracks refl) (eq-eqb (15 * (k + 1)) (15 * (k + 1)) refl))))

pub next_keeps : (claim : Claim) (k : ℕ) → 15 * (k + 1) ≤ claim.tracks → IsProgress (progress_after claim k)
next_keeps claim k within = record { number = omega arith; next = within }

-- After it was noted one more cylinder is done.
pub stands_next : (claim : Claim) (target : List ℕ) (k : ℕ) → chosen_progress target ≡ Some (progress_after claim k) → HasCylindersDone claim target (k + 1)
stands_next claim target k is = record {
  done_is = ap (done_by claim) is ∙ ap (λ (b : Bool). cond b (15 * (k + 1)) 0) (next_counts claim k);
  next = subst (λ (o : Option Progress). IsNextNumber o (k + 1 + 1)) (sym is) refl;
}

-- Where no gate is open none is done.
pub stands_cleared : (claim : Claim) (target : List ℕ) → IsCleared target → HasCylindersDone claim target 0
stands_cleared claim target none = let is = none_chosen target none in record { done_is = ap (done_by claim) is; next = subst (λ (o : Option Progress). IsNextNumber o 1) (sym is) refl }

-- What counts is of the claim's tracks, and tells a number of cylinders.
counted : (claim : Claim) (p : Progress) → counts_for claim p ≡ true → (nat_eq p.tracks claim.tracks ≡ true) × (nat_eq (15 * p.number) p.next ≡ true)
counted claim p is =
    let last = nat_eq (15 * p.number) p.next in
    let tracks = nat_eq p.tracks claim.tracks && last in
    let primary = bytes_eq p.primary claim.primary && tracks in
    let time = nat_eq p.time.0 claim.time.0 && primary in
    and_parts (nat_eq p.tracks claim.tracks) last
    (and_parts (bytes_eq p.primary claim.primary) tracks (and_parts (nat_eq p.time.0 claim.time.0) primary (and_parts (bytes_eq p.session claim.session) time is).1).1).1

counted_next : (claim : Claim) (p : Progress) → counts_for claim p ≡ true → 15 * p.number ≡ p.next
counted_next claim p is = eqb-true (15 * p.number) p.next (counted claim p is).1

pub stands_done : (claim : Claim) (target : List ℕ) (n : ℕ) → done claim target ≡ n → n ≢ 0 → HasCylindersDone claim target (n / 15)
stands_done claim target n is some = by_chosen (chosen_progress target) refl
  where
    by_count : (p : Progress) → chosen_progress target ≡ Some p → (b : Bool) → counts_for claim p ≡ b → cond b p.next 0 ≡ n → HasCylindersDone claim target (n / 15)
    by_count p chosen true counts next =
        let number = counted_next claim p counts in
        let k : n / 15 ≡ p.number = omega (arith, number, next) in
        record {
          done_is = is ∙ sym next ∙ sym number ∙ ap (λ (m : ℕ). 15 * m) (sym k);
          next = subst (λ (o : Option Progress). IsNextNumber o (n / 15 + 1)) (sym chosen) (ap (λ (m : ℕ). m + 1) k);
        }
    by_count p chosen false counts next = absurd (some (sym next))

    by_chosen : (o : Option Progress) → chosen_progress target ≡ o → HasCylindersDone claim target (n / 15)
    by_chosen None chosen = absurd (some (sym is ∙ ap (done_by claim) chosen))
    by_chosen (Some p) chosen = by_count p chosen (counts_for claim p) refl (sym (ap (done_by claim) chosen) ∙ is)

-- ---- no more is done than there are tracks

-- A slot's progress keeps the table.
slot_kept : (bytes : List ℕ) (p : Progress) → slot_in bytes ≡ Some p → p.next ≤ p.tracks
slot_kept bytes p is = by_test (nat_eq (length bytes) 43 && (nat_eq (slice_index bytes 0) 1 && is_table_kept bytes)) refl is
  where
    kept : (nat_eq (length bytes) 43 && (nat_eq (slice_index bytes 0) 1 && is_table_kept bytes)) ≡ true → (progress_in bytes).next ≤ (progress_in bytes).tracks
    kept all =
        let last = nat_le (u32_at bytes 39) (u32_at bytes 35) in
        let primary = is_field 6 (primary_field_of bytes) && last in
        let session = is_field 8 (session_field_of bytes) && primary in
        let number = nat_le 1 (u64_at bytes 5) && session in
        let gate = nat_eq (slice_index bytes 0) 1 && is_table_kept bytes in
        leb-true (progress_in bytes).next (progress_in bytes).tracks
        (and_parts (is_field 6 (primary_field_of bytes)) last
        (and_parts (is_field 8 (session_field_of bytes)) primary (and_parts (nat_le 1 (u64_at bytes 5)) session
        (and_parts (bytes_eq (codes "XCPY") (take 4 (drop 1 bytes))) number (and_parts (nat_eq (slice_index bytes 0) 1) (is_table_kept bytes) (and_parts (nat_eq (length bytes) 43) gate all).1).1).1).1).1).1

    by_test : (b : Bool) → (nat_eq (length bytes) 43 && (nat_eq (slice_index bytes 0) 1 && is_table_kept bytes)) ≡ b → cond b (Some (progress_in bytes)) None ≡ Some p → p.next ≤ p.tracks
    by_test true all e = let same : progress_in bytes ≡ p = cc in subst (λ (q : Progress). q.next ≤ q.tracks) same (kept all)
    by_test false all e = absurd cc

greater_is : (a b : Option Progress) (p : Progress) → greater_of a b ≡ Some p → (a ≡ Some p) ⊎ (b ≡ Some p)
greater_is None b p is = inr is
greater_is (Some m) None p is = inl is
greater_is (Some m) (Some n) p is = by_test (nat_lt m.number n.number) is
  where
    by_test : (b : Bool) → cond b (Some n) (Some m) ≡ Some p → (Some m ≡ Some p) ⊎ (Some n ≡ Some p)
    by_test true e = inr e
    by_test false e = inl e

chosen_kept : (target : List ℕ) (p : Progress) → chosen_progress target ≡ Some p → p.next ≤ p.tracks
chosen_kept target p is = elim (greater_is (leading_progress (drop 16 target)) (leading_progress (drop 80 target)) p is) [
  | inl first ↦ slot_kept (take 43 (drop 16 target)) p first
  | inr second ↦ slot_kept (take 43 (drop 80 target)) p second
]

pub done_within : (claim : Claim) (target : List ℕ) → done claim target ≤ claim.tracks
done_within claim target = by_chosen (chosen_progress target) refl
  where
    by_count : (p : Progress) → chosen_progress target ≡ Some p → (b : Bool) → counts_for claim p ≡ b → cond b p.next 0 ≤ claim.tracks
    by_count p chosen true counts =
        let same : p.tracks ≡ claim.tracks = eqb-true p.tracks claim.tracks (counted claim p counts).0 in
        omega (arith, chosen_kept target p chosen, same)
    by_count p chosen false counts = omega arith

    by_chosen : (o : Option Progress) → chosen_progress target ≡ o → done claim target ≤ claim.tracks
    by_chosen None chosen = omega (arith, ap (done_by claim) chosen)
    by_chosen (Some p) chosen = let at = by_count p chosen (counts_for claim p) refl in omega (arith, ap (done_by claim) chosen, at)

-- The tracks of a cylinder leave the progress.
pub chosen_still : (k : ℕ) (b c : List ℕ) → Torn (slot_place (15 * k)) 860160 b c → chosen_progress c ≡ chosen_progress b
chosen_still k b c torn = front_chosen b c (front_less 512 (slot_place (15 * k)) b c (omega arith) torn.before)

-- All is done where so many cylinders are, up to the last.
pub all_done : (claim : Claim) (target : List ℕ) (cylinders k : ℕ) → claim.tracks ≡ 15 * cylinders → HasCylindersDone claim target k → claim.tracks / 15 ≤ k → done claim target ≡ claim.tracks
all_done claim target cylinders k whole stands high =
    let within = done_within claim target in
    let is = stands.done_is in
    omega (arith, whole, within, is, high)
