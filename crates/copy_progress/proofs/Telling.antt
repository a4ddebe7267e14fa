-- What is done and copied while calls work on a target.
use Rattle.std.proofs.Common.{nat_le, nat_eq, ◌*◌, ◌≡◌, inl, inr, ℕ, ◌+◌, ◌<◌, Bool, true, false, cond, List, take, drop, Option, Some, refl, sym, ap, ◌∙◌, arith, subst}
use Rattle.std.proofs.lemmas.Bool.{leb-false, ne_eqb}
use Rattle.std.proofs.lemmas.List.{take-take, drop-drop, drop-take}
use Rattle.crash_plant.specs.Bytes.{Torn}
use Rattle.copy_progress.specs.declared.progress.Progress.{Progress}
use Rattle.copy_progress.specs.declared.claim.Claim.{Claim}
use Rattle.copy_progress.specs.Copies.{counts_for, done, done_by, IsCopiedSoFar}
use Rattle.copy_progress.specs.Laws.{ClearingDoesNothing, NextTellsTheCopied, WritesKeepTheDone, LaterWritesKeep, NotedAreCopied}
use Rattle.copy_progress.specs.Slots.{greater_of, chosen_progress, progress_place, leading_progress, is_second_slot_free}
use Rattle.copy_progress.proofs.Reading.{same_slot}

-- The chosen progress is told by the front.
front_slot : (p n : ℕ) (b c : List ℕ) → p + 43 + n ≡ 512 → take 512 c ≡ take 512 b → take 43 (drop p c) ≡ take 43 (drop p b)
front_slot p n b c fits same = part c ∙ ap (λ (l : List ℕ). take 43 (drop p l)) same ∙ sym (part b)
  where
    part : (l : List ℕ) → take 43 (drop p l) ≡ take 43 (drop p (take 512 l))
    part l =
        let whole : p + (43 + n) ≡ 512 = omega (arith, fits) in
        sym (take-take 43 (43 + n) (drop p l) (omega arith)) ∙ ap (λ (k : List ℕ). take 43 k) (sym (drop-take p (43 + n) l) ∙ ap (λ (m : ℕ). drop p (take m l)) whole)

pub front_chosen : (b c : List ℕ) → take 512 c ≡ take 512 b → chosen_progress c ≡ chosen_progress b
front_chosen b c same =
    ap (λ (s : Option Progress). greater_of s (leading_progress (drop 80 c))) (same_slot (drop 16 b) (drop 16 c) (front_slot 16 453 b c refl same))
    ∙ ap (λ (s : Option Progress). greater_of (leading_progress (drop 16 b)) s) (same_slot (drop 80 b) (drop 80 c) (front_slot 80 389 b c refl same))

pub writes_keep : WritesKeepTheDone
writes_keep is_copied claim b c writes copied =
    let same : done claim c ≡ done claim b = ap (done_by claim) (front_chosen b c writes.front) in
    (same, λ x below. let there : x < done claim b = omega (arith, below, same) in writes.before x there (copied x there))

-- Behind the front nothing changed.
tracks_stay : (second : Bool) (b c : List ℕ) → Torn (progress_place second) 43 b c → drop 512 c ≡ drop 512 b
tracks_stay true b c torn = sym (drop-drop 389 123 c) ∙ ap (λ (l : List ℕ). drop 389 l) torn.after ∙ drop-drop 389 123 b
tracks_stay false b c torn = sym (drop-drop 453 59 c) ∙ ap (λ (l : List ℕ). drop 453 l) torn.after ∙ drop-drop 453 59 b

counted : (claim : Claim) (value : Progress) → counts_for claim value ≡ true → done_by claim (Some value) ≡ value.next
counted claim value is = ap (λ (b : Bool). cond b value.next 0) is

pub next_tells : NextTellsTheCopied
next_tells is_copied claim value second b c of_tracks is step copied all =
    let behind = tracks_stay second b c step.elsewhere in
    elim step.chosen [
      | inl same ↦
          let done_is : done claim c ≡ done claim b = ap (done_by claim) same in
          (inl done_is, λ x below. of_tracks b c x behind (copied x (omega (arith, below, done_is))))
      | inr new ↦
          let done_is : done claim c ≡ value.next = ap (done_by claim) new ∙ counted claim value is in
          (inr done_is, λ x below. of_tracks b c x behind (all x (omega (arith, below, done_is))))
    ]

pub clearing : ClearingDoesNothing
clearing claim b c step none = elim step.chosen [
  | inl same ↦ ap (done_by claim) same ∙ none
  | inr cleared ↦ ap (done_by claim) cleared
]

-- A number above its next track isn't in step.
pub too_great : (number next : ℕ) → nat_le number next ≡ false → nat_eq (15 * number) next ≡ false
too_great number next is = ne_eqb (15 * number) next (λ e. absurd (omega (arith, e, leb-false number next is)))

pub later_keep : LaterWritesKeep
later_keep is_copied place_of next b c of_front long same = record {
  front = sym (take-take 512 (place_of next) c long) ∙ ap (λ (l : List ℕ). take 512 l) same ∙ take-take 512 (place_of next) b long;
  before = λ x below copied. of_front b c x next below same copied;
}

pub noted_are : NotedAreCopied
noted_are is_copied claim value now b c of_tracks is notes so_far now_so_far all = elim notes [
  | inl same ↦ subst (λ (l : List ℕ). IsCopiedSoFar is_copied claim l) (sym same) so_far
  | inr step ↦ (next_tells is_copied claim value (is_second_slot_free (leading_progress (drop 16 now)) (leading_progress (drop 80 now))) now c of_tracks is step now_so_far all).1
]
