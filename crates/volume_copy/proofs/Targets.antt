-- How a target comes from one image to another while a volume is copied to it.
use Rattle.std.proofs.Common.{◌≡◌, ◌⊎◌, inl, inr, ◌≤◌, ◌<◌, ◌+◌, ◌-◌, ◌*◌, ◌++◌, ℕ, Bool, true, false, cond, List, length, take, drop, Option, Some, None, refl, sym, ◌∙◌, ap, subst, arith}
use Rattle.std.specs.Prelude.{slice_range}
use Rattle.std.proofs.lemmas.Bool.{cases_eq, cases_lt}
use Rattle.std.proofs.lemmas.List.{take-take, take_at}
use Rattle.ckd_track.specs.declared.rec.Rec.{Rec}
use Rattle.ckd_track.specs.Images.{image}
use Rattle.ckd_track.specs.SlotPlaces.{slot_end, slot_place}
use Rattle.crash_plant.specs.Bytes.{patched, Torn}
use Rattle.crash_plant.proofs.BehindGates.{torn_again}
use Rattle.crash_plant.proofs.Patches.{torn_more, torn_twice}
use Rattle.copy_progress.specs.declared.claim.Claim.{Claim}
use Rattle.copy_progress.specs.declared.progress.Progress.{Progress}
use Rattle.copy_progress.specs.Copies.{counts_for, done, done_by}
use Rattle.copy_progress.specs.Laws.{IsToldBehindFront, IsOfFront}
use Rattle.copy_progress.specs.Slots.{Clears, NotesNext, OldOrNext, free_progress_place, is_second_slot_free, leading_progress, progress_place}
use Rattle.copy_progress.proofs.Telling.{clearing, front_chosen, later_keep, next_tells, writes_keep}
use Rattle.volume_copy.specs.Targets.{AreCopied, CopiesTo, IsCopyOf, KeepsRests, SameFront, WritesTargetSlots, written_length}
use Rattle.volume_copy.proofs.Ranges.{front_less, range_front, range_inner, range_none, range_rest, rest_less, torn_beside, written_after}

-- ---- a track's copy

-- It is told by its slot.
pub copy_same : (t : Option (List Rec)) (x : ℕ) (b c : List ℕ) → slice_range c (slot_place x) (slot_end x) ≡ slice_range b (slot_place x) (slot_end x) → IsCopyOf t b x → IsCopyOf t c x
copy_same (Some recs) x b c same copied = ap (λ (l : List ℕ). take (length (image recs)) l) same ∙ copied
copy_same None x b c same copied = tt

-- the copy's slot after a write of an image
pub copy_written : (recs : List Rec) (x : ℕ) (b c : List ℕ) → length (image recs) ≤ 57344 → slot_end x ≤ length b → c ≡ patched (slot_place x) (image recs) b → IsCopyOf (Some recs) c x
copy_written recs x b c short fits is =
    let n = length (image recs) in
    let size : slot_end x - slot_place x ≡ n + (57344 - n) = omega (arith, short) in
    ap (λ (k : ℕ). take n (take k (drop (slot_place x) c))) size
    ∙ ap (λ (l : List ℕ). take n (take (n + (57344 - n)) l)) (ap (λ (l : List ℕ). drop (slot_place x) l) is ∙ written_after (slot_place x) (image recs) b (omega (arith, fits)))
    ∙ front n (57344 - n) (image recs) (drop (slot_place x + n) b) refl
  where
    front : (n m : ℕ) (s r : List ℕ) → length s ≡ n → take n (take (n + m) (s ++ r)) ≡ s
    front n m s r size = take-take n (n + m) (s ++ r) (omega arith) ∙ take_at s r n size

-- A write of an image tears no more than its slot.
pub torn_slot : (p q n : ℕ) (b c : List ℕ) → p ≡ q → n ≤ 57344 → Torn p n b c → Torn q 57344 b c
torn_slot p q n b c at short torn =
    let size : n + (57344 - n) ≡ 57344 = omega (arith, short) in
    subst (λ (k : ℕ). Torn k 57344 b c) at (subst (λ (m : ℕ). Torn p m b c) size (torn_more p n (57344 - n) b c torn))

-- So many slots were written, and then the next one.
pub torn_next : (first count x : ℕ) (a b c : List ℕ) → x ≡ first + count → Torn (slot_place first) (count * 57344) a b → Torn (slot_place x) 57344 b c → Torn (slot_place first) ((count + 1) * 57344) a c
torn_next first count x a b c at one two =
    let place : slot_place x ≡ slot_place first + count * 57344 = omega (arith, at) in
    let size : count * 57344 + 57344 ≡ (count + 1) * 57344 = omega arith in
    subst (λ (n : ℕ). Torn (slot_place first) n a c) size (torn_twice (slot_place first) (count * 57344) 57344 a b c one (subst (λ (p : ℕ). Torn p 57344 b c) place two))

pub torn_same : (p n : ℕ) (b c : List ℕ) → c ≡ b → Torn p n b c
torn_same p n b c is = record { before = ap (λ (l : List ℕ). take p l) is; after = ap (λ (l : List ℕ). drop (p + n) l) is; size = ap length is }

-- the same range, told by other numbers
pub torn_at : (p q n m : ℕ) (b c : List ℕ) → p ≡ q → n ≡ m → Torn p n b c → Torn q m b c
torn_at p q n m b c at size torn = subst (λ (k : ℕ). Torn k m b c) at (subst (λ (k : ℕ). Torn p k b c) size torn)

-- ---- what is written of slots

module _ (content : ℕ → Option (List Rec)) where
  pub writes_same : (p n : ℕ) (b c : List ℕ) → c ≡ b → WritesTargetSlots content p n b c
  writes_same p n b c is = record { torn = torn_same p n b c is; rests = λ x. ap (λ (l : List ℕ). slice_range l (slot_place x + written_length (content x)) (slot_end x)) is }

  pub writes_again : (p n : ℕ) (a b c : List ℕ) → WritesTargetSlots content p n a b → WritesTargetSlots content p n b c → WritesTargetSlots content p n a c
  writes_again p n a b c x y = record { torn = torn_again p n a b c x.torn y.torn; rests = λ k. y.rests k ∙ x.rests k }

  -- A write of the content's image leaves the rest of its slot, and the other slots.
  pub writes_slot : (x : ℕ) (recs : List Rec) (b c : List ℕ) → content x ≡ Some recs → length (image recs) ≤ 57344 → Torn (slot_place x) (length (image recs)) b c → WritesTargetSlots content (slot_place x) 57344 b c
  writes_slot x recs b c held short torn = record { torn = torn_slot (slot_place x) (slot_place x) (length (image recs)) b c refl short torn; rests = rest }
    where
      before : (y from : ℕ) → y < x → slice_range c from (slot_end y) ≡ slice_range b from (slot_end y)
      before y from early = elim (cases_lt (slot_end y) from) [
        | inl past ↦ range_none from (slot_end y) b c (omega (arith, past))
        | inr up ↦ range_front (slot_place x) from (slot_end y) b c torn.before up (omega (arith, early))
      ]

      place : (y : ℕ) → x ≤ y → slot_place x + length (image recs) ≤ slot_place y + written_length (content y)
      place y from = elim (cases_eq x y) [
        | inl is ↦ let size : written_length (content y) ≡ length (image recs) = ap written_length (ap content (sym is) ∙ held) in omega (arith, is, size)
        | inr differs ↦ omega (arith, from, differs, short)
      ]

      rest : KeepsRests content b c
      rest y = elim (cases_lt y x) [
        | inl early ↦ before y (slot_place y + written_length (content y)) early
        | inr from ↦ range_rest (slot_place x + length (image recs)) (slot_place y + written_length (content y)) (slot_end y) b c torn.after (place y from)
      ]

-- A slot beside those that are written stays a copy.
pub copy_beside : (t : Option (List Rec)) (x first count : ℕ) (b c : List ℕ) → Torn (slot_place first) (count * 57344) b c → (x < first) ⊎ (first + count ≤ x) → IsCopyOf t b x → IsCopyOf t c x
copy_beside t x first count b c torn (inl before) copied = copy_same t x b c (torn_beside (slot_place first) (count * 57344) (slot_place x) (slot_end x) b c torn (omega arith) (inl (omega (arith, before)))) copied
copy_beside t x first count b c torn (inr after) copied = copy_same t x b c (torn_beside (slot_place first) (count * 57344) (slot_place x) (slot_end x) b c torn (omega arith) (inr (omega (arith, after)))) copied

module _ (content : ℕ → Option (List Rec)) where
  abbrev pub IsCopied : List ℕ → ℕ → Type 0
  IsCopied t x = IsCopyOf (content x) t x

  pub told_behind : IsToldBehindFront IsCopied
  told_behind b c x same copied = copy_same (content x) x b c (range_rest 512 (slot_place x) (slot_end x) b c same (omega arith)) copied

  pub of_front : IsOfFront IsCopied slot_place
  of_front b c x next below same copied = copy_same (content x) x b c (range_front (slot_place next) (slot_place x) (slot_end x) b c same (omega arith) (omega (arith, below))) copied

  -- ---- steps

  module _ (claim : Claim) where
    pub copies_here : (b c : List ℕ) → c ≡ b → CopiesTo claim content b c
    copies_here b c is = record {
      size = ap length is;
      front = record { label = ap (λ (l : List ℕ). take 16 l) is; between = ap (λ (l : List ℕ). slice_range l 59 80) is; behind = ap (λ (l : List ℕ). slice_range l 123 512) is };
      more = omega (arith, ap (done claim) is);
      copied = λ so. subst (λ (l : List ℕ). AreCopied claim content l) (sym is) so;
      before = ap (λ (l : List ℕ). slice_range l 512 (slot_place (done claim b))) is;
      later = ap (λ (l : List ℕ). drop (slot_place (done claim c + 15)) l) is;
      behind = ap (λ (l : List ℕ). drop (slot_place claim.tracks) l) is;
      rests = λ x. ap (λ (l : List ℕ). slice_range l (slot_place x + written_length (content x)) (slot_end x)) is;
    }

    pub copies_then : (a b c : List ℕ) → CopiesTo claim content a b → CopiesTo claim content b c → CopiesTo claim content a c
    copies_then a b c x y =
        let up = x.more in
        let more = y.more in
        record {
          size = y.size ∙ x.size;
          front = record { label = y.front.label ∙ x.front.label; between = y.front.between ∙ x.front.between; behind = y.front.behind ∙ x.front.behind };
          more = omega (arith, up, more);
          copied = λ so. y.copied (x.copied so);
          before = range_inner 512 (slot_place (done claim b)) 512 (slot_place (done claim a)) b c y.before (omega arith) (omega arith) (omega (arith, up)) ∙ x.before;
          later = y.later ∙ rest_less (slot_place (done claim b + 15)) (slot_place (done claim c + 15)) a b (omega (arith, more)) x.later;
          behind = y.behind ∙ x.behind;
          rests = λ n. y.rests n ∙ x.rests n;
        }

    -- the front is the same up to a place from the first slot on
    front_same : (b c : List ℕ) → take 512 c ≡ take 512 b → SameFront b c
    front_same b c same = record { label = front_less 16 512 b c (omega arith) same; between = range_front 512 59 80 b c same (omega arith) (omega arith); behind = range_front 512 123 512 b c same (omega arith) (omega arith) }

    -- The tracks of the next cylinder are written.
    module _ (k : ℕ) (within : 15 * (k + 1) ≤ claim.tracks) (b c : List ℕ) (at : done claim b ≡ 15 * k) (torn : Torn (slot_place (15 * k)) 860160 b c) where
      front_is : take 512 c ≡ take 512 b
      front_is = front_less 512 (slot_place (15 * k)) b c (omega arith) torn.before

      pub done_still : done claim c ≡ done claim b
      done_still = ap (done_by claim) (front_chosen b c front_is)

      next_same : drop (slot_place (15 * k + 15)) c ≡ drop (slot_place (15 * k + 15)) b
      next_same = ap (λ (p : ℕ). drop p c) place ∙ torn.after ∙ ap (λ (p : ℕ). drop p b) (sym place)
        where
          place : slot_place (15 * k + 15) ≡ slot_place (15 * k) + 860160
          place = omega arith

      pub before_same : take (slot_place (done claim b)) c ≡ take (slot_place (done claim b)) b
      before_same = ap (λ (n : ℕ). take (slot_place n) c) at ∙ torn.before ∙ ap (λ (n : ℕ). take (slot_place n) b) (sym at)

      pub still_copied : AreCopied claim content b → AreCopied claim content c
      still_copied so = (writes_keep IsCopied claim b c (later_keep IsCopied slot_place (done claim b) b c of_front (omega arith) before_same) so).1

      pub copies_torn : KeepsRests content b c → CopiesTo claim content b c
      copies_torn rests = record {
        size = torn.size;
        front = front_same b c front_is;
        more = omega (arith, done_still);
        copied = still_copied;
        before = range_front (slot_place (done claim b)) 512 (slot_place (done claim b)) b c before_same (omega arith) (omega arith);
        later = rest_less (slot_place (15 * k + 15)) (slot_place (done claim c + 15)) b c (omega (arith, done_still, at)) next_same;
        behind = rest_less (slot_place (15 * k + 15)) (slot_place claim.tracks) b c (omega (arith, within)) next_same;
        rests = rests;
      }

    -- One slot of the progress may differ.
    slot_front : (second : Bool) (b c : List ℕ) → Torn (progress_place second) 43 b c → SameFront b c
    slot_front true b c torn = record { label = front_less 16 80 b c (omega arith) torn.before; between = range_front 80 59 80 b c torn.before (omega arith) (omega arith); behind = range_rest 123 123 512 b c torn.after (omega arith) }
    slot_front false b c torn = record { label = torn.before; between = range_rest 59 59 80 b c torn.after (omega arith); behind = range_rest 59 123 512 b c torn.after (omega arith) }

    slot_behind : (second : Bool) (b c : List ℕ) → Torn (progress_place second) 43 b c → drop 512 c ≡ drop 512 b
    slot_behind true b c torn = rest_less 123 512 b c (omega arith) torn.after
    slot_behind false b c torn = rest_less 59 512 b c (omega arith) torn.after

    -- The next progress is put once the cylinder's tracks are copied.
    module _ (k : ℕ) (within : 15 * (k + 1) ≤ claim.tracks) (value : Progress) (is_counted : counts_for claim value ≡ true) (next_is : value.next ≡ 15 * (k + 1)) (b now : List ℕ) (at : done claim b ≡ 15 * k) (torn : Torn (slot_place (15 * k)) 860160 b now) (rests : KeepsRests content b now)
        (all : (x : ℕ) → 15 * k ≤ x → x < 15 * (k + 1) → IsCopyOf (content x) now x) where
      abbrev second : Bool
      second = is_second_slot_free (leading_progress (drop 16 now)) (leading_progress (drop 80 now))

      still : done claim now ≡ done claim b
      still = done_still k within b now at torn

      module _ (c : List ℕ) (step : OldOrNext value (free_progress_place now) now c) where
        behind_same : drop 512 c ≡ drop 512 now
        behind_same = slot_behind second now c step.elsewhere

        all_of : AreCopied claim content b → (x : ℕ) → x < value.next → IsCopied now x
        all_of so x below = elim (cases_lt x (15 * k)) [
          | inl early ↦ still_copied k within b now at torn so x (omega (arith, early, still, at))
          | inr late ↦ all x late (omega (arith, below, next_is))
        ]

        tells : AreCopied claim content b → AreCopied claim content c
        tells so = (next_tells IsCopied claim value second now c told_behind is_counted step (still_copied k within b now at torn so) (all_of so)).1

        done_cases : (done claim c ≡ done claim now) ⊎ (done claim c ≡ value.next)
        done_cases = elim step.chosen [
          | inl same ↦ inl (ap (done_by claim) same)
          | inr new ↦ inr (ap (done_by claim) new ∙ ap (λ (is : Bool). cond is value.next 0) is_counted)
        ]

        pub copies_put : CopiesTo claim content b c
        copies_put =
            let first = copies_torn k within b now at torn rests in
            let front = slot_front second now c step.elsewhere in
            let up : 15 * k ≤ done claim c = elim done_cases [ inl same ↦ omega (arith, same, still, at) | inr new ↦ omega (arith, new, next_is) ] in
            record {
              size = step.elsewhere.size ∙ torn.size;
              front = record { label = front.label ∙ first.front.label; between = front.between ∙ first.front.between; behind = front.behind ∙ first.front.behind };
              more = omega (arith, up, at);
              copied = tells;
              before = range_rest 512 512 (slot_place (done claim b)) now c behind_same (omega arith) ∙ first.before;
              later = rest_less 512 (slot_place (done claim c + 15)) now c (omega arith) behind_same ∙ rest_less (slot_place (done claim now + 15)) (slot_place (done claim c + 15)) b now (omega (arith, up, still, at)) first.later;
              behind = rest_less 512 (slot_place claim.tracks) now c (omega arith) behind_same ∙ first.behind;
              rests = λ x. range_rest 512 (slot_place x + written_length (content x)) (slot_end x) now c behind_same (omega arith) ∙ first.rests x;
            }

      pub copies_noted : (mid c : List ℕ) → CopiesTo claim content b mid → NotesNext value now mid c → CopiesTo claim content b c
      copies_noted mid c so_far notes = elim notes [
        | inl same ↦ subst (λ (l : List ℕ). CopiesTo claim content b l) (sym same) so_far
        | inr step ↦ copies_put c step
      ]

    -- Gates are closed where nothing is done.
    pub copies_cleared : (b c : List ℕ) → done claim b ≡ 0 → Clears b c → CopiesTo claim content b c
    copies_cleared b c none step =
        let still : done claim c ≡ 0 = clearing claim b c step none in
        let rest : drop 512 c ≡ drop 512 b = rest_less 81 512 b c (omega arith) step.behind in
        record {
          size = step.size;
          front = record { label = step.before; between = range_inner 17 80 59 80 b c step.between (omega arith) (omega arith) (omega arith); behind = range_rest 81 123 512 b c step.behind (omega arith) };
          more = omega (arith, none);
          copied = λ so x below. absurd (omega (arith, below, still));
          before = range_rest 512 512 (slot_place (done claim b)) b c rest (omega arith);
          later = rest_less 512 (slot_place (done claim c + 15)) b c (omega arith) rest;
          behind = rest_less 512 (slot_place claim.tracks) b c (omega arith) rest;
          rests = λ x. range_rest 512 (slot_place x + written_length (content x)) (slot_end x) b c rest (omega arith);
        }
