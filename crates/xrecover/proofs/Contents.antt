-- What the items of records, applied one record after another, leave in the slots of a volume.
use Rattle.std.proofs.Common.{◌≡◌, ◌⊎◌, inl, inr, ◌≤◌, ◌+◌, ◌-◌, ◌==◌, ◌&&◌, ◌||◌, ◌++◌, ℕ, Bool, true, false, cond, List, [], ◌∷◌, length, drop, Option, Some, None, refl, sym, ◌∙◌, ap, subst, arith, length-drop}
use Rattle.std.specs.Prelude.{slice_range, unwrap_or}
use Rattle.std.specs.List.{list_any}
use Rattle.std.proofs.lemmas.Bool.{and_parts, cases_lt}
use Rattle.std.proofs.lemmas.List.{take_all, drop_all}
use Rattle.ckd_track.specs.declared.rec.Rec.{Rec}
use Rattle.ckd_track.specs.Effects.{apply}
use Rattle.ckd_track.specs.Tracks.{IsTrack}
use Rattle.ckd_track.specs.Images.{image, image_at}
use Rattle.ckd_track.specs.SlotPlaces.{slot_place, slot_end, slot_track, track_read}
use Rattle.ckd_track.proofs.Parts.{length-image}
use Rattle.crash_plant.specs.Moments.{PlantState}
use Rattle.xrc_journal.specs.Items.{AreItems, Item, Earlier, earlier_after, form_of, is_item, are_items_after, none_earlier}
use Rattle.xrc_journal.specs.Items.Item.{Image, Delta, Pair, Gone}
use Rattle.xrc_journal.specs.Contents.{HasItem, content_by, content_through, is_of_track}
use Rattle.xrc_journal.proofs.ItemsAgain.{image_rules}
use Rattle.applier.specs.Slots.{BeginsWithTrack, DiffersInSlots, HoldsContent}
use Rattle.applier.proofs.Ranges.{range_part}
use Rattle.applier.proofs.Contents.{same_slot}
use Rattle.applier.proofs.InSlots.{has_either, slots_apart}
use Rattle.xrecover.specs.RedoneVolumes.{Draws, Redoes}

-- ---- content

content_by_none : (device x : ℕ) (t : Option (List Rec)) (i : Item) → is_of_track device x i ≡ false → content_by device x t i ≡ t
content_by_none device x t (Image d y recs) none = λ n. cond (none n) (Some recs) t
content_by_none device x t (Delta d y kind) none = λ n. cond (none n) (Some (apply (unwrap_or t []) kind)) t
content_by_none device x t (Pair version row) none = refl
content_by_none device x t (Gone d) none = refl

-- Items of other tracks leave a track.
pub content_none : (device x : ℕ) (items : List Item) (t : Option (List Rec)) → ¬ HasItem device x items → content_through device x items t ≡ t
content_none device x [] t none = refl
content_none device x (i ∷ items) t none = by_first (is_of_track device x i) refl none (λ others. content_none device x items t others)
  where
    by_first : (b : Bool) → is_of_track device x i ≡ b → ¬ ((b || list_any (is_of_track device x) items) ≡ true) → (¬ HasItem device x items → content_through device x items t ≡ t) → content_through device x items (content_by device x t i) ≡ t
    by_first true is none rest = absurd (none refl)
    by_first false is none rest = ap (λ (o : Option (List Rec)). content_through device x items o) (content_by_none device x t i is) ∙ rest none

content_append : (device x : ℕ) (xs ys : List Item) (t : Option (List Rec)) → content_through device x (xs ++ ys) t ≡ content_through device x ys (content_through device x xs t)
content_append device x [] ys t = refl
content_append device x (i ∷ xs) ys t = content_append device x xs ys (content_by device x t i)

-- whether a track has an item
pub item_cases : (device x : ℕ) (items : List Item) → HasItem device x items ⊎ ¬ HasItem device x items
item_cases device x items = by_test (list_any (is_of_track device x) items) refl
  where
    by_test : (b : Bool) → list_any (is_of_track device x) items ≡ b → HasItem device x items ⊎ ¬ HasItem device x items
    by_test true is = inl is
    by_test false is = inr (λ has. absurd (cc (has, is)))

-- ---- images that fit a slot

-- a track's image fits a slot
abbrev pub Short : Option (List Rec) → Type 0
Short (Some recs) = length (image recs) ≤ 57344
Short None = ⊥

module _ (plant : PlantState) (device x : ℕ) where
  one_short : (earlier : Earlier) (i : Item) (t : Option (List Rec)) → is_item (form_of plant) earlier i ≡ true → (is_of_track device x i ≡ true) ⊎ Short t → Short (content_by device x t i)
  one_short earlier (Image of y recs) t keeps has = by_test (of == device && y == x) refl has
    where
      by_test : (b : Bool) → (of == device && y == x) ≡ b → (b ≡ true) ⊎ Short t → Short (cond b (Some recs) t)
      by_test true is has = let are : IsTrack recs = (image_rules (form_of plant) earlier of y recs keeps).are in omega (arith, length-image recs are)
      by_test false is (inl mine) = absurd cc
      by_test false is (inr short) = short
  one_short earlier (Delta of y kind) t keeps has = absurd cc
  one_short earlier (Pair version row) t keeps (inl mine) = absurd cc
  one_short earlier (Pair version row) t keeps (inr short) = short
  one_short earlier (Gone of) t keeps (inl mine) = absurd cc
  one_short earlier (Gone of) t keeps (inr short) = short

  all_short : (earlier : Earlier) (items : List Item) (t : Option (List Rec)) → are_items_after (form_of plant) earlier items ≡ true → HasItem device x items ⊎ Short t → Short (content_through device x items t)
  all_short earlier [] t keep (inl none) = absurd cc
  all_short earlier [] t keep (inr short) = short
  all_short earlier (i ∷ items) t keep has =
      let parts = and_parts (is_item (form_of plant) earlier i) (are_items_after (form_of plant) (earlier_after i earlier) items) keep in
      all_short (earlier_after i earlier) items (content_by device x t i) parts.1 (by_first (is_of_track device x i) refl has parts.0)
    where
      by_first : (mine : Bool) → is_of_track device x i ≡ mine → ((mine || list_any (is_of_track device x) items) ≡ true) ⊎ Short t → is_item (form_of plant) earlier i ≡ true → HasItem device x items ⊎ Short (content_by device x t i)
      by_first true is has keeps = inr (one_short earlier i t keeps (inl is))
      by_first false is (inl more) keeps = inl more
      by_first false is (inr short) keeps = inr (one_short earlier i t keeps (inr short))

-- ---- the slots that were not written

begins_same : (x : ℕ) (v w : List ℕ) (t : Option (List Rec)) → slice_range w (slot_place x) (slot_end x) ≡ slice_range v (slot_place x) (slot_end x) → Short t → BeginsWithTrack v x t → BeginsWithTrack w x t
begins_same x v w (Some recs) same short begins = range_part (slot_place x) (slot_end x) (length (image recs)) v w same (omega (arith, short)) ∙ begins
begins_same x v w None same short begins = begins

-- The slot of a track without an item is the same.
slot_kept : (device x : ℕ) (items : List Item) (b c : List ℕ) → DiffersInSlots device items b c → ¬ HasItem device x items → slice_range c (slot_place x) (slot_end x) ≡ slice_range b (slot_place x) (slot_end x)
slot_kept device x items b c differs none = differs.others (slot_place x) (slot_end x) (omega arith) (λ y has. slots_apart device x y (λ e. none (subst (λ (n : ℕ). HasItem device n items) e has)))

-- The same where a label may be written, too, and it holds the same track.
pub track_kept : (device x : ℕ) (items : List Item) (b c : List ℕ) → Redoes device items b c → ¬ HasItem device x items → slot_track c x ≡ slot_track b x
track_kept device x items b c differs none = elim (cases_lt (length b) (slot_end x)) [
  | inr whole ↦ same_slot x b c whole (differs.others (slot_place x) (slot_end x) (omega arith) (omega arith) (λ y has. apart y has))
  | inl cut ↦ ap (λ (l : List ℕ). track_read (image_at l)) (elim (cases_lt (length b) (slot_place x)) [
    | inl past ↦ drop_all (slot_place x) c (omega (arith, past, differs.size)) ∙ sym (drop_all (slot_place x) b (omega (arith, past)))
    | inr from ↦
        let rest = differs.others (slot_place x) (length b) (omega arith) from (λ y has. elim (apart y has) [ inl before ↦ inl (omega (arith, before, cut)) | inr after ↦ inr after ]) in
        sym (take_all (length b - slot_place x) (drop (slot_place x) c) (omega (arith, length-drop (slot_place x) c, differs.size))) ∙ rest ∙ take_all (length b - slot_place x) (drop (slot_place x) b) (omega (arith, length-drop (slot_place x) b))
  ])
]
  where
    apart : (y : ℕ) → HasItem device y items → (slot_end x ≤ slot_place y) ⊎ (slot_end y ≤ slot_place x)
    apart y has = slots_apart device x y (λ e. none (subst (λ (n : ℕ). HasItem device n items) e has))

-- A label leaves what slots begin with.
begins_after : (device x : ℕ) (b c : List ℕ) (t : Option (List Rec)) → Redoes device [] b c → BeginsWithTrack b x t → BeginsWithTrack c x t
begins_after device x b c (Some recs) differs begins = differs.others (slot_place x) (slot_place x + length (image recs)) (omega arith) (omega arith) (λ y none. absurd cc) ∙ begins
begins_after device x b c None differs begins = begins

pub draws_after : (device : ℕ) (items : List Item) (a b c : List ℕ) → Draws device items a b → Redoes device [] b c → Draws device items a c
draws_after device items a b c draws differs x has = begins_after device x b c (content_through device x items (slot_track a x)) differs (draws x has)

-- ---- record after record

-- The items so far lie in the bytes, and each slot holds, and begins with, what they leave of its track.
pub record Done (device : ℕ) (items : List Item) (b c : List ℕ) : Type 0 where
  pub size : length c ≡ length b
  pub room : (x : ℕ) → HasItem device x items → slot_end x ≤ length b
  pub content : (x : ℕ) → slot_end x ≤ length b → slot_track c x ≡ content_through device x items (slot_track b x)
  pub begins : (x : ℕ) → HasItem device x items → BeginsWithTrack c x (content_through device x items (slot_track b x))
  pub short : (x : ℕ) → HasItem device x items → Short (content_through device x items (slot_track b x))

pub done_none : (device : ℕ) (b : List ℕ) → Done device [] b b
done_none device b = record {
  size = refl;
  room = λ x none. absurd cc;
  content = λ x within. refl;
  begins = λ x none. absurd cc;
  short = λ x none. absurd cc;
}

module _ (plant : PlantState) (device : ℕ) (xs ys : List Item) (a b c : List ℕ) (done : Done device xs a b) (keep : AreItems (form_of plant) ys) (room : (x : ℕ) → HasItem device x ys → slot_end x ≤ length a)
    (differs : DiffersInSlots device ys b c) (holds : HoldsContent device ys b c) where
  abbrev pub both : (x : ℕ) → Option (List Rec)
  both x = content_through device x (xs ++ ys) (slot_track a x)

  within : (x : ℕ) → HasItem device x (xs ++ ys) → slot_end x ≤ length a
  within x has = elim (has_either device x xs ys has) [ inl before ↦ done.room x before | inr now ↦ room x now ]

  parts : (x : ℕ) → slot_end x ≤ length a → content_through device x ys (slot_track b x) ≡ both x
  parts x fits = ap (λ (t : Option (List Rec)). content_through device x ys t) (done.content x fits) ∙ sym (content_append device x xs ys (slot_track a x))

  alone : (x : ℕ) → ¬ HasItem device x ys → content_through device x xs (slot_track a x) ≡ both x
  alone x none = sym (content_append device x xs ys (slot_track a x) ∙ content_none device x ys (content_through device x xs (slot_track a x)) none)

  before : (x : ℕ) → HasItem device x (xs ++ ys) → ¬ HasItem device x ys → HasItem device x xs
  before x has none = elim (has_either device x xs ys has) [ inl first ↦ first | inr now ↦ absurd (none now) ]

  begins_now : (x : ℕ) → HasItem device x (xs ++ ys) → BeginsWithTrack c x (both x)
  begins_now x has = elim (item_cases device x ys) [
    | inl now ↦ subst (λ (t : Option (List Rec)). BeginsWithTrack c x t) (parts x (within x has)) (holds.begins x now (λ none. absurd cc))
    | inr none ↦
        let first = before x has none in
        subst (λ (t : Option (List Rec)). BeginsWithTrack c x t) (alone x none) (begins_same x b c (content_through device x xs (slot_track a x)) (slot_kept device x ys b c differs none) (done.short x first) (done.begins x first))
  ]

  short_now : (x : ℕ) → HasItem device x (xs ++ ys) → Short (both x)
  short_now x has = elim (item_cases device x ys) [
    | inl now ↦ subst (λ (t : Option (List Rec)). Short t) (parts x (within x has)) (all_short plant device x none_earlier ys (slot_track b x) keep (inl now))
    | inr none ↦ subst (λ (t : Option (List Rec)). Short t) (alone x none) (done.short x (before x has none))
  ]

  pub done_then : Done device (xs ++ ys) a c
  done_then = record {
    size = differs.size ∙ done.size;
    room = within;
    content = λ x fits. holds.content x (omega (arith, fits, done.size)) (λ none. absurd cc) ∙ parts x fits;
    begins = begins_now;
    short = short_now;
  }
