-- What items say of a device's tracks, and what stands in the slots of which they have none.
use Rattle.std.proofs.Common.{◌≡◌, ◌⊎◌, inl, inr, ℕ, ◌+◌, ◌-◌, ◌*◌, cond, length, drop, length-drop, ◌≤◌, Bool, true, false, ◌==◌, ◌&&◌, ◌||◌, not, nat_lt, List, [], ◌∷◌, ◌++◌, Option, Some, refl, sym, ap, subst, ◌∙◌, arith}
use Rattle.std.specs.List.{list_any}
use Rattle.std.specs.Prelude.{unwrap_or}
use Rattle.std.proofs.lemmas.Bool.{and_parts, cases_lt, eqb-true, leb-true}
use Rattle.std.proofs.lemmas.List.{take_all, drop_all}
use Rattle.ckd_track.specs.declared.rec.Rec.{Rec}
use Rattle.ckd_track.specs.Effects.{apply}
use Rattle.ckd_track.specs.Images.{image_at}
use Rattle.ckd_track.specs.SlotPlaces.{slot_place, slot_end, slot_track, track_read}
use Rattle.crash_plant.specs.declared.device.Device.TheVariants.{Volume}
use Rattle.crash_plant.specs.Moments.{PlantState}
use Rattle.xrc_journal.specs.Bodies.{draws, have_image}
use Rattle.xrc_journal.specs.Contents.{HasItem, content_by, content_through, is_of_track}
use Rattle.xrc_journal.specs.Items.{AreItems, Earlier, Item, are_items_after, earlier_after, earlier_after_all, form_of, is_drawn, is_item, is_within, none_earlier}
use Rattle.xrc_journal.specs.Items.Item.{Image, Delta, Pair, Gone}
use Rattle.xrc_journal.proofs.ItemsAgain.{image_rules}
use Rattle.applier.specs.Slots.{DiffersInSlots}
use Rattle.applier.proofs.Contents.{same_slot}
use Rattle.applier.proofs.InSlots.{slots_apart}
use Rattle.site_store.specs.Jobs.{has_device, is_of_device}

-- ---- tracks and devices

track_device : (device x : ℕ) (i : Item) → is_of_track device x i ≡ true → is_of_device device i ≡ true
track_device device x (Image d y recs) is = (and_parts (d == device) (y == x) is).0
track_device device x (Delta d y kind) is = (and_parts (d == device) (y == x) is).0
track_device device x (Pair version row) is = absurd cc
track_device device x (Gone d) is = absurd cc

-- A track with an item is one of a device with one.
pub item_device : (device x : ℕ) (items : List Item) → HasItem device x items → has_device device items ≡ true
item_device device x [] has = absurd cc
item_device device x (i ∷ items) has = by_first (is_of_track device x i) refl (is_of_device device i) refl (λ later. item_device device x items later) has
  where
    by_first : (t : Bool) → is_of_track device x i ≡ t → (d : Bool) → is_of_device device i ≡ d → (HasItem device x items → has_device device items ≡ true) → (t || list_any (is_of_track device x) items) ≡ true → (d || has_device device items) ≡ true
    by_first t is true of rest has = refl
    by_first true is false of rest has = let e = track_device device x i is in absurd (cc (e, of))
    by_first false is false of rest has = rest has

pub no_items : (device x : ℕ) (items : List Item) → has_device device items ≡ false → ¬ HasItem device x items
no_items device x items none has = let e = item_device device x items has in absurd (cc (e, none))

-- whether a track has an item
pub item_cases : (device x : ℕ) (items : List Item) → HasItem device x items ⊎ ¬ HasItem device x items
item_cases device x items = by_test (list_any (is_of_track device x) items) refl
  where
    by_test : (b : Bool) → list_any (is_of_track device x) items ≡ b → HasItem device x items ⊎ ¬ HasItem device x items
    by_test true is = inl is
    by_test false is = inr (λ has. absurd (cc (has, is)))

-- A track with an image has an item.
drawn_item : (device x : ℕ) (items : List Item) (earlier : Earlier) → is_drawn (earlier_after_all items earlier).drawn device x ≡ true → HasItem device x items ⊎ (is_drawn earlier.drawn device x ≡ true)
drawn_item device x [] earlier is = inr is
drawn_item device x (Image d y recs ∷ items) earlier is = elim (drawn_item device x items (earlier_after (Image d y recs) earlier) is) [
  | inl has ↦ inl (right (d == device && y == x) (list_any (is_of_track device x) items) has)
  | inr now ↦ by_test (d == device && y == x) refl now
]
  where
    right : (a b : Bool) → b ≡ true → (a || b) ≡ true
    right true b e = refl
    right false b e = e

    by_test : (b : Bool) → (d == device && y == x) ≡ b → (b || is_drawn earlier.drawn device x) ≡ true → ((d == device && y == x) || list_any (is_of_track device x) items) ≡ true ⊎ (is_drawn earlier.drawn device x ≡ true)
    by_test true is now = inl (λ i. is i || list_any (is_of_track device x) items)
    by_test false is now = inr now
drawn_item device x (Delta d y kind ∷ items) earlier is = elim (drawn_item device x items earlier is) [
  | inl has ↦ inl (right (d == device && y == x) (list_any (is_of_track device x) items) has)
  | inr now ↦ inr now
]
  where
    right : (a b : Bool) → b ≡ true → (a || b) ≡ true
    right true b e = refl
    right false b e = e
drawn_item device x (Pair version row ∷ items) earlier is = drawn_item device x items (earlier_after (Pair version row) earlier) is
drawn_item device x (Gone d ∷ items) earlier is = drawn_item device x items (earlier_after (Gone d) earlier) is

pub image_item : (device x : ℕ) (items : List Item) → have_image items device x ≡ true → HasItem device x items
image_item device x items is = elim (drawn_item device x items none_earlier is) [
  | inl has ↦ has
  | inr now ↦ absurd cc
]

-- ---- items that keep the rules of a plant

-- Their tracks' slots lie in its volumes, and they are images.
item_room : (plant : PlantState) (earlier : Earlier) (device x : ℕ) (i : Item) → is_item (form_of plant) earlier i ≡ true → is_of_track device x i ≡ true → (slot_end x ≤ plant.lengths (Volume device)) × (draws device x i ≡ true)
item_room plant earlier device x (Image d y recs) keeps is =
    let rules = image_rules (form_of plant) earlier d y recs keeps in
    let slot = (and_parts ((form_of plant).has_slot d y) (not (is_drawn earlier.drawn d y)) rules.drawable).0 in
    let within = leb-true (512 + y * 57344 + 57344) (plant.lengths (Volume d)) (and_parts (nat_lt d plant.volumes) (is_within (plant.lengths (Volume d)) y) slot).1 in
    let same = and_parts (d == device) (y == x) is in
    (subst (λ (n : ℕ). slot_end n ≤ plant.lengths (Volume device)) (eqb-true y x same.1) (subst (λ (n : ℕ). slot_end y ≤ plant.lengths (Volume n)) (eqb-true d device same.0) within), is)
item_room plant earlier device x (Delta d y kind) keeps is = absurd cc
item_room plant earlier device x (Pair version row) keeps is = absurd cc
item_room plant earlier device x (Gone d) keeps is = absurd cc

rooms : (plant : PlantState) (earlier : Earlier) (device x : ℕ) (items : List Item) → are_items_after (form_of plant) earlier items ≡ true → HasItem device x items → (slot_end x ≤ plant.lengths (Volume device)) × (list_any (draws device x) items ≡ true)
rooms plant earlier device x [] keep has = absurd cc
rooms plant earlier device x (i ∷ items) keep has =
    let parts = and_parts (is_item (form_of plant) earlier i) (are_items_after (form_of plant) (earlier_after i earlier) items) keep in
    by_first (is_of_track device x i) refl parts.0 (λ later. rooms plant (earlier_after i earlier) device x items parts.1 later) has
  where
    left : (a b : Bool) → a ≡ true → (a || b) ≡ true
    left true b e = refl
    left false b e = absurd cc

    right : (a b : Bool) → b ≡ true → (a || b) ≡ true
    right true b e = refl
    right false b e = e

    by_first : (t : Bool) → is_of_track device x i ≡ t → is_item (form_of plant) earlier i ≡ true → (HasItem device x items → (slot_end x ≤ plant.lengths (Volume device)) × (list_any (draws device x) items ≡ true)) → (t || list_any (is_of_track device x) items) ≡ true
        → (slot_end x ≤ plant.lengths (Volume device)) × (list_any (draws device x) (i ∷ items) ≡ true)
    by_first true is keeps rest has = let one = item_room plant earlier device x i keeps is in (one.0, left (draws device x i) (list_any (draws device x) items) one.1)
    by_first false is keeps rest has = let more = rest has in (more.0, right (draws device x i) (list_any (draws device x) items) more.1)

pub room_of : (plant : PlantState) (device x : ℕ) (items : List Item) → AreItems (form_of plant) items → HasItem device x items → slot_end x ≤ plant.lengths (Volume device)
room_of plant device x items keep has = (rooms plant none_earlier device x items keep has).0

pub draws_of : (plant : PlantState) (device x : ℕ) (items : List Item) → AreItems (form_of plant) items → HasItem device x items → list_any (draws device x) items ≡ true
draws_of plant device x items keep has = (rooms plant none_earlier device x items keep has).1

-- ---- what they leave of a track

content_by_none : (device x : ℕ) (t : Option (List Rec)) (i : Item) → is_of_track device x i ≡ false → content_by device x t i ≡ t
content_by_none device x t (Image d y recs) none = λ n. cond (none n) (Some recs) t
content_by_none device x t (Delta d y kind) none = λ n. cond (none n) (Some (apply (unwrap_or t []) kind)) t
content_by_none device x t (Pair version row) none = refl
content_by_none device x t (Gone d) none = refl

-- Items of other tracks leave a track.
pub content_none : (device x : ℕ) (items : List Item) (t : Option (List Rec)) → ¬ HasItem device x items → content_through device x items t ≡ t
content_none device x [] t none = refl
content_none device x (i ∷ items) t none = by_first (is_of_track device x i) refl none (λ others. content_none device x items t others)
  where
    by_first : (b : Bool) → is_of_track device x i ≡ b → ¬ ((b || list_any (is_of_track device x) items) ≡ true) → (¬ HasItem device x items → content_through device x items t ≡ t) → content_through device x items (content_by device x t i) ≡ t
    by_first true is none rest = absurd (none refl)
    by_first false is none rest = ap (λ (o : Option (List Rec)). content_through device x items o) (content_by_none device x t i is) ∙ rest none

pub content_append : (device x : ℕ) (xs ys : List Item) (t : Option (List Rec)) → content_through device x (xs ++ ys) t ≡ content_through device x ys (content_through device x xs t)
content_append device x [] ys t = refl
content_append device x (i ∷ xs) ys t = content_append device x xs ys (content_by device x t i)

-- A slot without an item keeps its track.
pub track_kept : (device x : ℕ) (items : List Item) (b c : List ℕ) → DiffersInSlots device items b c → ¬ HasItem device x items → slot_track c x ≡ slot_track b x
track_kept device x items b c differs none = elim (cases_lt (length b) (slot_end x)) [
  | inr whole ↦ same_slot x b c whole (differs.others (slot_place x) (slot_end x) (omega arith) (λ y has. slots_apart device x y (λ e. none (subst (λ (n : ℕ). HasItem device n items) e has))))
  | inl cut ↦ ap (λ (l : List ℕ). track_read (image_at l)) (elim (cases_lt (length b) (slot_place x)) [
    | inl past ↦ drop_all (slot_place x) c (omega (arith, past, differs.size)) ∙ sym (drop_all (slot_place x) b (omega (arith, past)))
    | inr from ↦
        let rest = differs.others (slot_place x) (length b) from (λ y has. elim (slots_apart device x y (λ e. none (subst (λ (n : ℕ). HasItem device n items) e has))) [ inl before ↦ inl (omega (arith, before, cut)) | inr after ↦ inr after ]) in
        sym (take_all (length b - slot_place x) (drop (slot_place x) c) (omega (arith, length-drop (slot_place x) c, differs.size))) ∙ rest ∙ take_all (length b - slot_place x) (drop (slot_place x) b) (omega (arith, length-drop (slot_place x) b))
  ])
]
