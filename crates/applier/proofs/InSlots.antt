-- Which slots items may change, and that changes add up.
use Rattle.std.proofs.Common.{◌≡◌, ◌⊎◌, inl, inr, ◌≤◌, ◌<◌, ◌++◌, ℕ, Bool, true, false, ◌||◌, List, [], ◌∷◌, refl, sym, ◌∙◌, arith}
use Rattle.std.specs.List.{list_any}
use Rattle.std.proofs.lemmas.Bool.{or_cases, cases_lt}
use Rattle.std.proofs.lemmas.List.Folds.{list_any-append}
use Rattle.ckd_track.specs.SlotPlaces.{slot_place, slot_end}
use Rattle.crash_plant.specs.Bytes.{Torn}
use Rattle.xrc_journal.specs.Items.{Item}
use Rattle.xrc_journal.specs.Contents.{HasItem, is_of_track}
use Rattle.applier.specs.Slots.{DiffersInSlots}
use Rattle.applier.proofs.Ranges.{torn_apart}

or_left : (a b : Bool) → a ≡ true → (a || b) ≡ true
or_left true b e = refl
or_left false b e = absurd cc

or_right : (a b : Bool) → b ≡ true → (a || b) ≡ true
or_right true b e = refl
or_right false b e = e

module _ (device : ℕ) where
  pub has_before : (x : ℕ) (a b : List Item) → HasItem device x a → HasItem device x (a ++ b)
  has_before x a b has = list_any-append (is_of_track device x) a b ∙ or_left (list_any (is_of_track device x) a) (list_any (is_of_track device x) b) has

  pub has_after : (x : ℕ) (a b : List Item) → HasItem device x b → HasItem device x (a ++ b)
  has_after x a b has = list_any-append (is_of_track device x) a b ∙ or_right (list_any (is_of_track device x) a) (list_any (is_of_track device x) b) has

  pub has_either : (x : ℕ) (a b : List Item) → HasItem device x (a ++ b) → HasItem device x a ⊎ HasItem device x b
  has_either x a b has = or_cases (list_any (is_of_track device x) a) (list_any (is_of_track device x) b) (sym (list_any-append (is_of_track device x) a b) ∙ has)

  -- of one item, and of more
  pub has_first : (x : ℕ) (i : Item) (more : List Item) → HasItem device x (i ∷ []) → HasItem device x (i ∷ more)
  has_first x i more has = has_before x (i ∷ []) more has

  pub has_more : (x : ℕ) (i : Item) (more : List Item) → HasItem device x more → HasItem device x (i ∷ more)
  has_more x i more has = has_after x (i ∷ []) more has

  pub has_split : (x : ℕ) (i : Item) (more : List Item) → HasItem device x (i ∷ more) → HasItem device x (i ∷ []) ⊎ HasItem device x more
  has_split x i more has = has_either x (i ∷ []) more has

  -- Nothing differs.
  pub differs_here : (items : List Item) (b : List ℕ) → DiffersInSlots device items b b
  differs_here items b = record { size = refl; others = λ from to up apart. refl }

  -- Slots of more items may differ.
  pub differs_before : (items more : List Item) (b c : List ℕ) → DiffersInSlots device items b c → DiffersInSlots device (items ++ more) b c
  differs_before items more b c d = record { size = d.size; others = λ from to up apart. d.others from to up (λ x has. apart x (has_before x items more has)) }

  -- One change after another.
  pub differs_then : (items more : List Item) (a b c : List ℕ) → DiffersInSlots device items a b → DiffersInSlots device more b c → DiffersInSlots device (items ++ more) a c
  differs_then items more a b c d e = record {
    size = e.size ∙ d.size;
    others = λ from to up apart. e.others from to up (λ x has. apart x (has_after x items more has)) ∙ d.others from to up (λ x has. apart x (has_before x items more has));
  }

  -- a write into the slot of an item's track
  pub torn_differs : (y n : ℕ) (i : Item) (b c : List ℕ) → HasItem device y (i ∷ []) → n ≤ 57344 → Torn (slot_place y) n b c → DiffersInSlots device (i ∷ []) b c
  torn_differs y n i b c has short torn = record {
    size = torn.size;
    others = λ from to up apart. torn_apart (slot_place y) n from to b c torn up (elim (apart y has) [
      | inl before ↦ inl before
      | inr after ↦ inr (omega (arith, after, short))
    ]);
  }

  -- The slot of another track is apart.
  pub slots_apart : (x y : ℕ) → (y ≡ x → ⊥) → (slot_end x ≤ slot_place y) ⊎ (slot_end y ≤ slot_place x)
  slots_apart x y other = elim (cases_lt x y) [
    | inl less ↦ inl (omega (arith, less))
    | inr from ↦
        let more : y < x = elim (cases_lt y x) [
          | inl less ↦ less
          | inr le ↦ absurd (other (omega (arith, from, le)))
        ] in
        inr (omega (arith, more))
  ]
