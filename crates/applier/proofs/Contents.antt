-- What items written in turn leave in the slots.
use Rattle.std.proofs.Common.{◌≡◌, ◌⊎◌, inl, inr, ◌≤◌, ◌+◌, ◌-◌, ◌==◌, ◌&&◌, ◌||◌, ◌++◌, ℕ, Bool, true, false, cond, List, [], ◌∷◌, length, drop, Option, Some, None, Result, refl, sym, ◌∙◌, ap, subst, arith, length-take, length-drop}
use Rattle.std.specs.Prelude.{slice_range}
use Rattle.std.specs.List.{list_any}
use Rattle.std.proofs.lemmas.Bool.{eqb-true, eqb-false, and_parts}
use Rattle.ckd_track.specs.declared.rec.Rec.{Rec}
use Rattle.ckd_track.specs.Tracks.{IsTrack}
use Rattle.ckd_track.specs.Images.{image, image_at}
use Rattle.ckd_track.specs.SlotPlaces.{slot_place, slot_end, slot_track, track_read}
use Rattle.ckd_track.proofs.ImageLaws.{image_again}
use Rattle.ckd_track.proofs.Parts.{length-image}
use Rattle.ckd_track.proofs.SlotTracks.{after_is, image_same}
use Rattle.crash_plant.specs.Bytes.{patched, Torn}
use Rattle.crash_plant.proofs.Patches.{patched_torn}
use Rattle.xrc_journal.specs.Items.{Item, Earlier, anywhere, earlier_after, is_item, are_items_after}
use Rattle.xrc_journal.specs.Items.Item.{Image, Delta, Pair, Gone}
use Rattle.xrc_journal.specs.Contents.{HasItem, content_by, content_through, is_of_track}
use Rattle.xrc_journal.proofs.ItemsAgain.{image_rules}
use Rattle.applier.specs.Slots.{DiffersInSlots, BeginsWithTrack, HoldsContentBut, HoldsContent}
use Rattle.applier.specs.Writes.{written_by, written}
use Rattle.applier.proofs.Ranges.{torn_apart, written_after, range_written, range_part}
use Rattle.applier.proofs.InSlots.{has_first, has_more, differs_here, differs_then, torn_differs, slots_apart}
use Rattle.applier.proofs.Writing.{own_track}

-- A whole slot with the same bytes holds the same track.
pub same_slot : (x : ℕ) (v w : List ℕ) → slot_end x ≤ length v → slice_range w (slot_place x) (slot_end x) ≡ slice_range v (slot_place x) (slot_end x) → slot_track w x ≡ slot_track v x
same_slot x v w room same =
    let p = slot_place x in
    let q = slot_end x in
    let t = slice_range v p q in
    let long : 56670 ≤ length t = omega (arith, room, length-take (q - p) (drop p v), length-drop p v) in
    ap (λ (l : List ℕ). track_read (image_at l)) (after_is p q w ∙ ap (λ (l : List ℕ). l ++ drop (q - p) (drop p w)) same)
    ∙ image_same t (drop (q - p) (drop p w)) (drop (q - p) (drop p v)) long
    ∙ ap (λ (l : List ℕ). track_read (image_at l)) (sym (after_is p q v))

-- the slot begins with a track's image, which fits it
abbrev pub Begun : (volume : List ℕ) → (track : ℕ) → Option (List Rec) → Type 0
Begun volume x (Some recs) = (slice_range volume (slot_place x) (slot_place x + length (image recs)) ≡ image recs) × (length (image recs) ≤ 57344)
Begun volume x None = ⊥

begun_same : (x : ℕ) (v w : List ℕ) (t : Option (List Rec)) → slice_range w (slot_place x) (slot_end x) ≡ slice_range v (slot_place x) (slot_end x) → Begun v x t → Begun w x t
begun_same x v w (Some recs) same begun = (range_part (slot_place x) (slot_end x) (length (image recs)) v w same (omega (arith, begun.1)) ∙ begun.0, begun.1)
begun_same x v w None same begun = begun

pub begins_of : (x : ℕ) (v : List ℕ) (t : Option (List Rec)) → Begun v x t → BeginsWithTrack v x t
begins_of x v (Some recs) begun = begun.0
begins_of x v None begun = begun

module _ (device : ℕ) where
  -- the slots of the items' tracks lie in the bytes
  abbrev pub Room : List Item → (size : ℕ) → Type 0
  Room items size = (x : ℕ) → HasItem device x items → slot_end x ≤ size

  -- ---- one item

  module _ (earlier : Earlier) (of y : ℕ) (recs : List Rec) (b : List ℕ) (keeps : is_item anywhere earlier (Image of y recs) ≡ true) (here : (of == device) ≡ true) (room : slot_end y ≤ length b) where
    are : IsTrack recs
    are = (image_rules anywhere earlier of y recs keeps).are

    short : length (image recs) ≤ 57344
    short = omega (arith, length-image recs are)

    torn : Torn (slot_place y) (length (image recs)) b (patched (slot_place y) (image recs) b)
    torn = patched_torn (slot_place y) (image recs) b (patched (slot_place y) (image recs) b) (omega (arith, short, room)) refl

    put_differs : DiffersInSlots device (Image of y recs ∷ []) b (patched (slot_place y) (image recs) b)
    put_differs = torn_differs device y (length (image recs)) (Image of y recs) b (patched (slot_place y) (image recs) b) (own_track device of y recs here) short torn

    put_track : slot_track (patched (slot_place y) (image recs) b) y ≡ Some recs
    put_track = ap (λ (l : List ℕ). track_read (image_at l)) (written_after (slot_place y) (image recs) b (omega (arith, room)))
        ∙ ap (λ (r : Result _ _). track_read r) (image_again recs (drop (slot_place y + length (image recs)) b) are)

    put_begun : Begun (patched (slot_place y) (image recs) b) y (Some recs)
    put_begun = (range_written (slot_place y) (image recs) b (omega (arith, room)), short)

    put_else : (x : ℕ) → (y == x) ≡ false → slice_range (patched (slot_place y) (image recs) b) (slot_place x) (slot_end x) ≡ slice_range b (slot_place x) (slot_end x)
    put_else x other = torn_apart (slot_place y) (length (image recs)) (slot_place x) (slot_end x) b (patched (slot_place y) (image recs) b) torn (omega arith) (elim (slots_apart device x y (eqb-false y x other)) [
      | inl before ↦ inl before
      | inr after ↦ inr (omega (arith, after, short))
    ])

  -- what an item does to the bytes
  pub record Step (i : Item) (b c : List ℕ) : Type 0 where
    pub differs : DiffersInSlots device (i ∷ []) b c
    pub content : (x : ℕ) → slot_end x ≤ length b → slot_track c x ≡ content_by device x (slot_track b x) i
    pub own : (x : ℕ) (t : Option (List Rec)) → is_of_track device x i ≡ true → Begun c x (content_by device x t i)
    pub kept : (x : ℕ) (t : Option (List Rec)) → is_of_track device x i ≡ false → Begun b x t → Begun c x (content_by device x t i)

  image_step : (earlier : Earlier) (of y : ℕ) (recs : List Rec) (b : List ℕ) → is_item anywhere earlier (Image of y recs) ≡ true → Room (Image of y recs ∷ []) (length b)
      → (here : Bool) → (of == device) ≡ here → Step (Image of y recs) b (cond here (patched (slot_place y) (image recs) b) b)
  image_step earlier of y recs b keeps room true here = record {
    differs = put_differs earlier of y recs b keeps here there;
    content = λ x within. by_track x within (y == x) refl;
    own = λ x t mine. by_own x t (y == x) refl mine;
    kept = λ x t other begun. by_other x t (y == x) refl other begun;
  }
    where
      there : slot_end y ≤ length b
      there = room y (own_track device of y recs here)

      new : List ℕ
      new = patched (slot_place y) (image recs) b

      both : (x : ℕ) (same : Bool) → (y == x) ≡ same → (of == device && y == x) ≡ same
      both x same is = λ i. here i && is i

      by_track : (x : ℕ) → slot_end x ≤ length b → (same : Bool) → (y == x) ≡ same → slot_track (patched (slot_place y) (image recs) b) x ≡ content_by device x (slot_track b x) (Image of y recs)
      by_track x within true same =
          ap (λ (n : ℕ). slot_track (patched (slot_place y) (image recs) b) n) (sym (eqb-true y x same)) ∙ put_track earlier of y recs b keeps here there
          ∙ (λ i. cond (sym (both x true same) i) (Some recs) (slot_track b x))
      by_track x within false other =
          same_slot x b (patched (slot_place y) (image recs) b) within (put_else earlier of y recs b keeps here there x other)
          ∙ (λ i. cond (sym (both x false other) i) (Some recs) (slot_track b x))

      by_own : (x : ℕ) (t : Option (List Rec)) → (same : Bool) → (y == x) ≡ same → (of == device && y == x) ≡ true → Begun (patched (slot_place y) (image recs) b) x (content_by device x t (Image of y recs))
      by_own x t true same mine =
          subst (λ (a : Option (List Rec)). Begun (patched (slot_place y) (image recs) b) x a) (λ i. cond (sym mine i) (Some recs) t)
          (subst (λ (n : ℕ). Begun (patched (slot_place y) (image recs) b) n (Some recs)) (eqb-true y x same) (put_begun earlier of y recs b keeps here there))
      by_own x t false other mine = absurd (clash (sym mine ∙ both x false other))
        where
          clash : true ≡ false → ⊥
          clash e = cc

      by_other : (x : ℕ) (t : Option (List Rec)) → (same : Bool) → (y == x) ≡ same → (of == device && y == x) ≡ false → Begun b x t → Begun (patched (slot_place y) (image recs) b) x (content_by device x t (Image of y recs))
      by_other x t true same other begun = absurd (clash (sym (both x true same) ∙ other))
        where
          clash : true ≡ false → ⊥
          clash e = cc
      by_other x t false is other begun =
          subst (λ (a : Option (List Rec)). Begun (patched (slot_place y) (image recs) b) x a) (λ i. cond (sym other i) (Some recs) t)
          (begun_same x b (patched (slot_place y) (image recs) b) t (put_else earlier of y recs b keeps here there x is) begun)
  image_step earlier of y recs b keeps room false here = record {
    differs = differs_here device (Image of y recs ∷ []) b;
    content = λ x within. same x (slot_track b x);
    own = λ x t mine. absurd (clash (sym (none x) ∙ mine));
    kept = λ x t other begun. subst (λ (a : Option (List Rec)). Begun b x a) (same x t) begun;
  }
    where
      clash : false ≡ true → ⊥
      clash e = cc

      none : (x : ℕ) → (of == device && y == x) ≡ false
      none x = λ i. here i && (y == x)

      same : (x : ℕ) (t : Option (List Rec)) → t ≡ content_by device x t (Image of y recs)
      same x t = λ i. cond (sym (none x) i) (Some recs) t

  still_step : (i : Item) (b : List ℕ) → ((x : ℕ) → is_of_track device x i ≡ false) → ((x : ℕ) (t : Option (List Rec)) → t ≡ content_by device x t i) → Step i b b
  still_step i b none same = record {
    differs = differs_here device (i ∷ []) b;
    content = λ x within. same x (slot_track b x);
    own = λ x t mine. absurd (clash (sym (none x) ∙ mine));
    kept = λ x t other begun. subst (λ (a : Option (List Rec)). Begun b x a) (same x t) begun;
  }
    where
      clash : false ≡ true → ⊥
      clash e = cc

  pub item_step : (earlier : Earlier) (i : Item) (b : List ℕ) → is_item anywhere earlier i ≡ true → Room (i ∷ []) (length b) → Step i b (written_by device b i)
  item_step earlier (Image of y recs) b keeps room = image_step earlier of y recs b keeps room (of == device) refl
  item_step earlier (Delta of y kind) b keeps room = absurd cc
  item_step earlier (Pair version row) b keeps room = still_step (Pair version row) b (λ x. refl) (λ x t. refl)
  item_step earlier (Gone of) b keeps room = still_step (Gone of) b (λ x. refl) (λ x t. refl)

  -- ---- items in turn

  -- what items do to the bytes
  pub record Steps (items : List Item) (b c : List ℕ) : Type 0 where
    pub differs : DiffersInSlots device items b c
    pub content : (x : ℕ) → slot_end x ≤ length b → slot_track c x ≡ content_through device x items (slot_track b x)
    pub begun : (x : ℕ) (t : Option (List Rec)) → HasItem device x items ⊎ Begun b x t → Begun c x (content_through device x items t)

  pub items_steps : (earlier : Earlier) (items : List Item) (b : List ℕ) → are_items_after anywhere earlier items ≡ true → Room items (length b) → Steps items b (written device items b)
  items_steps earlier [] b keep room = record {
    differs = differs_here device [] b;
    content = λ x within. refl;
    begun = λ x t has. elim has [
      | inl none ↦ absurd (clash none)
      | inr begun ↦ begun
    ];
  }
    where
      clash : false ≡ true → ⊥
      clash e = cc
  items_steps earlier (i ∷ items) b keep room =
      let parts = and_parts (is_item anywhere earlier i) (are_items_after anywhere (earlier_after i earlier) items) keep in
      let one = item_step earlier i b parts.0 (λ x has. room x (has_first device x i items has)) in
      let b' = written_by device b i in
      let more = items_steps (earlier_after i earlier) items b' parts.1 (λ x has. omega (arith, room x (has_more device x i items has), one.differs.size)) in
      record {
        differs = differs_then device (i ∷ []) items b b' (written device items b') one.differs more.differs;
        content = λ x within. more.content x (omega (arith, within, one.differs.size)) ∙ ap (content_through device x items) (one.content x within);
        begun = λ x t has. more.begun x (content_by device x t i) (then x t (is_of_track device x i) refl one has);
      }
    where
      then : (x : ℕ) (t : Option (List Rec)) (mine : Bool) → is_of_track device x i ≡ mine → Step i b (written_by device b i) → HasItem device x (i ∷ items) ⊎ Begun b x t → HasItem device x items ⊎ Begun (written_by device b i) x (content_by device x t i)
      then x t true mine one has = inr (one.own x t mine)
      then x t false other one (inl has) = inl (sym (λ j. other j || list_any (is_of_track device x) items) ∙ has)
      then x t false other one (inr begun) = inr (one.kept x t other begun)

  -- ---- what a volume holds

  pub holds_all : (earlier : Earlier) (items : List Item) (b : List ℕ) → are_items_after anywhere earlier items ≡ true → Room items (length b) → HoldsContent device items b (written device items b)
  holds_all earlier items b keep room =
      let all = items_steps earlier items b keep room in
      record {
        content = λ x within but. all.content x within;
        begins = λ x has but. begins_of x (written device items b) (content_through device x items (slot_track b x)) (all.begun x (slot_track b x) (inl has));
      }

  -- also where the write of an item more failed
  pub holds_but : (earlier : Earlier) (items : List Item) (i : Item) (b c : List ℕ) → are_items_after anywhere earlier items ≡ true → Room items (length b) → DiffersInSlots device (i ∷ []) (written device items b) c
      → HoldsContentBut (i ∷ []) device items b c
  holds_but earlier items i b c keep room torn =
      let all = items_steps earlier items b keep room in
      record {
        content = λ x within other. same_slot x (written device items b) c (omega (arith, within, all.differs.size)) (slot_same x other) ∙ all.content x within;
        begins = λ x has other. begins_of x c (content_through device x items (slot_track b x))
            (begun_same x (written device items b) c (content_through device x items (slot_track b x)) (slot_same x other) (all.begun x (slot_track b x) (inl has)));
      }
    where
      slot_same : (x : ℕ) → (HasItem device x (i ∷ []) → ⊥) → slice_range c (slot_place x) (slot_end x) ≡ slice_range (written device items b) (slot_place x) (slot_end x)
      slot_same x other = torn.others (slot_place x) (slot_end x) (omega arith) (λ y has. slots_apart device x y (λ e. other (subst (λ (n : ℕ). HasItem device n (i ∷ [])) e has)))
