-- What the record of a group leaves of the content of tracks.
use Rattle.std.proofs.Common.{◌≡◌, ℕ, ◌<◌, ◌==◌, ◌&&◌, ◌||◌, Bool, true, false, cond, List, [], ◌∷◌, ◌++◌, Option, Some, append-nil, refl, sym, ap, ◌∙◌}
use Rattle.std.specs.Prelude.{not}
use Rattle.std.specs.List.{list_all, list_any}
use Rattle.std.proofs.lemmas.Bool.{not-false, or_parts}
use Rattle.ckd_track.specs.declared.rec.Rec.{Rec}
use Rattle.ckd_track.specs.SlotPlaces.{slot_track}
use Rattle.crash_plant.specs.declared.device.Device.TheVariants.{Volume}
use Rattle.crash_plant.specs.Choices.{Choice, IsChoice}
use Rattle.crash_plant.specs.Moments.{PlantState}
use Rattle.pair_table.specs.declared.row.PairRow.{PairRow}
use Rattle.pending_queue.specs.Groups.{FormedGroup}
use Rattle.image_former.specs.Entries.{is_entry_on}
use Rattle.image_former.specs.Forms.{is_image}
use Rattle.image_former.proofs.Changing.{changed_none}
use Rattle.xrc_journal.specs.Contents.{content_by, content_through, is_of_track}
use Rattle.xrc_journal.specs.Items.{Item}
use Rattle.xrc_journal.specs.Items.Item.{Image, Delta, Pair, Gone}
use Rattle.record_rows.specs.Deeds.{Deed}
use Rattle.record_rows.specs.Deeds.Deed.{Logged}
use Rattle.site_store.specs.Deeds.{content_by_deed, kinds_of, means_by_deed, with_time_and_rows}
use Rattle.site_store.specs.Exceptions.{Exceptions, excepted_by_deed, is_kept, is_whole_on}
use Rattle.site_store.proofs.Contents.{same_by_deed}
use Rattle.site_means.specs.Laws.{with_group}
use Rattle.site_means.specs.Sight.{content_of, walked_by}
use Rattle.site_means.specs.Walk.{rows_through, walk_items}
use Rattle.site_store.specs.Logging.{AreItemsOf, is_pair_item}
use Rattle.site_store.specs.Recording.{group_with}
use Rattle.site_store.specs.Sites.{SiteState, has_failed, meant_for}
use Rattle.site_store.specs.Standing.{SiteStands}
use Rattle.site_store.proofs.RecordPairsFit.{image_rows}
use Rattle.site_store.proofs.RecordDeeds.{LeavesContent}

-- ---- items

through_append : (d x : ℕ) (xs ys : List Item) (old : Option (List Rec)) → content_through d x (xs ++ ys) old ≡ content_through d x ys (content_through d x xs old)
through_append d x [] ys old = refl
through_append d x (i ∷ xs) ys old = through_append d x xs ys (content_by d x old i)

-- Pairs change no content.
pairs_still : (d x : ℕ) (items : List Item) (old : Option (List Rec)) → list_all is_pair_item items ≡ true → content_through d x items old ≡ old
pairs_still d x [] old are = refl
pairs_still d x (Pair version row ∷ items) old are = pairs_still d x items old are
pairs_still d x (Image e y recs ∷ items) old are = absurd cc
pairs_still d x (Delta e y kind ∷ items) old are = absurd cc
pairs_still d x (Gone e ∷ items) old are = absurd cc

-- Without an image of a track its content stays.
images_still : (d x : ℕ) (items : List Item) (old : Option (List Rec)) → list_all is_image items ≡ true → list_any (is_of_track d x) items ≡ false → content_through d x items old ≡ old
images_still d x [] old are none = refl
images_still d x (Delta e y kind ∷ items) old are none = absurd cc
images_still d x (Pair version row ∷ items) old are none = absurd cc
images_still d x (Gone e ∷ items) old are none = absurd cc
images_still d x (Image e y recs ∷ items) old are none =
    let parts = or_parts (e == d && y == x) (list_any (is_of_track d x) items) none in
    ap (λ (b : Bool). content_through d x items (cond b (Some recs) old)) parts.0 ∙ images_still d x items old are parts.1

-- With one it doesn't depend on what stood there.
images_draw : (d x : ℕ) (items : List Item) (old new : Option (List Rec)) → list_all is_image items ≡ true → list_any (is_of_track d x) items ≡ true → content_through d x items old ≡ content_through d x items new
images_draw d x [] old new are some = absurd cc
images_draw d x (Delta e y kind ∷ items) old new are some = absurd cc
images_draw d x (Pair version row ∷ items) old new are some = absurd cc
images_draw d x (Gone e ∷ items) old new are some = absurd cc
images_draw d x (Image e y recs ∷ items) old new are some = by_first (e == d && y == x) some (λ more. images_draw d x items old new are more)
  where
    by_first : (b : Bool) → (b || list_any (is_of_track d x) items) ≡ true → (list_any (is_of_track d x) items ≡ true → content_through d x items old ≡ content_through d x items new)
        → content_through d x items (cond b (Some recs) old) ≡ content_through d x items (cond b (Some recs) new)
    by_first true one more = refl
    by_first false one more = more one

whole_of : (excepted whole : Bool) → excepted ≡ true → (excepted && not whole) ≡ false → whole ≡ true
whole_of true true is none = refl
whole_of true false is none = absurd cc
whole_of false whole is none = absurd cc

-- ---- a group

module _ (tells : Type 0) (group : FormedGroup) (site : SiteState) (after : List PairRow) (plant : PlantState) (items : List Item) (are : AreItemsOf tells group site.failed site.told after plant items) where
  abbrev pub logged_deed : Deed
  logged_deed = Logged group.cut.0 group.entries after

  -- The items lead from the rows on the devices to those after the record.
  pub items_lead : rows_through items site.told ≡ after
  items_lead = ap (λ (l : List Item). rows_through l site.told) are.parts ∙ image_rows are.images are.pairs site.told are.are_images ∙ are.lead

  -- The group's record means what the deed leaves.
  pub logged_means : means_by_deed (meant_for site) logged_deed ≡ with_group (group_with group.cut.0 items) (meant_for site)
  logged_means = ap (λ (rows : List PairRow). with_time_and_rows group.cut.0 rows (meant_for site)) (sym items_lead)

  by_images : (d x : ℕ) (old : Option (List Rec)) → content_through d x items old ≡ content_through d x are.images old
  by_images d x old = ap (λ (l : List Item). content_through d x l old) are.parts ∙ through_append d x are.images are.pairs old ∙ pairs_still d x are.pairs (content_through d x are.images old) are.are_pairs

  no_image : (d x : ℕ) → list_any (is_entry_on site.told d x) group.entries ≡ false → list_any (is_of_track d x) are.images ≡ false
  no_image d x none = by_image (list_any (is_of_track d x) are.images) refl
    where
      by_image : (b : Bool) → list_any (is_of_track d x) are.images ≡ b → list_any (is_of_track d x) are.images ≡ false
      by_image true has = let entry = ((are.tracks d x).0 has).0 in absurd (cc (entry, none))
      by_image false not = not

  module _ (told : tells) (e : Exceptions) (stands : SiteStands e site plant) (idle : site.waiting ≡ []) (read : IsChoice plant plant.clock plant.bytes) (good : (d : ℕ) → is_kept d after ≡ true → has_failed site d ≡ false) where
    done_all : stands.done ≡ walk_items stands.walk
    done_all = sym (append-nil stands.done) ∙ sym (ap (λ (l : List Item). stands.done ++ l) idle) ∙ sym stands.items

    -- A track that isn't excepted has in what reads give the content of its slot.
    read_content : (d x : ℕ) → d < plant.volumes → has_failed site d ≡ false → e d x ≡ false → content_of plant plant.bytes d x ≡ slot_track (plant.bytes (Volume d)) x
    read_content d x lt fine kept =
        ap (λ (l : List Item). content_through d x l (slot_track (plant.bytes (Volume d)) x)) (ap walked_by (stands.meant plant.bytes read) ∙ sym done_all)
        ∙ sym (stands.applied d lt fine x kept)

    module _ (b : Choice) (here : IsChoice plant plant.clock b) (d x : ℕ) (lt : d < plant.volumes) (kept : excepted_by_deed site.told logged_deed e d x ≡ false) where
      abbrev Comes : Type 0
      Comes = (a : Choice) × IsChoice plant plant.clock a × (content_through d x items (content_of plant b d x) ≡ content_by_deed d x site.told logged_deed (content_of plant a d x))

      abbrev slot : Option (List Rec)
      slot = slot_track (plant.bytes (Volume d)) x

      parts : (not (is_kept d after) ≡ false) × ((e d x && not (list_any (is_whole_on site.told d x) group.entries)) ≡ false)
      parts = or_parts (not (is_kept d after)) (e d x && not (list_any (is_whole_on site.told d x) group.entries)) kept

      fine : has_failed site d ≡ false
      fine = good d (not-false (is_kept d after) parts.0)

      by_entry : list_any (is_entry_on site.told d x) group.entries ≡ true → content_through d x items (content_of plant b d x) ≡ content_by_deed d x site.told logged_deed slot
      by_entry has = by_images d x (content_of plant b d x) ∙ images_draw d x are.images (content_of plant b d x) slot are.are_images ((are.tracks d x).1 (has, fine)) ∙ are.content told d x lt fine has

      by_excepted : (excepted : Bool) → e d x ≡ excepted → list_any (is_entry_on site.told d x) group.entries ≡ true → Comes
      by_excepted true is has = (b, here, by_entry has ∙ same_by_deed d x site.told logged_deed slot (content_of plant b d x) (whole_of (e d x) (list_any (is_whole_on site.told d x) group.entries) is parts.1))
      by_excepted false is has = (plant.bytes, read, by_entry has ∙ ap (λ (t : Option (List Rec)). content_by_deed d x site.told logged_deed t) (sym (read_content d x lt fine is)))

      by_has : (has : Bool) → list_any (is_entry_on site.told d x) group.entries ≡ has → Comes
      by_has true has = by_excepted (e d x) refl has
      by_has false none = (
        b,
        here,
        by_images d x (content_of plant b d x)
            ∙ images_still d x are.images (content_of plant b d x) are.are_images (no_image d x none)
            ∙ sym (changed_none (is_entry_on site.told d x) group.entries (kinds_of group.entries) (content_of plant b d x) none),
      )

      comes : Comes
      comes = by_has (list_any (is_entry_on site.told d x) group.entries) refl

    -- The items leave of each track what the entries do.
    pub group_leaves : LeavesContent e site.told logged_deed (meant_for site) stands.walk (group_with group.cut.0 items) plant stands.meant logged_means
    group_leaves b here d x lt kept = comes b here d x lt kept
