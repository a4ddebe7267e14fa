-- What a choice of a crash shows while a mark is made, over plain states.
use Rattle.std.proofs.Common.{◌≡◌, ◌≢◌, ◌⊎◌, inl, inr, ℕ, ◌-◌, ◌^◌, ◌≤◌, ◌<◌, ◌&&◌, not, Bool, true, false, cond, List, [], ◌∷◌, ◌++◌, Option, Some, refl, sym, ap, subst, ◌∙◌, arith}
use Rattle.std.specs.Prelude.{option_map, unwrap_or}
use Rattle.std.specs.List.{list_any}
use Rattle.ckd_track.specs.declared.rec.Rec.{Rec}
use Rattle.ckd_track.specs.Effects.{apply}
use Rattle.ckd_track.specs.SlotPlaces.{slot_track}
use Rattle.crash_plant.specs.declared.device.Device.TheVariants.{Journal, Volume}
use Rattle.crash_plant.specs.declared.spot.Spot.{Spot}
use Rattle.crash_plant.specs.Choices.{Choice, IsChoice}
use Rattle.crash_plant.specs.Moments.{IsDurable, PlantState, on}
use Rattle.control_set.specs.declared.value.Mark.{Mark}
use Rattle.control_set.specs.Slots.{lengths_of}
use Rattle.pair_table.specs.declared.row.PairRow.{PairRow}
use Rattle.pair_table.proofs.TableLaws.{either_false}
use Rattle.record_rows.specs.Deeds.{Deed}
use Rattle.record_rows.specs.Deeds.Deed.{Marked}
use Rattle.site_store.specs.RingLaws.{IsMarkedAtEnd, IsUntouched}
use Rattle.site_store.proofs.Meant.{mark_kept, marks_meant, untouched_shown}
use Rattle.site_store.specs.Deeds.{from_mark, means_by_deed}
use Rattle.site_store.specs.Exceptions.{Exceptions, excepted_by_deed, is_kept}
use Rattle.site_store.specs.Seeing.{MeansByDeed, MeansTheSame}
use Rattle.site_means.specs.declared.means.Means.{Means}
use Rattle.site_means.specs.Images.{shape_of}
use Rattle.site_means.specs.Meaning.{Meaning}
use Rattle.site_means.specs.Sight.{content_of, meant_by, walked_by}
use Rattle.site_means.specs.Walk.{Walk}
use Rattle.xrc_journal.specs.Contents.{content_by, content_through, is_of_track}
use Rattle.xrc_journal.specs.Items.{Item}
use Rattle.xrc_journal.specs.Items.Item.{Image, Delta, Pair, Gone}
use Rattle.site_store.specs.Marking.{PutsMark, excepted_with_waiting}
use Rattle.site_store.specs.Sites.{SiteState, has_failed, is_written, meant_for, next_mark}
use Rattle.site_store.specs.Standing.{SiteStands}

-- ---- the content of a track

through_append : (d x : ℕ) (xs ys : List Item) (old : Option (List Rec)) → content_through d x (xs ++ ys) old ≡ content_through d x ys (content_through d x xs old)
through_append d x [] ys old = refl
through_append d x (i ∷ xs) ys old = through_append d x xs ys (content_by d x old i)

-- An item of another track leaves the content.
other_item : (d x : ℕ) (i : Item) (old : Option (List Rec)) → is_of_track d x i ≡ false → content_by d x old i ≡ old
other_item d x (Image e y recs) old other = ap (λ (b : Bool). cond b (Some recs) old) other
other_item d x (Delta e y kind) old other = ap (λ (b : Bool). cond b (Some (apply (unwrap_or old []) kind)) old) other
other_item d x (Pair version row) old other = refl
other_item d x (Gone e) old other = refl

-- So do items of other tracks.
pub not_held : (d x : ℕ) (items : List Item) (old : Option (List Rec)) → list_any (is_of_track d x) items ≡ false → content_through d x items old ≡ old
not_held d x [] old none = refl
not_held d x (i ∷ items) old none =
    let parts = either_false (is_of_track d x i) (list_any (is_of_track d x) items) none in
    ap (λ (o : Option (List Rec)). content_through d x items o) (other_item d x i old parts.0) ∙ not_held d x items old parts.1

with_true : (b : Bool) → (b && true) ≡ false → b ≡ false
with_true true is = is
with_true false is = refl

-- A track that isn't excepted after a mark is of a device that its rows keep, and wasn't excepted before.
pub kept_by_mark : (told rows : List PairRow) (at : Spot) (ended : Bool) (e : Exceptions) (d x : ℕ) → excepted_by_deed told (Marked at ended rows) e d x ≡ false → (is_kept d rows ≡ true) × (e d x ≡ false)
kept_by_mark told rows at ended e d x kept =
    let parts = either_false (not (is_kept d rows)) (e d x && true) kept in
    (not_not (is_kept d rows) parts.0, with_true (e d x) parts.1)
  where
    not_not : (b : Bool) → not b ≡ false → b ≡ true
    not_not true is = refl
    not_not false is = cc

-- ---- one choice

-- What a mark's rows and the syncs before it are to the site: no device whose job has failed is kept, and each volume that was
-- written and whose job hasn't failed is durable.
pub record IsReady (site : SiteState) (rows : List PairRow) (plant : PlantState) : Type 0 where
  pub kept : (d : ℕ) → is_kept d rows ≡ true → has_failed site d ≡ false
  pub synced : (d : ℕ) → is_written site d ≡ true → has_failed site d ≡ false → IsDurable (on plant (Volume d))

module _ (e : Exceptions) (site : SiteState) (ended : Bool) (rows : List PairRow) (plant : PlantState) (stands : SiteStands e site plant) (low : site.mark.state_slot ≤ 1) (lt : site.mark.at.number < 2 ^ 64) where
  abbrev w : Walk
  w = stands.walk

  abbrev means : Means
  means = meant_for site

  abbrev m : Mark
  m = next_mark site ended

  abbrev deed : Deed
  deed = Marked site.at ended rows

  abbrev excepted : Exceptions
  excepted = excepted_with_waiting site e

  other_slot : site.mark.state_slot ≢ 1 - site.mark.state_slot
  other_slot is = omega (arith, low, is)

  -- The mark that counted still does.
  pub untouched : (b c : Choice) → IsChoice plant plant.clock b → PutsMark (lengths_of plant) plant.volumes m (record { level = site.level; rows = rows }) b c → (let x = shape_of plant in IsUntouched x w b c ⊎ IsMarkedAtEnd x means w m rows b c)
  untouched b c here puts = elim puts.chosen [
    | inl same ↦ inl (record {
      mark = mark_kept (shape_of plant) b c site.mark m.state_slot (stands.chosen b here) same low other_slot (λ session k first other. puts.state session k first other);
      journals = λ j has. puts.others (Journal j) (λ no. no);
      volumes = λ d. puts.others (Volume d) (λ no. no);
    })
    | inr new ↦ inr (record { chosen = new.0; stored = new.1; at = sym stands.at; session = refl; time = refl; same = puts.others (Journal w.at.set) (λ no. no) })
  ]

  pub same_seen : (b c : Choice) → IsChoice plant plant.clock b → IsUntouched (shape_of plant) w b c → MeansTheSame plant excepted b c
  same_seen b c here same =
      let shown = untouched_shown (shape_of plant) b c means w (stands.meant b here) same in
      record { means = ap meant_by shown.meant ∙ sym (ap meant_by (stands.meant b here)); content = λ d x there kept. shown.content d x }

  module _ (ready : IsReady site rows plant) where
    -- The slot of a track has its content, where no item waits for it and its device is kept.
    in_slot : (b : Choice) → IsChoice plant plant.clock b → (d x : ℕ) → d < plant.volumes → e d x ≡ false → list_any (is_of_track d x) site.waiting ≡ false → has_failed site d ≡ false
        → content_through d x stands.done (slot_track (b (Volume d)) x) ≡ slot_track (b (Volume d)) x
    in_slot b here d x there fine idle good = by_written (is_written site d) refl
      where
        by_held : (has : Bool) → list_any (is_of_track d x) stands.done ≡ has → is_written site d ≡ false → content_through d x stands.done (slot_track (b (Volume d)) x) ≡ slot_track (b (Volume d)) x
        by_held false none not = not_held d x stands.done (slot_track (b (Volume d)) x) none
        by_held true has not = elim (stands.unwritten d there not x has) [
          | inl failed ↦ cc
          | inr excepted ↦ cc
        ]

        by_written : (was : Bool) → is_written site d ≡ was → content_through d x stands.done (slot_track (b (Volume d)) x) ≡ slot_track (b (Volume d)) x
        by_written true was =
            let same : b (Volume d) ≡ plant.bytes (Volume d) = ready.synced d was good (b (Volume d)) (here (Volume d) there) in
            let applied = stands.applied d there good x fine in
            subst (λ (l : List ℕ). content_through d x stands.done (slot_track l x) ≡ slot_track l x) (sym same) (sym applied)
        by_written false not = by_held (list_any (is_of_track d x) stands.done) refl not

    content_before : (b : Choice) → IsChoice plant plant.clock b → (d x : ℕ) → d < plant.volumes → excepted_by_deed site.told deed excepted d x ≡ false → content_of plant b d x ≡ slot_track (b (Volume d)) x
    content_before b here d x there kept =
        let slot = slot_track (b (Volume d)) x in
        let by_mark = kept_by_mark site.told rows site.at ended excepted d x kept in
        let parts = either_false (e d x) (list_any (is_of_track d x) site.waiting) by_mark.1 in
        ap (λ (k : Meaning). content_through d x (walked_by k) slot) (stands.meant b here)
        ∙ ap (λ (l : List Item). content_through d x l slot) stands.items
        ∙ through_append d x stands.done site.waiting slot
        ∙ not_held d x site.waiting (content_through d x stands.done slot) parts.1
        ∙ in_slot b here d x there parts.0 parts.1 (ready.kept d by_mark.0)

    -- The new mark counts.
    pub mark_seen : (b c : Choice) → IsChoice plant plant.clock b → ((d : ℕ) → c (Volume d) ≡ b (Volume d)) → IsMarkedAtEnd (shape_of plant) means w m rows b c → MeansByDeed plant excepted site.told deed b c
    mark_seen b c here volumes marked =
        let from = marks_meant (shape_of plant) b c means w m rows (stands.meant b here) lt marked in
        record {
          means = ap meant_by from.meant ∙ ap (λ (s : Spot). Some (from_mark s ended rows means)) stands.at ∙ ap (option_map (λ (k : Means). means_by_deed k deed)) (sym (ap meant_by (stands.meant b here)));
          content = λ d x there kept. (b, here, from.content d x ∙ ap (λ (l : List ℕ). slot_track l x) (volumes d) ∙ sym (content_before b here d x there kept));
        }

    pub seen : (b c : Choice) → IsChoice plant plant.clock b → PutsMark (lengths_of plant) plant.volumes m (record { level = site.level; rows = rows }) b c → MeansTheSame plant excepted b c ⊎ MeansByDeed plant excepted site.told deed b c
    seen b c here puts = elim (untouched b c here puts) [
      | inl same ↦ inl (same_seen b c here same)
      | inr marked ↦ inr (mark_seen b c here (λ d. puts.others (Volume d) (λ no. no)) marked)
    ]
