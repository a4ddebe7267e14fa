-- What is said of a body and of the jobs once all entries were turned into images.
use Rattle.std.proofs.Common.{◌≡◌, ◌≤◌, ◌+◌, ◌==◌, ◌&&◌, ◌||◌, ◌↔◌, ℕ, Bool, true, false, cond, List, [], ◌∷◌, Option, Some, None, refl, sym, ◌∙◌, ap, subst, arith, nat_lt, ◌^◌}
use Rattle.std.specs.Prelude.{not, unwrap_or, IsTrue}
use Rattle.std.specs.List.{All, AllZip, list_any, list_all}
use Rattle.std.proofs.lemmas.Bool.{and_parts, and_from, or_parts, both_ways, not-true, not_from_false, false_from_ne_true, eq-eqb}
use Rattle.std.proofs.lemmas.List.Elements.{All-head, All-tail}
use Rattle.crash_plant.specs.Moments.{Standing, SamePast, Follows, Same}
use Rattle.crash_plant.proofs.Steps.{kept_here, follows_here}
use Rattle.ckd_track.specs.declared.rec.Rec.{Rec}
use Rattle.ckd_track.specs.Tracks.{is_track}
use Rattle.ckd_track.specs.Effects.{apply}
use Rattle.ckd_track.specs.SlotPlaces.{slot_track}
use Rattle.xrc_journal.specs.declared.job.VolumeJob.{VolumeJob}
use Rattle.xrc_journal.specs.Items.{Item, Form, Earlier, anywhere, earlier_after, none_earlier, is_item, is_drawn, may_draw, are_items_after, AreItems}
use Rattle.xrc_journal.specs.Items.Item.{Image, Delta, Pair, Gone}
use Rattle.xrc_journal.specs.Contents.{HasItem, content_through, is_of_track}
use Rattle.xrc_journal.specs.Jobs.{FailsByCount, OnVolume}
use Rattle.pair_table.specs.declared.row.PairRow.{PairRow}
use Rattle.pending_queue.specs.Entries.{WaitingEntry}
use Rattle.image_former.specs.Entries.{is_entry_on, HasEntry}
use Rattle.image_former.specs.Changes.{changed_through}
use Rattle.image_former.specs.Jobs.{is_failed_of, HasFailed, OnVolumes}
use Rattle.image_former.specs.Forms.{is_image, StandFor, AreItemsWhereAllowed}
use Rattle.image_former.specs.Steps.{OnlyReadsDisk, GoesBy, OfBytes, StandForTracks, StandOnJob, AreFormed}
use Rattle.image_former.proofs.Lists.{zip_map}
use Rattle.image_former.proofs.Changing.{changed_none}
use Rattle.image_former.proofs.Going.{volume_map, volume_stays, stays_failed}

-- ---- items

-- Items of other tracks leave a track.
content_none : (device x : ℕ) (items : List Item) (old : Option (List Rec)) → list_any (is_of_track device x) items ≡ false → content_through device x items old ≡ old
content_none device x [] old none = refl
content_none device x (Image d y recs ∷ items) old none =
    let parts = or_parts (d == device && y == x) (list_any (is_of_track device x) items) none in
    ap (content_through device x items) (λ i. cond (parts.0 i) (Some recs) old) ∙ content_none device x items old parts.1
content_none device x (Delta d y kind ∷ items) old none =
    let parts = or_parts (d == device && y == x) (list_any (is_of_track device x) items) none in
    ap (content_through device x items) (λ i. cond (parts.0 i) (Some (apply (unwrap_or old []) kind)) old) ∙ content_none device x items old parts.1
content_none device x (Pair version row ∷ items) old none = content_none device x items old none
content_none device x (Gone d ∷ items) old none = content_none device x items old none

-- one of the rules of an item in the place of another
other_rule : (a b c m t n : Bool) → (a && b && c && m && t) ≡ true → (m ≡ true → n ≡ true) → (a && b && c && n && t) ≡ true
other_rule true true true true t n e then = (λ i. true && true && true && then refl i && t) ∙ e
other_rule true true true false t n e then = absurd cc
other_rule true true false m t n e then = absurd cc
other_rule true false c m t n e then = absurd cc
other_rule false b c m t n e then = absurd cc

may_too : (slot deltas drawn : Bool) → slot ≡ true → not drawn ≡ true → (slot && (deltas || not drawn)) ≡ true
may_too slot true drawn there free = λ i. there i && true
may_too slot false drawn there free = λ i. there i && free i

allowed_after : (form : Form) (earlier : Earlier) (items : List Item) → list_all is_image items ≡ true → ((device x : ℕ) → HasItem device x items → IsTrue (form.has_slot device x)) → are_items_after anywhere earlier items ≡ true
    → are_items_after form earlier items ≡ true
allowed_after form earlier [] all slots keep = refl
allowed_after form earlier (Image d x recs ∷ items) all slots keep =
    let parts = and_parts (is_item anywhere earlier (Image d x recs)) (are_items_after anywhere (earlier_after (Image d x recs) earlier) items) keep in
    let own : HasItem d x (Image d x recs ∷ items) = (λ i. (same d i && same x i) || list_any (is_of_track d x) items) in
    and_from (is_item form earlier (Image d x recs)) (are_items_after form (earlier_after (Image d x recs) earlier) items)
    (other_rule (not earlier.late) (nat_lt d (2 ^ 16)) (nat_lt x (2 ^ 32)) (may_draw anywhere earlier d x) (is_track recs) (may_draw form earlier d x) parts.0 (λ free. may_too (form.has_slot d x) form.deltas (is_drawn earlier.drawn d x) (slots d x own) free))
    (allowed_after form (earlier_after (Image d x recs) earlier) items all (λ e y has. slots e y (or_right (is_of_track e y (Image d x recs)) (list_any (is_of_track e y) items) has)) parts.1)
  where
    same : (n : ℕ) → (n == n) ≡ true
    same n = eq-eqb n n refl

    or_right : (a b : Bool) → b ≡ true → (a || b) ≡ true
    or_right true b e = refl
    or_right false b e = e
allowed_after form earlier (Delta d x kind ∷ items) all slots keep = absurd cc
allowed_after form earlier (Pair version row ∷ items) all slots keep = absurd cc
allowed_after form earlier (Gone d ∷ items) all slots keep = absurd cc

pub allowed_of : (items : List Item) → list_all is_image items ≡ true → AreItems anywhere items → AreItemsWhereAllowed items
allowed_of items all keep form slots = allowed_after form none_earlier items all slots keep

module _ {D : Type 0} (state : D → Standing) (tells : Type 0) (rows : List PairRow) (entries : List WaitingEntry) where
  pub items_are : (jobs : List (VolumeJob D)) (items : List Item) → AreFormed state tells rows entries entries jobs items → (device x : ℕ) → HasItem device x items ↔ (HasEntry rows device x entries × ¬ HasFailed device jobs)
  items_are jobs items formed device x = (forth, back)
    where
      forth : HasItem device x items → HasEntry rows device x entries × ¬ HasFailed device jobs
      forth has =
          let parts = and_parts (list_any (is_entry_on rows device x) entries) (not (list_any (is_failed_of device) jobs)) (sym (formed.tracks device x) ∙ has) in
          (parts.0, λ bad. both_ways (list_any (is_failed_of device) jobs) (not-true (list_any (is_failed_of device) jobs) parts.1) bad)

      back : HasEntry rows device x entries × ¬ HasFailed device jobs → HasItem device x items
      back is = formed.tracks device x ∙ and_from (list_any (is_entry_on rows device x) entries) (not (list_any (is_failed_of device) jobs)) is.0
          (not_from_false (list_any (is_failed_of device) jobs) (false_from_ne_true (list_any (is_failed_of device) jobs) is.1))

  -- ---- content

  -- where no entry is, no item is
  stands_all : (jobs : List (VolumeJob D)) (items : List Item) → AreFormed state tells rows entries entries jobs items → (device : ℕ) (bytes : List ℕ) → StandForTracks rows entries entries device items bytes → StandFor rows entries device items bytes
  stands_all jobs items formed device bytes stands x kinds spelled = by_entry (list_any (is_entry_on rows device x) entries) refl
    where
      by_entry : (b : Bool) → list_any (is_entry_on rows device x) entries ≡ b → content_through device x items (slot_track bytes x) ≡ changed_through rows device x entries kinds (slot_track bytes x)
      by_entry true has = stands x kinds has spelled
      by_entry false none =
          content_none device x items (slot_track bytes x) (formed.tracks device x ∙ (λ i. none i && not (list_any (is_failed_of device) jobs)))
          ∙ sym (changed_none (is_entry_on rows device x) entries kinds (slot_track bytes x) none)

  -- Content that is told of a job's volume, as it was.
  abbrev Holds : (items : List Item) → VolumeJob D → VolumeJob D → Type 0
  Holds items old new = new.failed ≡ false → OnVolume state (λ was is. StandFor rows entries old.device items was.bytes) old.disk new.disk

  content_one : (items : List Item) (old new : VolumeJob D) → ((bytes : List ℕ) → StandForTracks rows entries entries new.device items bytes → StandFor rows entries new.device items bytes) → tells → GoesBy state tells rows entries old new
      → StandOnJob state rows entries entries items new → Holds items old new
  content_one items old new stands told by on good =
      subst (λ (n : ℕ). OnVolume state (λ was is. StandFor rows entries n items was.bytes) old.disk new.disk) by.goes.device
      (by_disk old.disk new.disk (by.goes.reads (stays_failed state tells old new by.goes good)) (on good))
    where
      by_disk : (a b : Option D) → OnVolume state (OnlyReadsDisk tells new.failed) a b → OfBytes state (StandForTracks rows entries entries new.device items) b → OnVolume state (λ was is. StandFor rows entries new.device items was.bytes) a b
      by_disk (Some a) (Some b) reads is = subst (λ (l : List ℕ). StandFor rows entries new.device items l) (reads.bytes told) (stands (state b).bytes is)
      by_disk (Some a) None reads is = absurd reads
      by_disk None (Some b) reads is = absurd reads
      by_disk None None reads is = tt

  content_zip : (items : List Item) (olds news : List (VolumeJob D)) → ((device : ℕ) (bytes : List ℕ) → StandForTracks rows entries entries device items bytes → StandFor rows entries device items bytes) → tells
      → AllZip (GoesBy state tells rows entries) olds news → All (StandOnJob state rows entries entries items) news → AllZip (Holds items) olds news
  content_zip items [] [] stands told goes on = tt
  content_zip items [] (y ∷ ys) stands told goes on = absurd goes
  content_zip items (x ∷ xs) [] stands told goes on = absurd goes
  content_zip items (x ∷ xs) (y ∷ ys) stands told goes on =
      (content_one items x y (stands y.device) told goes.0 (All-head (StandOnJob state rows entries entries items) y ys on), content_zip items xs ys stands told goes.1 (All-tail (StandOnJob state rows entries entries items) y ys on))

  pub content_all : (items : List Item) (olds news : List (VolumeJob D)) → AllZip (GoesBy state tells rows entries) olds news → AreFormed state tells rows entries entries news items → tells
      → AllZip (λ old new. new.failed ≡ false → OnVolume state (λ was is. StandFor rows entries old.device items was.bytes) old.disk new.disk) olds news
  content_all items olds news goes formed told = content_zip items olds news (stands_all news items formed) told goes (formed.content told)

  -- ---- jobs

  reads_one : (holds : Standing → Standing → Type 0) → ((x : Standing) → holds x x) → ((failed : Bool) (x y : Standing) → OnlyReadsDisk tells failed x y → holds x y) → (old new : VolumeJob D) → GoesBy state tells rows entries old new → OnVolume state holds old.disk new.disk
  reads_one holds here by old new goes = by_failed old.failed refl
    where
      by_failed : (f : Bool) → old.failed ≡ f → OnVolume state holds old.disk new.disk
      by_failed true bad = subst (λ (j : VolumeJob D). OnVolume state holds old.disk j.disk) (sym (goes.goes.alone bad)) (volume_stays state tells holds old.disk here)
      by_failed false good = volume_map state tells (OnlyReadsDisk tells new.failed) holds old.disk new.disk (by new.failed) (goes.goes.reads good)

  pub reads_all : (holds : Standing → Standing → Type 0) → ((x : Standing) → holds x x) → ((failed : Bool) (x y : Standing) → OnlyReadsDisk tells failed x y → holds x y) → (olds news : List (VolumeJob D)) → AllZip (GoesBy state tells rows entries) olds news
      → OnVolumes state holds olds news
  reads_all holds here by olds news goes = zip_map (GoesBy state tells rows entries) (λ old new. OnVolume state holds old.disk new.disk) (reads_one holds here by) olds news goes

  pub cause_all : (olds news : List (VolumeJob D)) → AllZip (GoesBy state tells rows entries) olds news
      → AllZip (λ old new. old.failed ≡ false → OnVolume state (λ was is. FailsByCount new.failed was.faults is.faults) old.disk new.disk) olds news
  cause_all olds news goes = zip_map (GoesBy state tells rows entries) (λ old new. old.failed ≡ false → OnVolume state (λ was is. FailsByCount new.failed was.faults is.faults) old.disk new.disk)
      (λ old new by good. volume_map state tells (OnlyReadsDisk tells new.failed) (λ was is. FailsByCount new.failed was.faults is.faults) old.disk new.disk (λ x y reads. reads.cause) (by.goes.reads good)) olds news goes

  pub length_all : (olds news : List (VolumeJob D)) → AllZip (GoesBy state tells rows entries) olds news → OnVolumes state (λ was is. is.length_is ≡ was.length_is) olds news
  length_all olds news goes = reads_all (λ was is. is.length_is ≡ was.length_is) (λ x. refl) (λ failed x y reads. reads.length_is) olds news goes

  pub by_one_all : (olds news : List (VolumeJob D)) → AllZip (GoesBy state tells rows entries) olds news → OnVolumes state (λ was is. is.faults ≤ was.faults + 1) olds news
  by_one_all olds news goes = reads_all (λ was is. is.faults ≤ was.faults + 1) (λ x. omega arith) (λ failed x y reads. reads.cause.by_one) olds news goes

  pub bytes_all : tells → (olds news : List (VolumeJob D)) → AllZip (GoesBy state tells rows entries) olds news → OnVolumes state (λ was is. is.bytes ≡ was.bytes) olds news
  bytes_all told olds news goes = reads_all (λ was is. is.bytes ≡ was.bytes) (λ x. refl) (λ failed x y reads. reads.bytes told) olds news goes

  pub past_all : tells → (olds news : List (VolumeJob D)) → AllZip (GoesBy state tells rows entries) olds news → OnVolumes state SamePast olds news
  past_all told olds news goes = reads_all SamePast kept_here (λ failed x y reads. reads.past told) olds news goes

  pub moments_all : tells → (olds news : List (VolumeJob D)) → AllZip (GoesBy state tells rows entries) olds news → OnVolumes state (Follows Same) olds news
  moments_all told olds news goes = reads_all (Follows Same) (λ x. follows_here x Same (λ b now. refl)) (λ failed x y reads. reads.moments told) olds news goes
