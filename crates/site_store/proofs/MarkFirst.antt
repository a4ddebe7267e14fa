-- A mark first, then a record after it: what they do in turn, whatever the record's deed is.
use Rattle.std.proofs.Common.{◌≡◌, ℕ, ◌+◌, ◌^◌, ◌-◌, ◌≤◌, ◌<◌, ◌==◌, ◌||◌, Bool, true, false, cond, List, [], ◌∷◌, length, Result, refl, ap, subst, ◌∙◌, arith}
use Rattle.std.specs.Prelude.{OnOk, ◌≢◌, nat_le}
use Rattle.std.specs.List.{list_any}
use Rattle.std.proofs.lemmas.Bool.{eqb-false, eqb-true, leb-false, or_parts}
use Rattle.crash_plant.specs.declared.device.Device.{Device}
use Rattle.crash_plant.specs.declared.device.Device.TheVariants.{Journal}
use Rattle.crash_plant.specs.declared.spot.Spot.{Spot}
use Rattle.crash_plant.specs.Moments.{PlantState}
use Rattle.applier.specs.Returns.{OnlyReads, WorksOnLent}
use Rattle.pair_table.specs.declared.row.PairRow.{PairRow}
use Rattle.xrc_journal.specs.Appending.{room_for}
use Rattle.xrc_journal.specs.Contents.{is_of_track}
use Rattle.xrc_journal.specs.Items.{Item, body_spelling}
use Rattle.xrc_journal.specs.Records.{next_set}
use Rattle.record_rows.specs.Deeds.{Deed}
use Rattle.record_rows.specs.Deeds.Deed.{Marked}
use Rattle.site_store.specs.DoneDeeds.{BeginsDeeds, DoesDeeds}
use Rattle.site_store.specs.Exceptions.{Exceptions}
use Rattle.site_store.proofs.Composing.{begin_after, go_on}
use Rattle.site_store.proofs.Moments.{more_follow}
use Rattle.site_store.proofs.Single.{reads_and_syncs}
use Rattle.site_store.specs.declared.store_error.StoreError.{StoreError}
use Rattle.site_store.specs.declared.placement.Placement.TheVariants.{Marked as MarkedFirst}
use Rattle.site_store.specs.Jobs.{body_room}
use Rattle.site_store.specs.Marking.{MakesMark, excepted_with_waiting}
use Rattle.site_store.specs.Recording.{HasRoomAfterSwitch}
use Rattle.site_store.specs.Sites.{SiteState}
use Rattle.site_store.specs.Standing.{HasLengths, SiteStands}
use Rattle.site_store.specs.Placements.{most, record_needs_more}
use Rattle.site_store.proofs.RecordPuts.{on_ok}

-- ---- the mark

or_false : (b : Bool) → (b || false) ≡ b
or_false true = refl
or_false false = refl

-- Where nothing waits, no track is excepted more.
pub none_waits : (site : SiteState) (e : Exceptions) → site.waiting ≡ [] → excepted_with_waiting site e ≡ e
none_waits site e idle = λ k d x. (ap (λ (items : List Item). e d x || list_any (is_of_track d x) items) idle ∙ or_false (e d x)) k

module _ (tells : Type 0) (ended : Bool) (rows : List PairRow) (site next : SiteState) (old new : PlantState) (result : Result (Unit {0}) StoreError) (makes : MakesMark tells ended rows site next old new result) (idle : site.waiting ≡ [])
    (told : tells) (e : Exceptions) (stands : SiteStands e site old) where
  -- A mark begins with the exceptions that there are.
  pub mark_begins : BeginsDeeds e site.told (Marked site.at ended rows ∷ []) old new
  mark_begins = subst (λ (x : Exceptions). BeginsDeeds x site.told (Marked site.at ended rows ∷ []) old new) (none_waits site e idle) (makes.begins told e stands)

  -- Once it was made it is done with them.
  pub mark_does : OnOk result (DoesDeeds e site.told (Marked site.at ended rows ∷ []) old new)
  mark_does = on_ok result (λ (does : (x : Exceptions) → SiteStands x site old → DoesDeeds (excepted_with_waiting site x) site.told (Marked site.at ended rows ∷ []) old new).
      subst (λ (x : Exceptions). DoesDeeds x site.told (Marked site.at ended rows ∷ []) old new) (none_waits site e idle) (does e stands)) (makes.does told)

-- ---- in turn

-- A deed that begins may be the first of two.
pub first_begins : (old new : PlantState) (e : Exceptions) (rows : List PairRow) (first deed : Deed) → BeginsDeeds e rows (first ∷ []) old new → BeginsDeeds e rows (first ∷ deed ∷ []) old new
first_begins old new e rows first deed begins = more_follow old new e rows (first ∷ []) (deed ∷ []) begins

-- ---- reads between

-- Reads do no deed.
pub reads_do : (tells : Type 0) (among : Device → Type 0) (old new : PlantState) → WorksOnLent tells among old new → OnlyReads tells old new → tells → (e : Exceptions) (rows : List PairRow) → DoesDeeds e rows [] old new
reads_do tells among old new works reads told e rows = reads_and_syncs old new e rows works.site (works.elapses told) (works.silent told) (reads.moments told)

module _ (old mid new : PlantState) (e : Exceptions) (rows : List PairRow) (deeds : List Deed) where
  -- Deeds after calls that do none.
  pub begins_after_none : DoesDeeds e rows [] old mid → BeginsDeeds e rows deeds mid new → BeginsDeeds e rows deeds old new
  begins_after_none none begins = begin_after old mid new e rows [] deeds none begins

  pub does_after_none : DoesDeeds e rows [] old mid → DoesDeeds e rows deeds mid new → DoesDeeds e rows deeds old new
  does_after_none none does = go_on old mid new e rows [] deeds none does

-- ---- the record's room after the mark

-- A switch leads to another data set.
pub next_is_another : (sets set : ℕ) → set < sets → 2 ≤ sets → next_set sets set ≢ set
next_is_another sets set within two = by_last (set + 1 == sets) refl
  where
    by_last : (last : Bool) → (set + 1 == sets) ≡ last → cond last 0 (set + 1) ≢ set
    by_last true is same = let end = eqb-true (set + 1) sets is in omega (arith, end, two, same)
    by_last false is same = omega (arith, same)

-- A body that its buffer holds fits each data set from its front on.
pub fits_front : (controls : ℕ) (plant : PlantState) (items : List Item) (set : ℕ) → HasLengths controls plant → set < plant.journals → length (body_spelling items) ≤ body_room controls → room_for items ≤ plant.lengths (Journal set)
fits_front controls plant items set lengths there short = let long = lengths.journal set there in omega (arith, long, short)

pub next_there : (sets set : ℕ) → set < sets → next_set sets set < sets
next_there sets set within = by_last (set + 1 == sets) refl
  where
    by_last : (last : Bool) → (set + 1 == sets) ≡ last → cond last 0 (set + 1) < sets
    by_last true is = omega (arith, within)
    by_last false is = let other = eqb-false (set + 1) sets is in omega (arith, other, within)

-- Its number and the mark's suffice.
pub record Suffice (next mark : ℕ) : Type 0 where
  pub next_is : next + 1 ≤ 2 ^ 64 - 2
  pub mark_is : mark < 2 ^ 64 - 2

pub suffice : (next mark : ℕ) → mark ≤ 2 ^ 64 - 2 → record_needs_more MarkedFirst next mark ≡ false → Suffice next mark
suffice next mark low enough =
    let parts = or_parts (nat_le most next) (mark == most) enough in
    let less = leb-false most next parts.0 in
    let other = eqb-false mark most parts.1 in
    record { next_is = omega (arith, less); mark_is = omega (arith, other, low) }

-- After the mark, which stands where the record would, the record has room after a switch.
pub room_after_mark : (controls : ℕ) (plant : PlantState) (at : Spot) (items : List Item) → HasLengths controls plant → at.set < plant.journals → at.number + 1 ≤ 2 ^ 64 - 2 → length (body_spelling items) ≤ body_room controls → HasRoomAfterSwitch plant at at items
room_after_mark controls plant at items lengths there low short = record {
  free = next_is_another plant.journals at.set there lengths.journals.0;
  room = fits_front controls plant items (next_set plant.journals at.set) lengths (next_there plant.journals at.set there) short;
  number = low;
}
