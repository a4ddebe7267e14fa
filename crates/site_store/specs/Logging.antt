-- A formed group as a record: its items, the site after it, and the deeds that this is.
use Rattle.std.specs.Prelude.{◌≡◌, ◌≢◌, ◌≤◌, ◌⊎◌, ◌↔◌, ℕ, ◌+◌, ◌*◌, ◌<◌, ◌&&◌, List, [], ◌∷◌, ◌++◌, length, Bool, true, false, None, Result, OnOk, IsErrOf, IsSomeAnd, IsTrue, slice_index_or, not}
use Rattle.std.specs.List.{All, list_any, list_all}
use Rattle.xrc_journal.specs.declared.layout.TheConstants.{ROW_ITEM}
use Rattle.pair_table.specs.declared.limits.TheConstants.{MOST_ROWS}
use Rattle.xrc_edge.specs.declared.limits.TheConstants.{MOST_SITE_VOLUMES}
use Rattle.ckd_track.specs.SlotPlaces.{slot_track}
use Rattle.crash_plant.specs.declared.device.Device.{Device}
use Rattle.crash_plant.specs.declared.device.Device.TheVariants.{Volume}
use Rattle.crash_plant.specs.Calls.{NoneLent}
use Rattle.crash_plant.specs.Moments.{PlantState}
use Rattle.applier.specs.Returns.{OnlyReads}
use Rattle.pair_table.specs.declared.row.PairRow.{PairRow}
use Rattle.pair_table.specs.Tables.{AreRowsSound}
use Rattle.pending_queue.specs.Entries.{WaitingEntry}
use Rattle.pending_queue.specs.Groups.{FormedGroup}
use Rattle.xrc_journal.specs.declared.job.VolumeJob.{VolumeJob}
use Rattle.xrc_journal.specs.Bodies.{BodyState}
use Rattle.xrc_journal.specs.Items.{AreItems, Item, body_spelling, form_of}
use Rattle.xrc_journal.specs.Items.Item.{Image, Delta, Pair, Gone}
use Rattle.xrc_journal.specs.Contents.{HasItem, content_through}
use Rattle.image_former.specs.Changes.{changed_through}
use Rattle.image_former.specs.Entries.{HasEntry, entry_device, entry_row, is_device}
use Rattle.image_former.specs.Forms.{AreItemsWhereAllowed, is_image}
use Rattle.record_rows.specs.ChangedRows.{rows_in_states}
use Rattle.record_rows.specs.Hits.{hit_now, is_down, rows_marked}
use Rattle.record_rows.specs.Records.{rows_after_mark, rows_with_record}
use Rattle.site_means.specs.Walk.{first_unfit, rows_through}
use Rattle.site_store.specs.declared.store_error.StoreError.{StoreError}
use Rattle.site_store.specs.declared.store_error.StoreError.TheVariants.{Spent}
use Rattle.site_store.specs.declared.placement.Placement.{Placement}
use Rattle.site_store.specs.declared.placement.Placement.TheVariants.{Here, Switched, Marked as MarkedFirst}
use Rattle.site_store.specs.Sites.{SiteState}
use Rattle.site_store.specs.Standing.{Leaves, row_has_volume}
use Rattle.record_rows.specs.Deeds.{Deed}
use Rattle.site_store.specs.Deeds.{kinds_of}
use Rattle.site_store.specs.InTurn.{DoesInTurn}
use Rattle.record_rows.specs.Deeds.Deed.{Logged, Marked}
use Rattle.site_store.specs.declared.hits.Hits.{Hits}
use Rattle.site_store.specs.Hits.{NextStates, pairs_with_next, with_group_and_hits}
use Rattle.site_store.specs.Jobs.{are_home_from, has_device}
use Rattle.site_store.specs.Placements.{is_spent, placement_of}
use Rattle.site_store.specs.Records.{IsOfRecord, after_record, after_placement, one_more}

-- ---- the entries

-- An entry is of a row, and its track lies in the row's cylinders, which have 15 tracks each. A mark that is made first may suspend the row.
abbrev pub IsOfSomeRow : List PairRow → WaitingEntry → Type 0
IsOfSomeRow rows entry = IsSomeAnd (entry_row rows entry) (λ row. entry.head.track < row.cylinders * 15)

-- A group may be logged.
pub record MayLog (site : SiteState) (group : FormedGroup) : Type 0 where
  pub controls : group.controls ≤ site.controls
  pub entries : All (IsOfSomeRow site.table.rows) group.entries
  pub cut : site.time ≤ group.cut.0

-- whether an entry is on a device
abbrev pub is_entry_of_device : List PairRow → (device : ℕ) → WaitingEntry → Bool
is_entry_of_device rows device entry = is_device device (entry_device rows entry)

-- Some entry is on the device.
abbrev pub HasEntryOn : List PairRow → List WaitingEntry → (device : ℕ) → Type 0
HasEntryOn rows entries device = IsTrue (list_any (is_entry_of_device rows device) entries)

-- the volumes with entries
abbrev pub IsOfEntries : List PairRow → List WaitingEntry → Device → Type 0
IsOfEntries rows entries device = (v : ℕ) × (device ≡ Volume v) × HasEntryOn rows entries v

-- A job fails only if its volume has an entry.
abbrev pub FailByEntries : List PairRow → List WaitingEntry → (old new : List Bool) → Type 0
FailByEntries rows entries old new = (d : ℕ) → IsTrue (is_down new d) → IsTrue (is_down old d) ⊎ HasEntryOn rows entries d

-- the devices on which logging works: those of a record, and the volumes with entries
abbrev pub IsOfLog : SiteState → FormedGroup → Device → Type 0
IsOfLog site group device = IsOfRecord site device ⊎ IsOfEntries site.table.rows group.entries device

-- A record with these entries may be formed: no volume is lent, each has its job and its flag, and each entry has its row, on a volume of the plant.
pub record MayForm {V : Type 0} (of : List WaitingEntry) (rows : List PairRow) (jobs : List (VolumeJob V)) (due : List Bool) (plant : PlantState) : Type 0 where
  pub home : NoneLent plant
  pub volumes : length jobs ≡ plant.volumes
  pub few : plant.volumes ≤ MOST_SITE_VOLUMES
  pub idle : are_home_from 0 jobs ≡ true
  pub have : list_all (row_has_volume plant) rows ≡ true
  pub entries : All (IsOfSomeRow rows) of
  pub flags : length due ≡ length jobs

-- ---- the items

abbrev pub is_pair_item : Item → Bool
is_pair_item (Pair version row) = true
is_pair_item (Image d x recs) = false
is_pair_item (Delta d x kind) = false
is_pair_item (Gone d) = false

-- From what a read gives, the images make of a track what the entries make of it.
abbrev pub DrawTheSame : List PairRow → List WaitingEntry → (images : List Item) → PlantState → (device track : ℕ) → Type 0
DrawTheSame rows entries images plant d x =
    let old = slot_track (plant.bytes (Volume d)) x in
    content_through d x images old ≡ changed_through rows d x entries (kinds_of entries) old

-- So they do with each track that has an entry, on a device whose job hasn't failed.
abbrev pub DrawEntries : (tells : Type 0) → List PairRow → List WaitingEntry → (failed : List Bool) → (images : List Item) → PlantState → Type 0
DrawEntries tells rows entries failed images plant =
    tells → (d x : ℕ) → d < plant.volumes → slice_index_or failed d false ≡ false → HasEntry rows d x entries → DrawTheSame rows entries images plant d x

-- A body holds images alone, which keep the rules on one record wherever their tracks are allowed, and are short enough for the entries.
pub record HoldsImages (entries : List WaitingEntry) (held now : BodyState) : Type 0 where
  pub images : list_all is_image now.items ≡ true
  pub allowed : AreItemsWhereAllowed now.items
  pub short : length (body_spelling now.items) ≤ 56669 * length entries
  pub room : now.room ≡ held.room

-- whether a device is wanted, and its job hasn't failed
abbrev pub is_wanted_live : (wanted failed : List Bool) → (device : ℕ) → Bool
is_wanted_live wanted failed device = slice_index_or wanted device false && not (slice_index_or failed device false)

-- whether there are images of a device: it has entries, and its job hasn't failed
abbrev pub is_formed : List PairRow → List WaitingEntry → (failed : List Bool) → (device : ℕ) → Bool
is_formed rows entries failed device = list_any (is_entry_of_device rows device) entries && not (slice_index_or failed device false)

-- a body with the pairs of rows that change after its items
abbrev pub with_pairs : NextStates → List PairRow → BodyState → BodyState
with_pairs next rows held = record { items = held.items ++ pairs_with_next next rows; room = held.room }

-- One image of each track that has an entry, but for the tracks of failed volumes, and after them pairs that lead from the rows before
-- the record to those after it. From what reads give, the images make of their tracks what the entries make of them.
pub record AreItemsOf (tells : Type 0) (group : FormedGroup) (failed : List Bool) (before after : List PairRow) (plant : PlantState)
    (items : List Item) : Type 0 where
  pub images : List Item
  pub pairs : List Item
  pub parts : items ≡ images ++ pairs
  pub are_images : list_all is_image images ≡ true
  pub are_pairs : list_all is_pair_item pairs ≡ true
  -- No track has two images.
  pub keep : AreItems (form_of plant) items
  pub lead : rows_through pairs before ≡ after
  pub tracks : (d x : ℕ) → HasItem d x images ↔ (HasEntry before d x group.entries × (slice_index_or failed d false ≡ false))
  pub content : DrawEntries tells before group.entries failed images plant

-- The record of a group as it is formed with hits: its items, and for which volumes there are some. The items fit the rows, which are
-- those of a table.
pub record FormsRecord (tells : Type 0) (group : FormedGroup) (rows : List PairRow) (plant : PlantState) (held now : BodyState)
    (due failed : List Bool) (hits : Hits) : Type 0 where
  pub items : AreItemsOf tells group failed rows (rows_in_states (with_group_and_hits group hits) rows) plant now.items
  pub fit : first_unfit plant.volumes 0 rows now.items ≡ None
  pub rules : AreRowsSound rows
  pub room : now.room ≡ held.room
  pub short : length (body_spelling now.items) ≤ 56669 * length group.entries + MOST_ROWS * ROW_ITEM
  pub due_is : (d : ℕ) → slice_index_or due d false ≡ has_device d now.items

-- ---- the rows

-- A job that failed stays failed: these jobs had failed between two moments.
pub record FailedBetween (first between last : List Bool) : Type 0 where
  pub before : (d : ℕ) → IsTrue (is_down first d) → IsTrue (is_down between d)
  pub after : (d : ℕ) → IsTrue (is_down between d) → IsTrue (is_down last d)

-- The rows before the record: those of the site, or of the mark that was made first, once these jobs had failed.
abbrev pub rows_before : Placement → SiteState → (early : List Bool) → List PairRow
rows_before Here site early = site.told
rows_before Switched site early = site.told
rows_before MarkedFirst site early = rows_marked site.time (hit_now early site.told) site.told

-- The rows after it. `early` are the jobs that have failed by the mark, `failed` those by the record.
abbrev pub rows_logged : Placement → SiteState → FormedGroup → (early failed : List Bool) → List PairRow
rows_logged Here site group early failed = rows_with_record site.level group failed site.told
rows_logged Switched site group early failed = rows_with_record site.level group failed site.told
rows_logged MarkedFirst site group early failed = rows_after_mark site.level (hit_now early site.told) group failed (rows_before MarkedFirst site early)

-- The jobs that had failed before the record that is logged was formed: those of the site, or those at the mark that was made first.
abbrev pub failed_before : Placement → SiteState → (early : List Bool) → List Bool
failed_before Here site early = site.failed
failed_before Switched site early = site.failed
failed_before MarkedFirst site early = early

-- ---- what was done

-- The record as it was formed first decides its placement. Its numbers decide whether it is logged at all.
pub record FormsFirst (tells : Type 0) (group : FormedGroup) (site next : SiteState) (plant : PlantState) (placement : Placement)
    (result : Result (Unit {0}) StoreError) : Type 0 where
  pub failed : List Bool
  pub failed_by_then : FailedBetween site.failed failed next.failed
  -- Volumes without an entry aren't read.
  pub by_entries : FailByEntries site.table.rows group.entries site.failed failed
  pub items : List Item
  pub are : AreItemsOf tells group failed site.told (rows_with_record site.level group failed site.told) plant items
  pub placement_is : placement ≡ placement_of plant site items
  pub spent : IsErrOf result Spent ↔ (is_spent placement site ≡ true)
  pub here : placement ≢ MarkedFirst → OnOk result (next.waiting ≡ items)

abbrev pub log_deeds : Placement → SiteState → FormedGroup → (early failed : List Bool) → List Deed
log_deeds Here site group early failed = Logged group.cut.0 group.entries (rows_logged Here site group early failed) ∷ []
log_deeds Switched site group early failed = Logged group.cut.0 group.entries (rows_logged Switched site group early failed) ∷ []
log_deeds MarkedFirst site group early failed =
    Marked site.at site.mark.ended (rows_before MarkedFirst site early)
    ∷ Logged group.cut.0 group.entries (rows_logged MarkedFirst site group early failed) ∷ []

-- `early` are the jobs that had failed by the mark.
abbrev pub DoesLog : (tells : Type 0) → FormedGroup → Placement → (early : List Bool) → (site next : SiteState) → (old new : PlantState) → Result (Unit {0}) StoreError → Type 0
DoesLog tells group placement early site next old new result = DoesInTurn tells (log_deeds placement site group early next.failed) site old new result

-- the site after the record of a group with these items, once these jobs have failed
abbrev pub after_group : (journals : ℕ) → Placement → FormedGroup → List Item → (early failed : List Bool) → SiteState → SiteState
after_group journals placement group items early failed site =
    let rows = rows_logged placement site group early failed in
    record (after_record journals placement group.cut.0 items rows failed site) { since = one_more (after_placement placement site).since; waiting = items }

-- The group is logged by a placement: after a switch where it doesn't fit, and after a mark where this would lead into a set that isn't marked
-- yet.
pub record LogsBy (tells : Type 0) (group : FormedGroup) (placement : Placement) (site next : SiteState) (old new : PlantState)
    (result : Result (Unit {0}) StoreError) : Type 0 where
  -- the jobs that had failed by the mark that was made first
  pub early : List Bool
  pub early_failed : FailedBetween site.failed early next.failed
  -- After the mark, too, volumes without an entry aren't read.
  pub by_entries : FailByEntries site.table.rows group.entries (failed_before placement site early) next.failed
  pub items : OnOk result (AreItemsOf tells group next.failed (rows_before placement site early) next.told old next.waiting)
  pub next_is : OnOk result (next ≡ after_group old.journals placement group next.waiting early next.failed site)
  pub does : DoesLog tells group placement early site next old new result

-- Its numbers decide whether it is logged at all, and the record as it was formed first decides the placement.
pub record LogsGroup (tells : Type 0) (group : FormedGroup) (site next : SiteState) (old new : PlantState)
    (result : Result (Unit {0}) StoreError) : Type 0 where
  pub placement : Placement
  pub first : FormsFirst tells group site next old placement result
  pub logs : LogsBy tells group placement site next old new result
  -- A mark that is made first tells the jobs that had failed when the record was formed first.
  pub early_has : placement ≡ MarkedFirst → (d : ℕ) → IsTrue (is_down first.failed d) → IsTrue (is_down logs.early d)

-- Where the numbers are spent volumes were read alone. The site is as it was, but for jobs that failed in it, and what stood stands.
pub record StaysUnwritten (tells : Type 0) (site next : SiteState) (old new : PlantState) : Type 0 where
  pub same : next ≡ record site { failed = next.failed }
  pub reads : OnlyReads tells old new
  pub leaves : Leaves tells (λ e. e) site next old new
