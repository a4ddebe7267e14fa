-- A command's change and suspensions as records of rows, the site after them, and the deeds that these are.
use Rattle.std.specs.Prelude.{◌≡◌, ◌≢◌, ◌↔◌, ℕ, ◌+◌, ◌*◌, ◌≤◌, List, [], ◌∷◌, ◌++◌, length, map, Bool, true, false, Option, Some, None, Result, OnOk, IsOk, IsErrOf}
use Rattle.std.specs.List.{flat_map}
use Rattle.xrc_journal.specs.declared.layout.TheConstants.{ROW_ITEM}
use Rattle.pair_table.specs.declared.limits.TheConstants.{MOST_ROWS}
use Rattle.xrc_edge.specs.declared.limits.TheConstants.{MOST_SITE_VOLUMES}
use Rattle.crash_plant.specs.Moments.{PlantState}
use Rattle.pair_table.specs.declared.command.Change.{Change}
use Rattle.pair_table.specs.declared.command.Change.TheVariants.{Nothing, Started, Added, Resumed, Gone as GoneRows, Suspended, Ended}
use Rattle.pair_table.specs.declared.level.Level.{Level}
use Rattle.pair_table.specs.declared.row.PairRow.{PairRow}
use Rattle.pair_table.specs.Tables.{AreRowsSound, row_of}
use Rattle.tod_stamp.specs.declared.stamp.Stamp.{Stamp}
use Rattle.xrc_journal.specs.Bodies.{BodyState}
use Rattle.xrc_journal.specs.Items.{AreItems, Item, anywhere, body_spelling}
use Rattle.xrc_journal.specs.Items.Item.{Pair, Gone}
use Rattle.record_rows.specs.Hits.{hit_now, rows_marked}
use Rattle.record_rows.specs.Records.{rows_with_hits}
use Rattle.site_means.specs.Walk.{first_unfit, rows_through}
use Rattle.site_store.specs.declared.store_error.StoreError.{StoreError}
use Rattle.site_store.specs.declared.store_error.StoreError.TheVariants.{Spent}
use Rattle.site_store.specs.declared.placement.Placement.{Placement}
use Rattle.site_store.specs.declared.placement.Placement.TheVariants.{Here, Switched, Marked as MarkedFirst}
use Rattle.site_store.specs.Sites.{SiteState}
use Rattle.site_store.specs.Standing.{SiteStands, StandsFast}
use Rattle.record_rows.specs.Deeds.{Deed}
use Rattle.site_store.specs.DoneDeeds.{BeginsDeeds, DoesDeeds}
use Rattle.site_store.specs.Exceptions.{Exceptions}
use Rattle.record_rows.specs.Deeds.Deed.{Changed, Marked}
use Rattle.site_store.specs.declared.hits.Hits.{Hits}
use Rattle.site_store.specs.Hits.{AreHits, pairs_with_next, with_hits}
use Rattle.site_store.specs.Placements.{is_spent, is_suspension_spent, placement_of}
use Rattle.site_store.specs.Records.{after_mark, after_record}

-- ---- the items

-- the item of a row, where there is one
abbrev pub pair_item : Option PairRow → List Item
pair_item (Some row) = Pair 2 row ∷ []
pair_item None = []

-- the items of the devices' rows
abbrev pub pairs_of : (devices : List ℕ) → List PairRow → List Item
pairs_of devices rows = flat_map (λ d. pair_item (row_of d rows)) devices

-- the items of the devices whose rows go
abbrev pub gone_of : (devices : List ℕ) → List Item
gone_of devices = map (λ d. Gone d) devices

-- The items of a change, where these are the rows after it. One that alters no row has none.
abbrev pub changed_items : Change → List PairRow → List Item
changed_items Nothing rows = []
changed_items Started rows = []
changed_items (Added device) rows = pairs_of (device ∷ []) rows
changed_items (Resumed device) rows = pairs_of (device ∷ []) rows
changed_items (GoneRows devices) rows = gone_of devices
changed_items (Suspended devices) rows = pairs_of devices rows
changed_items Ended rows = []

-- how many devices it names
abbrev pub named_devices : Change → ℕ
named_devices Nothing = 0
named_devices Started = 0
named_devices (Added device) = 1
named_devices (Resumed device) = 1
named_devices (GoneRows devices) = length devices
named_devices (Suspended devices) = length devices
named_devices Ended = 0

-- the rows with the hits of jobs that have failed, after the command's rows and after those on the devices
abbrev pub table_with_hits : (cut : ℕ) → (failed : List Bool) → SiteState → List PairRow
table_with_hits cut failed site = rows_with_hits site.level cut failed site.table.rows

abbrev pub told_with_hits : (time : ℕ) → (failed : List Bool) → SiteState → List PairRow
told_with_hits time failed site = rows_with_hits site.level time failed site.told

-- the rows of a mark that comes before a change's record
abbrev pub told_by_mark : (failed : List Bool) → SiteState → List PairRow
told_by_mark failed site = rows_marked site.time (hit_now failed site.told) site.told

-- A list leads from rows to others by items that fit them.
pub record Lead (volumes : ℕ) (items : List Item) (before after : List PairRow) : Type 0 where
  pub leads : rows_through items before ≡ after
  pub fit : first_unfit volumes 0 before items ≡ None

-- ---- a command's change

-- A change may be logged: the table is what its items make of the rows on the devices, and nothing waits.
pub record MayChange (tells : Type 0) (cut : ℕ) (change : Change) (site : SiteState) (plant : PlantState) : Type 0 where
  pub fast : StandsFast tells site plant
  pub idle : site.waiting ≡ []
  pub cut_is : site.time ≤ cut
  pub few : named_devices change ≤ MOST_SITE_VOLUMES
  pub ahead : changed_items change site.table.rows ≢ [] → site.is_ahead ≡ true
  pub lead : Lead plant.volumes (changed_items change site.table.rows) site.told site.table.rows

-- The items of a change's record lead to the command's rows with the hits, whatever it names twice.
pub record AreChangeItems (cut : ℕ) (change : Change) (failed : List Bool) (site : SiteState) (plant : PlantState) (items : List Item) : Type 0 where
  pub hits : List Item
  pub parts : items ≡ changed_items change site.table.rows ++ hits
  pub lead : Lead plant.volumes items site.told (rows_with_hits site.level cut failed site.table.rows)

-- The record of a change as it is formed: the rows that it names, and after them those of the hits at its cut.
pub record FormsChange (level : Level) (cut : Stamp) (failed : List Bool) (change : Change) (rows : List PairRow) (held now : BodyState) : Type 0 where
  pub hits : Hits
  pub are : AreHits level cut failed [] rows hits
  pub now_is : now ≡ record { items = changed_items change rows ++ pairs_with_next (with_hits hits) rows; room = held.room }
  pub rules : AreRowsSound rows
  pub keep : AreItems anywhere now.items
  pub short : length (body_spelling now.items) ≤ named_devices change * ROW_ITEM + MOST_ROWS * ROW_ITEM

-- The record as it is formed first decides the placement.
pub record IsPlacementOfChange (cut : ℕ) (change : Change) (site : SiteState) (plant : PlantState) (placement : Placement) : Type 0 where
  pub first : List Item
  pub formed : AreChangeItems cut change site.failed site plant first
  pub placement_is : placement ≡ placement_of plant site first

-- The site after a change's record that was placed so.
pub record IsAfterChange (cut : ℕ) (change : Change) (placement : Placement) (site next : SiteState) (old : PlantState) : Type 0 where
  pub items : List Item
  pub are : AreChangeItems cut change next.failed site old items
  pub next_is : next ≡ after_record old.journals placement cut items (table_with_hits cut next.failed site) next.failed site

-- A change is logged with the hits after it. The numbers by its placement decide whether it is logged at all.
pub record LogsRows (cut : ℕ) (change : Change) (site next : SiteState) (old : PlantState) (result : Result (Unit {0}) StoreError) : Type 0 where
  pub placement : Placement
  pub is_placement : IsPlacementOfChange cut change site old placement
  pub spent : IsErrOf result Spent ↔ (is_spent placement site ≡ true)
  pub after : OnOk result (IsAfterChange cut change placement site next old)

-- Where there is nothing to log, nothing is called.
pub record LogsChange {P : Type 0} (cut : ℕ) (change : Change) (site next : SiteState) (old : PlantState) (was is : P)
    (result : Result (Unit {0}) StoreError) : Type 0 where
  pub nothing : changed_items change site.table.rows ≡ [] → IsOk result × (next ≡ record site { is_ahead = false }) × (is ≡ was)
  pub rows : changed_items change site.table.rows ≢ [] → LogsRows cut change site next old result

-- A mark that is made first tells the hits of the rows before the command. The record then holds the command's rows with the same hits, and
-- with the rows that these reach.
abbrev pub change_deeds : Placement → SiteState → (cut : ℕ) → (failed : List Bool) → List Deed
change_deeds Here site cut failed = Changed cut (table_with_hits cut failed site) ∷ []
change_deeds Switched site cut failed = Changed cut (table_with_hits cut failed site) ∷ []
change_deeds MarkedFirst site cut failed = Marked site.at site.mark.ended (told_by_mark failed site) ∷ Changed cut (table_with_hits cut failed site) ∷ []

abbrev pub change_deeds_of : Change → Placement → SiteState → (cut : ℕ) → (failed : List Bool) → List Deed
change_deeds_of change placement site cut failed = elim (changed_items change site.table.rows) [
  | [] ↦ []
  | i ∷ items ↦ change_deeds placement site cut failed
]

pub record DoesChange (tells : Type 0) (cut : ℕ) (change : Change) (site next : SiteState) (old new : PlantState)
    (result : Result (Unit {0}) StoreError) : Type 0 where
  pub placement : Placement
  pub is_placement : changed_items change site.table.rows ≢ [] → IsPlacementOfChange cut change site old placement
  pub begins : tells → (e : Exceptions) → SiteStands e site old → BeginsDeeds e site.told (change_deeds_of change placement site cut next.failed) old new
  pub does : tells → OnOk result ((e : Exceptions) → SiteStands e site old → DoesDeeds e site.told (change_deeds_of change placement site cut next.failed) old new)

-- ---- suspensions alone

-- The record of suspensions at a cut leads to the rows with the hits.
pub record AreHitItems (cut : ℕ) (site : SiteState) (plant : PlantState) (items : List Item) : Type 0 where
  pub lead : Lead plant.volumes items site.told (told_with_hits cut site.failed site)

-- That record decides the placement.
pub record IsPlacementOfHits (cut : ℕ) (site : SiteState) (plant : PlantState) (placement : Placement) (items : List Item) : Type 0 where
  pub are : AreHitItems cut site plant items
  pub placement_is : placement ≡ placement_of plant site items

-- The site after suspensions: after their record, or after a mark that was made in its place.
abbrev pub with_suspensions : (journals : ℕ) → Placement → (cut : ℕ) → List Item → (failed : List Bool) → SiteState → SiteState
with_suspensions journals Here cut items failed site = after_record journals Here cut items (told_with_hits cut site.failed site) site.failed site
with_suspensions journals Switched cut items failed site = after_record journals Switched cut items (told_with_hits cut site.failed site) site.failed site
with_suspensions journals MarkedFirst cut items failed site = after_mark site.mark.ended (told_with_hits site.time failed site) failed site

-- Suspensions that failed jobs call for are logged; where a mark has to be made first, it tells them, and no record follows. Where no
-- job failed anew, nothing is called.
pub record Suspends {P : Type 0} (cut : ℕ) (site next : SiteState) (old : PlantState) (was is : P) (result : Result (Unit {0}) StoreError) : Type 0 where
  pub nothing : hit_now site.failed site.told ≡ [] → IsOk result × (next ≡ site) × (is ≡ was)
  pub placement : Placement
  pub items : List Item
  pub is_placement : IsPlacementOfHits cut site old placement items
  pub spent : hit_now site.failed site.told ≢ [] → IsErrOf result Spent ↔ (is_suspension_spent placement site ≡ true)
  pub logged : hit_now site.failed site.told ≢ [] → OnOk result (next ≡ with_suspensions old.journals placement cut items next.failed site)

abbrev pub suspension_deeds : Placement → SiteState → (cut : ℕ) → (failed : List Bool) → List Deed
suspension_deeds Here site cut failed = Changed cut (told_with_hits cut failed site) ∷ []
suspension_deeds Switched site cut failed = Changed cut (told_with_hits cut failed site) ∷ []
suspension_deeds MarkedFirst site cut failed = Marked site.at site.mark.ended (told_with_hits site.time failed site) ∷ []

abbrev pub suspension_deeds_of : Placement → SiteState → (cut : ℕ) → (failed : List Bool) → List Deed
suspension_deeds_of placement site cut failed = elim (hit_now site.failed site.told) [
  | [] ↦ []
  | d ∷ hit ↦ suspension_deeds placement site cut failed
]

pub record DoesSuspend (tells : Type 0) (cut : ℕ) (site next : SiteState) (old new : PlantState) (result : Result (Unit {0}) StoreError) : Type 0 where
  pub placement : Placement
  pub items : List Item
  pub is_placement : IsPlacementOfHits cut site old placement items
  -- The site is left by the same placement.
  pub left : hit_now site.failed site.told ≢ [] → OnOk result (next ≡ with_suspensions old.journals placement cut items next.failed site)
  pub begins : tells → (e : Exceptions) → SiteStands e site old → BeginsDeeds e site.told (suspension_deeds_of placement site cut next.failed) old new
  pub does : tells → OnOk result ((e : Exceptions) → SiteStands e site old → DoesDeeds e site.told (suspension_deeds_of placement site cut next.failed) old new)
