-- A record of rows, by one relation for whatever it is: a command's rows with the hits after them, or hits alone.
use Rattle.std.specs.Prelude.{◌≡◌, ◌↔◌, ℕ, List, [], ◌∷◌, Bool, true, false, Result, OnOk, IsErrOf}
use Rattle.crash_plant.specs.Moments.{PlantState}
use Rattle.pair_table.specs.declared.command.Change.{Change}
use Rattle.pair_table.specs.declared.row.PairRow.{PairRow}
use Rattle.xrc_journal.specs.Items.{Item}
use Rattle.record_rows.specs.Deeds.{Deed}
use Rattle.site_store.specs.declared.store_error.StoreError.{StoreError}
use Rattle.site_store.specs.declared.store_error.StoreError.TheVariants.{Spent}
use Rattle.site_store.specs.declared.placement.Placement.{Placement}
use Rattle.site_store.specs.Changing.{IsAfterChange, IsPlacementOfChange, MayChange, change_deeds, changed_items, suspension_deeds, with_suspensions}
use Rattle.site_store.specs.InTurn.{DoesInTurn}
use Rattle.site_store.specs.Placements.{record_needs_more, suspension_needs_more}
use Rattle.site_store.specs.Sites.{SiteState}

-- ---- what follows a mark

abbrev pub has_items : List Item → Bool
has_items [] = false
has_items (i ∷ items) = true

-- Whether a change names a row. Then its record follows a mark that has to come first; hits alone are told by that mark.
abbrev pub names_rows : Change → List PairRow → Bool
names_rows change rows = has_items (changed_items change rows)

-- By whether a record follows: whether one would need a number after the greatest that is placed so.
abbrev pub rows_need_more : (follows : Bool) → Placement → (next mark : ℕ) → Bool
rows_need_more true placement next mark = record_needs_more placement next mark
rows_need_more false placement next mark = suspension_needs_more placement next mark

abbrev pub are_rows_spent : (follows : Bool) → Placement → SiteState → Bool
are_rows_spent follows placement site = rows_need_more follows placement site.at.number site.mark.number

-- The deeds, and the site after them. Hits alone have the items that were formed first.
abbrev pub rows_deeds : (follows : Bool) → Placement → SiteState → (cut : ℕ) → (failed : List Bool) → List Deed
rows_deeds true placement site cut failed = change_deeds placement site cut failed
rows_deeds false placement site cut failed = suspension_deeds placement site cut failed

abbrev pub IsAfterRows : (follows : Bool) → (cut : ℕ) → Change → Placement → (first : List Item) → (site next : SiteState) → PlantState → Type 0
IsAfterRows true cut change placement first site next old = IsAfterChange cut change placement site next old
IsAfterRows false cut change placement first site next old = next ≡ with_suspensions old.journals placement cut first next.failed site

-- ---- the record

-- It may be logged: the table is what the change makes of the rows on the devices, and no change waits where it names no row.
pub record MayLogRows (tells : Type 0) (cut : ℕ) (change : Change) (site : SiteState) (plant : PlantState) : Type 0 where
  pub may : MayChange tells cut change site plant
  pub level : names_rows change site.table.rows ≡ false → site.is_ahead ≡ false

-- It is logged. As it is formed first it decides the placement, and the numbers by that decide whether it is logged at all.
pub record LogsRecord (tells : Type 0) (cut : ℕ) (change : Change) (site next : SiteState) (old new : PlantState) (result : Result (Unit {0}) StoreError) : Type 0 where
  pub placement : Placement
  pub is_placement : IsPlacementOfChange cut change site old placement
  pub spent : IsErrOf result Spent ↔ (are_rows_spent (names_rows change site.table.rows) placement site ≡ true)
  pub after : OnOk result (IsAfterRows (names_rows change site.table.rows) cut change placement is_placement.first site next old)
  pub does : DoesInTurn tells (rows_deeds (names_rows change site.table.rows) placement site cut next.failed) site old new result
