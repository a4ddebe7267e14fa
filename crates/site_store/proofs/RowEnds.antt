-- The answers of calls that log rows: the deeds that they are, and the site after them, by the record's placement.
use Rattle.std.proofs.Common.{◌≡◌, ◌≢◌, ℕ, Bool, false, true, List, [], ◌∷◌, Result, Ok, Err, refl, ap}
use Rattle.std.specs.Prelude.{OnOk}
use Rattle.crash_plant.specs.Moments.{PlantState}
use Rattle.pair_table.specs.declared.command.Change.{Change}
use Rattle.pair_table.specs.declared.row.PairRow.{PairRow}
use Rattle.record_rows.specs.Deeds.{Deed}
use Rattle.record_rows.specs.Deeds.Deed.{Changed}
use Rattle.record_rows.specs.Hits.{hit_now}
use Rattle.record_rows.specs.Records.{rows_with_hits}
use Rattle.site_store.specs.DoneDeeds.{BeginsDeeds}
use Rattle.site_store.specs.Exceptions.{Exceptions}
use Rattle.site_store.proofs.Moments.{have_begun, more_follow}
use Rattle.site_store.proofs.Single.{no_call}
use Rattle.xrc_journal.specs.Items.{Item}
use Rattle.site_store.specs.declared.store_error.StoreError.{StoreError}
use Rattle.site_store.specs.declared.placement.Placement.{Placement}
use Rattle.site_store.specs.declared.placement.Placement.TheVariants.{Here, Switched, Marked}
use Rattle.site_store.specs.Changing.{change_deeds, change_deeds_of, changed_items, suspension_deeds, suspension_deeds_of, with_suspensions}
use Rattle.site_store.specs.Records.{after_mark, after_record}
use Rattle.site_store.specs.Placements.{record_needs_more}
use Rattle.site_store.specs.RowRecords.{rows_need_more}
use Rattle.site_store.specs.Sites.{SiteState}
use Rattle.site_store.specs.Standing.{Leaves, none_excepted}
use Rattle.site_store.proofs.RecordStands.{stands_more}
use Rattle.site_store.proofs.RowsLogged.{with_logged_rows}

-- ---- what is left after an answer

-- After a mark alone no track is excepted, so none is that wasn't.
pub mark_leaves : (tells : Type 0) (site next : SiteState) (old new : PlantState) (result : Result (Unit {0}) StoreError) → OnOk result (Leaves tells (λ e. none_excepted) site next old new) → OnOk result (Leaves tells (λ e. e) site next old new)
mark_leaves tells site next old new (Ok value) leaves = record { fits = leaves.fits; stands = λ told e stands. stands_more e none_excepted next new (λ d x kept. refl) (leaves.stands told e stands) }
mark_leaves tells site next old new (Err error) leaves = tt

-- Where nothing was called any deeds begin.
pub begin_here : (plant : PlantState) (e : Exceptions) (rows : List PairRow) (deeds : List Deed) → BeginsDeeds e rows deeds plant plant
begin_here plant e rows deeds = more_follow plant plant e rows [] deeds (have_begun plant plant e rows [] (no_call plant e rows))

-- ---- the numbers

-- Without a mark hits alone need what any record needs.
pub record_enough : (follows : Bool) (placement : Placement) (next mark : ℕ) → placement ≢ Marked → rows_need_more follows placement next mark ≡ false → record_needs_more placement next mark ≡ false
record_enough true placement next mark plain not = not
record_enough false Here next mark plain not = not
record_enough false Switched next mark plain not = not
record_enough false Marked next mark plain not = absurd (plain refl)

-- ---- the site after a record

-- Without a mark before it the site is the one before it, but for the record.
pub plain_after : (journals : ℕ) (placement : Placement) (cut : ℕ) (items : List Item) (rows : List PairRow) (site : SiteState) → placement ≢ Marked → with_logged_rows journals placement cut items rows site ≡ after_record journals placement cut items rows site.failed site
plain_after journals Here cut items rows site plain = refl
plain_after journals Switched cut items rows site plain = refl
plain_after journals Marked cut items rows site plain = absurd (plain refl)

pub plain_suspensions : (journals : ℕ) (placement : Placement) (cut : ℕ) (items : List Item) (failed : List Bool) (site : SiteState) → placement ≢ Marked
    → after_record journals placement cut items (rows_with_hits site.level cut site.failed site.told) site.failed site ≡ with_suspensions journals placement cut items failed site
plain_suspensions journals Here cut items failed site plain = refl
plain_suspensions journals Switched cut items failed site plain = refl
plain_suspensions journals Marked cut items failed site plain = absurd (plain refl)

-- the site after a mark that told these rows, while a change waits
abbrev pub with_told_mark : List PairRow → (failed : List Bool) → SiteState → SiteState
with_told_mark marked failed site = record (after_mark site.mark.ended marked failed site) { table = site.table; is_ahead = true }

-- ---- the deeds

module _ (site : SiteState) (cut : ℕ) (failed : List Bool) where
  pub suspension_is : (placement : Placement) → hit_now site.failed site.told ≢ [] → suspension_deeds_of placement site cut failed ≡ suspension_deeds placement site cut failed
  suspension_is placement some = by_hit (hit_now site.failed site.told) some
    where
      by_hit : (hit : List ℕ) → hit ≢ [] → elim hit [ [] ↦ [] | d ∷ more ↦ suspension_deeds placement site cut failed ] ≡ suspension_deeds placement site cut failed
      by_hit [] some = absurd (some refl)
      by_hit (d ∷ more) some = refl

  pub suspension_none : (placement : Placement) → hit_now site.failed site.told ≡ [] → suspension_deeds_of placement site cut failed ≡ []
  suspension_none placement none = ap (λ (hit : List ℕ). elim hit [ [] ↦ [] | d ∷ more ↦ suspension_deeds placement site cut failed ]) none

  pub suspension_plain : (placement : Placement) → placement ≢ Marked → suspension_deeds placement site cut failed ≡ Changed cut (rows_with_hits site.level cut failed site.told) ∷ []
  suspension_plain Here plain = refl
  suspension_plain Switched plain = refl
  suspension_plain Marked plain = absurd (plain refl)

  pub change_is : (change : Change) (placement : Placement) → changed_items change site.table.rows ≢ [] → change_deeds_of change placement site cut failed ≡ change_deeds placement site cut failed
  change_is change placement some = by_items (changed_items change site.table.rows) some
    where
      by_items : (items : List Item) → items ≢ [] → elim items [ [] ↦ [] | i ∷ more ↦ change_deeds placement site cut failed ] ≡ change_deeds placement site cut failed
      by_items [] some = absurd (some refl)
      by_items (i ∷ more) some = refl

  pub change_none : (change : Change) (placement : Placement) → changed_items change site.table.rows ≡ [] → change_deeds_of change placement site cut failed ≡ []
  change_none change placement none = ap (λ (items : List Item). elim items [ [] ↦ [] | i ∷ more ↦ change_deeds placement site cut failed ]) none

  pub change_plain : (placement : Placement) → placement ≢ Marked → change_deeds placement site cut failed ≡ Changed cut (rows_with_hits site.level cut failed site.table.rows) ∷ []
  change_plain Here plain = refl
  change_plain Switched plain = refl
  change_plain Marked plain = absurd (plain refl)
