-- The site after the next mark, and the table whose rows it tells, by whether a change waits to be logged; over plain states.
use Rattle.std.proofs.Common.{◌≡◌, Bool, true, false, cond, List, [], length, replicate, Result, refl, subst, ◌∙◌}
use Rattle.std.specs.List.{list_all}
use Rattle.control_set.specs.declared.value.Mark.{Mark}
use Rattle.crash_plant.specs.Moments.{PlantState}
use Rattle.pair_table.specs.declared.level.Level.TheVariants.{Volume as VolumeLevel}
use Rattle.pair_table.specs.declared.row.PairRow.{PairRow}
use Rattle.pair_table.specs.Tables.{Table, with_rows}
use Rattle.record_rows.specs.Hits.{hit_now, rows_marked}
use Rattle.site_store.specs.declared.store_error.StoreError.{StoreError}
use Rattle.site_store.specs.Marking.{MakesMark, after_next_mark, rows_at_mark}
use Rattle.site_store.specs.Records.{after_mark}
use Rattle.site_store.specs.Sites.{SiteState, next_mark}
use Rattle.site_store.specs.Standing.{row_has_volume}
use Rattle.site_store.proofs.MarkRows.{hits_alone}

-- ---- the site

module _ (ended : Bool) (rows : List PairRow) (failed : List Bool) (site : SiteState) where
  pub after_level : site.is_ahead ≡ false → after_next_mark ended rows failed site ≡ after_mark ended rows failed site
  after_level level = λ i. record (after_mark ended rows failed site) { table = cond (level i) site.table (with_rows site.table rows); is_ahead = level i }

  pub after_ahead : site.is_ahead ≡ true → after_next_mark ended rows failed site ≡ record (after_mark ended rows failed site) { table = site.table; is_ahead = true }
  after_ahead ahead = λ i. record (after_mark ended rows failed site) { table = cond (ahead i) site.table (with_rows site.table rows); is_ahead = ahead i }

-- The same as a site's fields show it.
pub marked_view : (view site : SiteState) (ended : Bool) (table : Table) (told rows : List PairRow) (mark : Mark) → view ≡ site → table ≡ cond view.is_ahead view.table (with_rows view.table told) → told ≡ rows → mark ≡ next_mark site ended
    → record view { table = table; told = told; mark = mark; since = 0; waiting = []; written = replicate (length view.written) false } ≡ after_next_mark ended rows site.failed site
marked_view view site ended table told rows mark is table_is told_is mark_is =
    let table_there : table ≡ cond site.is_ahead site.table (with_rows site.table rows) = table_is ∙ (λ i. cond (is i).is_ahead (is i).table (with_rows (is i).table (told_is i))) in
    λ i. record (is i) { table = table_there i; told = told_is i; mark = mark_is i; since = 0; waiting = []; written = replicate (length (is i).written) false }

-- ---- the tables

pub told_rows : (ahead : Bool) (told table : Table) → (cond ahead told table).rows ≡ cond ahead told.rows table.rows
told_rows true told table = refl
told_rows false told table = refl

pub told_session : (ahead : Bool) (told table : Table) → told.session ≡ table.session → (cond ahead told table).session ≡ table.session
told_session true told table same = same
told_session false told table same = refl

module _ (table : Table) (rows : List PairRow) where
  pub next_session : (ahead : Bool) → (cond ahead table (with_rows table rows)).session ≡ table.session
  next_session true = refl
  next_session false = refl

  pub next_started : (ahead : Bool) → table.is_started ≡ true → (cond ahead table (with_rows table rows)).is_started ≡ true
  next_started true started = started
  next_started false started = started

  pub next_have : (plant : PlantState) (ahead : Bool) → list_all (row_has_volume plant) table.rows ≡ true → list_all (row_has_volume plant) rows ≡ true → list_all (row_has_volume plant) (cond ahead table (with_rows table rows)).rows ≡ true
  next_have plant true have told = have
  next_have plant false have told = told

-- ---- a mark that a record follows

-- Under level VOLUME a mark tells the hits alone.
pub makes_alone : (tells : Type 0) (ended : Bool) (failed : List Bool) (site next : SiteState) (old new : PlantState) (result : Result (Unit {0}) StoreError) → MakesMark tells ended (rows_at_mark VolumeLevel site failed) site next old new result
    → MakesMark tells ended (rows_marked site.time (hit_now failed site.told) site.told) site next old new result
makes_alone tells ended failed site next old new result makes = subst (λ (rows : List PairRow). MakesMark tells ended rows site next old new result) (hits_alone site.time failed site.told) makes
