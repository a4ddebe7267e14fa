-- A record after what comes first, nothing or a mark: the deeds and the site after both, over plain states.
use Rattle.std.proofs.Common.{◌≡◌, ℕ, ◌++◌, Bool, List, [], ◌∷◌, Result, Ok, Err, refl, sym, subst}
use Rattle.std.specs.Prelude.{OnOk}
use Rattle.crash_plant.specs.declared.spot.Spot.{Spot}
use Rattle.crash_plant.specs.Calls.{WorksOn}
use Rattle.crash_plant.specs.Choices.{IsChoice}
use Rattle.crash_plant.specs.Moments.{PlantState}
use Rattle.crash_plant.proofs.Steps.{none_lent_then}
use Rattle.pair_table.specs.declared.row.PairRow.{PairRow}
use Rattle.record_rows.specs.Deeds.{Deed, rows_after_deeds}
use Rattle.record_rows.specs.Deeds.Deed.{Marked as MarkedDeed}
use Rattle.site_store.specs.DoneDeeds.{BeginsDeeds, DoesDeeds}
use Rattle.site_store.specs.Exceptions.{Exceptions, excepted_after}
use Rattle.site_store.proofs.Composing.{begin_after, go_on}
use Rattle.site_store.proofs.Single.{no_call}
use Rattle.xrc_journal.specs.Items.{Item}
use Rattle.xrc_journal.specs.Walks.{Logged}
use Rattle.site_store.specs.declared.store_error.StoreError.{StoreError}
use Rattle.site_store.specs.declared.placement.Placement.{Placement}
use Rattle.site_store.specs.Marking.{MakesMark}
use Rattle.site_store.specs.Recording.{ShowsRecord, group_with}
use Rattle.site_store.specs.Records.{IsJournal}
use Rattle.site_store.specs.InTurn.{DoesInTurn}
use Rattle.site_store.specs.Sites.{SiteState}
use Rattle.site_store.specs.Standing.{Leaves, SiteStands, none_excepted}
use Rattle.site_store.proofs.LogPut.{IsReady, MakesDeed, fits_logged, put_begins, put_does, put_stands}
use Rattle.site_store.proofs.MarkFirst.{mark_does}
use Rattle.site_store.proofs.RecordStands.{stands_more}
use Rattle.site_store.proofs.RowItems.{AreRowItems}
use Rattle.site_store.proofs.RowsLogged.{rows_stand, with_logged_rows}

-- ---- what comes first

-- Deeds come first, and lead from a site to another, which stands with what it was excepted from before and after them.
pub record ComesFirst (tells : Type 0) (first : List Deed) (site here : SiteState) (old mid : PlantState) : Type 0 where
  pub does : tells → (e : Exceptions) → SiteStands e site old → DoesDeeds e site.told first old mid
  pub stands : tells → (e : Exceptions) → SiteStands e site old → SiteStands e here mid
  pub after : tells → (e : Exceptions) → SiteStands e site old → SiteStands (excepted_after site.told first e) here mid
  pub rows : rows_after_deeds first site.told ≡ here.told

-- nothing
pub nothing_first : (tells : Type 0) (site : SiteState) (plant : PlantState) → ComesFirst tells [] site site plant plant
nothing_first tells site plant = record {
  does = λ told e stands. no_call plant e site.told;
  stands = λ told e stands. stands;
  after = λ told e stands. stands;
  rows = refl;
}

-- What is so of each answer is so of all.
pub all_ok : (result : Result (Unit {0}) StoreError) (site : SiteState) (plant : PlantState) (P : Exceptions → Type 0) → ((e : Exceptions) → SiteStands e site plant → OnOk result (P e)) → OnOk result ((e : Exceptions) → SiteStands e site plant → P e)
all_ok (Ok value) site plant P each = each
all_ok (Err error) site plant P each = tt

module _ (tells : Type 0) (site here : SiteState) (old mid : PlantState) (ended : Bool) (rows : List PairRow) (idle : site.waiting ≡ []) where
  -- a mark, which is made
  pub mark_first : MakesMark tells ended rows site here old mid (Ok tt) → Leaves tells (λ e. none_excepted) site here old mid → here.told ≡ rows → ComesFirst tells (MarkedDeed site.at ended rows ∷ []) site here old mid
  mark_first makes leaves told_is = record {
    does = λ told e stands. mark_does tells ended rows site here old mid (Ok tt) makes idle told e stands;
    stands = λ told e stands. stands_more e none_excepted here mid (λ d x kept. refl) (leaves.stands told e stands);
    after = λ told e stands. stands_more (excepted_after site.told (MarkedDeed site.at ended rows ∷ []) e) none_excepted here mid (λ d x kept. refl) (leaves.stands told e stands);
    rows = sym told_is;
  }

  -- the same of each answer
  pub mark_done : (result : Result (Unit {0}) StoreError) → MakesMark tells ended rows site here old mid result → tells → OnOk result ((e : Exceptions) → SiteStands e site old → DoesDeeds e site.told (MarkedDeed site.at ended rows ∷ []) old mid)
  mark_done result makes told = all_ok result site old (λ e. DoesDeeds e site.told (MarkedDeed site.at ended rows ∷ []) old mid) (λ e stands. mark_does tells ended rows site here old mid result makes idle told e stands)

-- ---- the record after it

-- What is so once a record was put.
put_ok : (tells A : Type 0) (placement : Placement) (from at : Spot) (g : Logged) (old new : PlantState) (result : Result (Unit {0}) StoreError) → ShowsRecord tells placement from at g old new result → (ShowsRecord tells placement from at g old new (Ok tt) → A) → OnOk result A
put_ok tells A placement from at g old new (Ok value) shows then = then shows
put_ok tells A placement from at g old new (Err error) shows then = tt

module _ (tells : Type 0) (first : List Deed) (site here : SiteState) (old mid new : PlantState) (before : ComesFirst tells first site here old mid) (placement : Placement) (cut : ℕ) (deed : Deed) (items : List Item) (rows : List PairRow) (ready : IsReady cut placement here rows mid items)
    (makes : tells → (e : Exceptions) → SiteStands e site old → MakesDeed tells deed cut here rows mid items) (read : tells → IsChoice mid mid.clock mid.bytes) (works : WorksOn tells IsJournal mid new) (result : Result (Unit {0}) StoreError)
    (shows : ShowsRecord tells placement here.mark.at here.at (group_with cut items) mid new result) where
  -- The deeds that came first are done, and then the record's.
  pub record_do : DoesInTurn tells (first ++ deed ∷ []) site old new result
  record_do = record {
    begins = λ told e stands.
        let f = excepted_after site.told first e in
        begin_after old mid new e site.told first (deed ∷ []) (before.does told e stands)
        (subst (λ (l : List PairRow). BeginsDeeds f l (deed ∷ []) mid new) (sym before.rows) (put_begins cut placement here rows mid items ready tells deed (makes told e stands) told f (before.after told e stands) (read told) new works result shows));
    does = λ told. put_ok tells ((e : Exceptions) → SiteStands e site old → DoesDeeds e site.told (first ++ deed ∷ []) old new) placement here.mark.at here.at (group_with cut items) mid new result shows (λ ok e stands.
        let f = excepted_after site.told first e in
        go_on old mid new e site.told first (deed ∷ []) (before.does told e stands)
        (subst (λ (l : List PairRow). DoesDeeds f l (deed ∷ []) mid new) (sym before.rows) (put_does cut placement here rows mid items ready tells deed (makes told e stands) told f (before.after told e stands) (read told) new works ok)));
  }

  -- Items of rows alone needn't wait then.
  pub rows_leave : AreRowItems items → OnOk result (Leaves tells (λ e. e) site (with_logged_rows mid.journals placement cut items rows here) old new)
  rows_leave are = put_ok tells (Leaves tells (λ e. e) site (with_logged_rows mid.journals placement cut items rows here) old new) placement here.mark.at here.at (group_with cut items) mid new result shows (λ ok. record {
    fits = fits_logged cut placement here rows mid items ready here.since here.waiting ready.fits.items new works.site (none_lent_then tells IsJournal mid new works ready.fits.home);
    stands = λ told e stands. rows_stand e mid.journals placement cut items rows here new are ready.idle
        (put_stands cut placement here rows mid items ready tells deed (makes told e stands) told e (before.stands told e stands) (read told) new works ok here.since);
  })
