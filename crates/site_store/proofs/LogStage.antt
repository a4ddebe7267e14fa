-- What is known of a group before its record is put, and what follows once it was put or failed.
use Rattle.std.proofs.Common.{◌≡◌, ℕ, ◌++◌, Bool, List, [], ◌∷◌, Ok, Err, Result, sym, ap, subst, ◌∙◌}
use Rattle.crash_plant.specs.declared.device.Device.TheVariants.{Volume}
use Rattle.crash_plant.specs.Calls.{SameSite, WorksOn}
use Rattle.crash_plant.specs.Choices.{IsChoice}
use Rattle.crash_plant.specs.Moments.{PlantState}
use Rattle.applier.specs.Returns.{WorksOnLent}
use Rattle.applier.proofs.Works.{lent_of_works, none_lent_lent}
use Rattle.pair_table.specs.declared.row.PairRow.{PairRow}
use Rattle.pending_queue.specs.Groups.{FormedGroup}
use Rattle.xrc_journal.specs.Items.{Item}
use Rattle.record_rows.specs.Deeds.{Deed}
use Rattle.record_rows.specs.Deeds.Deed.{Logged}
use Rattle.site_store.specs.declared.store_error.StoreError.{StoreError}
use Rattle.site_store.specs.declared.placement.Placement.{Placement}
use Rattle.site_store.specs.InTurn.{DoesInTurn}
use Rattle.site_store.specs.Logging.{AreItemsOf, DoesLog, FailByEntries, FailedBetween, IsOfLog, LogsBy, failed_before, log_deeds, rows_before, rows_logged}
use Rattle.site_store.specs.Recording.{ShowsRecord, group_with}
use Rattle.site_store.specs.Records.{IsJournal, after_record, after_placement, one_more}
use Rattle.site_store.specs.Sites.{SiteState}
use Rattle.site_store.specs.Standing.{Leaves}
use Rattle.site_store.proofs.ComesFirst.{ComesFirst, record_do}
use Rattle.site_store.proofs.LogPut.{IsReady, MakesDeed, fits_logged, logged_site, put_stands}
use Rattle.site_store.proofs.LogReads.{items_still}
pub use Rattle.site_store.proofs.RecordStands.{stands_more}

pub site_back : (old new : PlantState) → SameSite old new → SameSite new old
site_back old new same = record { journals = sym same.journals; volumes = sym same.volumes; lengths = λ d. sym (same.lengths d) }

-- What is known of a group's record before it is put.
pub record IsGroupReady (tells : Type 0) (group : FormedGroup) (placement : Placement) (site : SiteState) (after : List PairRow) (plant : PlantState) (items : List Item) : Type 0 where
  pub place : IsReady group.cut.0 placement site after plant items
  pub items_are : AreItemsOf tells group site.failed site.told after plant items
  pub makes : MakesDeed tells (Logged group.cut.0 group.entries after) group.cut.0 site after plant items

-- Before the record is put: `site` is the site at the start, and `last` the one then, after a mark where one was made first.
pub record PutStage (tells : Type 0) (group : FormedGroup) (placement : Placement) (site last : SiteState) (after : List PairRow) (old plant : PlantState) (items : List Item) : Type 0 where
  pub ready : IsGroupReady tells group placement last after plant items
  pub early : List Bool
  pub early_failed : FailedBetween site.failed early last.failed
  pub by_entries : FailByEntries site.table.rows group.entries (failed_before placement site early) last.failed
  pub before_is : last.told ≡ rows_before placement site early
  pub after_is : after ≡ rows_logged placement site group early last.failed
  pub bytes : tells → (d : ℕ) → plant.bytes (Volume d) ≡ old.bytes (Volume d)
  pub next_is : (sets : ℕ) → logged_site sets placement group.cut.0 items after (one_more last.since) last ≡ record (after_record sets placement group.cut.0 items after last.failed site) { since = one_more (after_placement placement site).since; waiting = items }
  pub first : List Deed
  pub before : ComesFirst tells first site last old plant
  pub deeds_are : first ++ Logged group.cut.0 group.entries after ∷ [] ≡ log_deeds placement site group early last.failed
  pub works : WorksOnLent tells (IsOfLog site group) old plant

module _ (tells : Type 0) (group : FormedGroup) (placement : Placement) (site last : SiteState) (after : List PairRow) (old plant new : PlantState) (items : List Item) (stage : PutStage tells group placement site last after old plant items)
    (read : tells → IsChoice plant plant.clock plant.bytes) (works : WorksOn tells IsJournal plant new) where
  does_by : (result : Result (Unit {0}) StoreError) → ShowsRecord tells placement last.mark.at last.at (group_with group.cut.0 items) plant new result → DoesLog tells group placement stage.early site last old new result
  does_by result shows = subst (λ (deeds : List Deed). DoesInTurn tells deeds site old new result) stage.deeds_are
      (record_do tells stage.first site last old plant new stage.before placement group.cut.0 (Logged group.cut.0 group.entries after) items after stage.ready.place (λ told e stands. stage.ready.makes) read works result shows)

  -- Where it isn't put, the deeds have begun.
  pub put_fails : (next : SiteState) (error : StoreError) → next.failed ≡ last.failed → ShowsRecord tells placement last.mark.at last.at (group_with group.cut.0 items) plant new (Err error) → LogsBy tells group placement site next old new (Err error)
  put_fails next error is shows = record {
    early = stage.early;
    early_failed = subst (λ (f : List Bool). FailedBetween site.failed stage.early f) (sym is) stage.early_failed;
    by_entries = subst (λ (f : List Bool). FailByEntries site.table.rows group.entries (failed_before placement site stage.early) f) (sym is) stage.by_entries;
    items = tt;
    next_is = tt;
    does = subst (λ (f : List Bool). DoesInTurn tells (log_deeds placement site group stage.early f) site old new (Err error)) (sym is) (does_by (Err error) shows);
  }

  -- Once it was put, the group is logged.
  module _ (shows : ShowsRecord tells placement last.mark.at last.at (group_with group.cut.0 items) plant new (Ok tt)) where
    abbrev next : SiteState
    next = logged_site plant.journals placement group.cut.0 items after (one_more last.since) last

    items_old : AreItemsOf tells group last.failed (rows_before placement site stage.early) after old items
    items_old =
        subst (λ (rows : List PairRow). AreItemsOf tells group last.failed rows after old items) stage.before_is
        (items_still tells group last.failed last.told after plant old items (site_back old plant stage.works.site) (λ told d. sym (stage.bytes told d)) stage.ready.items_are)

    pub put_logs : LogsBy tells group placement site next old new (Ok tt)
    put_logs = record {
      early = stage.early;
      early_failed = stage.early_failed;
      by_entries = stage.by_entries;
      items = items_old;
      next_is =
          ap (λ (sets : ℕ). logged_site sets placement group.cut.0 items after (one_more last.since) last) stage.works.site.journals ∙ stage.next_is old.journals
          ∙ ap (λ (rows : List PairRow). record (after_record old.journals placement group.cut.0 items rows last.failed site) { since = one_more (after_placement placement site).since; waiting = items }) stage.after_is;
      does = does_by (Ok tt) shows;
    }

    -- The site goes on after it.
    pub put_leaves : Leaves tells (λ e. e) site next old new
    put_leaves = record {
      fits = fits_logged group.cut.0 placement last after plant items stage.ready.place (one_more last.since) items stage.ready.place.keep new works.site (none_lent_lent tells IsJournal plant new (lent_of_works tells IsJournal plant new works) stage.ready.place.fits.home);
      stands = λ told e stands.
          put_stands group.cut.0 placement last after plant items stage.ready.place tells (Logged group.cut.0 group.entries after) stage.ready.makes told e (stage.before.stands told e stands) (read told) new works shows (one_more last.since);
    }
