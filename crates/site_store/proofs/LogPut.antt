-- A record put at the journal's end, whatever its deed is: what it asks, and what it leaves, over plain states.
use Rattle.std.proofs.Common.{◌≡◌, ℕ, ◌+◌, ◌-◌, ◌^◌, ◌≤◌, ◌<◌, true, false, List, [], ◌∷◌, length, Ok, Result, None, refl, ap, ◌∙◌, arith}
use Rattle.std.specs.List.{list_all}
use Rattle.crash_plant.specs.declared.device.Device.TheVariants.{Journal}
use Rattle.crash_plant.specs.declared.spot.Spot.{Spot}
use Rattle.crash_plant.specs.Calls.{NoneLent, SameSite, WorksOn}
use Rattle.crash_plant.specs.Choices.{IsChoice}
use Rattle.crash_plant.specs.Moments.{PlantState}
use Rattle.pair_table.specs.declared.row.PairRow.{PairRow}
use Rattle.pair_table.specs.Tables.{with_rows}
use Rattle.record_rows.specs.Deeds.{Deed}
use Rattle.xrc_journal.specs.Items.{AreItems, Item, body_spelling, form_of}
use Rattle.xrc_journal.specs.Records.{most_body}
use Rattle.xrc_journal.specs.Walks.{Logged as LoggedGroup}
use Rattle.site_store.specs.Ring.{FitsAfter}
use Rattle.site_store.specs.Deeds.{means_by_deed, with_time_and_rows}
use Rattle.site_store.specs.DoneDeeds.{BeginsDeeds, DoesDeeds}
use Rattle.site_store.specs.Exceptions.{Exceptions}
use Rattle.site_means.specs.Laws.{with_group}
use Rattle.site_means.specs.Walk.{Walk, first_unfit, rows_through}
use Rattle.site_store.specs.declared.store_error.StoreError.{StoreError}
use Rattle.site_store.specs.declared.placement.Placement.{Placement}
use Rattle.site_store.specs.declared.placement.Placement.TheVariants.{Here, Switched, Marked}
use Rattle.site_store.specs.Recording.{HasRoomBy, MayPutRecord, RecordIsShown, ShowsRecord, group_with, walk_after_record}
use Rattle.site_store.specs.Records.{IsJournal}
use Rattle.site_store.specs.Sites.{SiteState, meant_for}
use Rattle.site_store.specs.Standing.{FitsPlant, SiteStands, row_has_volume}
use Rattle.site_store.specs.Placements.{spot_after_record}
use Rattle.site_store.proofs.LogReads.{fits_still}
use Rattle.site_store.proofs.MarkFirst.{next_there}
use Rattle.site_store.proofs.RecordDeeds.{LeavesContent, record_begins, record_does}
use Rattle.site_store.proofs.RecordStands.{IsAfterGroup, group_stands}
use Rattle.site_store.proofs.StandsEnd.{fits_after, stands_end}

-- What is known of a record's place before it is put.
pub record IsReady (cut : ℕ) (placement : Placement) (site : SiteState) (after : List PairRow) (plant : PlantState) (items : List Item) : Type 0 where
  pub fits : FitsPlant site plant
  pub idle : site.waiting ≡ []
  pub late : site.time ≤ cut
  pub keep : AreItems (form_of plant) items
  pub have : list_all (row_has_volume plant) after ≡ true
  pub room : HasRoomBy plant placement site.mark.at site.at items
  pub number : site.at.number ≤ 2 ^ 64 - 2
  pub short : length (body_spelling items) ≤ most_body

-- Its items lead to the rows after it, and leave of each track what the deed does.
pub record MakesDeed (tells : Type 0) (deed : Deed) (cut : ℕ) (site : SiteState) (after : List PairRow) (plant : PlantState) (items : List Item) : Type 0 where
  pub lead : rows_through items site.told ≡ after
  pub fit : first_unfit plant.volumes 0 site.told items ≡ None
  pub same : means_by_deed (meant_for site) deed ≡ with_group (group_with cut items) (meant_for site)
  pub leaves : tells → (e : Exceptions) (stands : SiteStands e site plant) → IsChoice plant plant.clock plant.bytes → LeavesContent e site.told deed (meant_for site) stands.walk (group_with cut items) plant stands.meant same

-- the site after it, where these items wait then
abbrev pub site_after : (sets : ℕ) → Placement → (cut : ℕ) → List Item → (rows : List PairRow) → (since : ℕ) → (waiting : List Item) → SiteState → SiteState
site_after sets placement cut items rows since waiting site = record site {
  table = with_rows site.table rows;
  is_ahead = false;
  told = rows;
  time = cut;
  at = spot_after_record sets placement items site.at;
  since = since;
  waiting = waiting;
}

-- the site after a group's record
abbrev pub logged_site : (sets : ℕ) → Placement → (cut : ℕ) → List Item → (rows : List PairRow) → (since : ℕ) → SiteState → SiteState
logged_site sets placement cut items rows since site = site_after sets placement cut items rows since items site

-- The next record's spot is one of the plant's.
record SpotFits (plant : PlantState) (at : Spot) : Type 0 where
  set : at.set < plant.journals
  room : at.place + 24 ≤ plant.lengths (Journal at.set)
  next : 1 ≤ at.number

spot_fits : (plant : PlantState) (placement : Placement) (from at : Spot) (items : List Item) → at.set < plant.journals → HasRoomBy plant placement from at items → SpotFits plant (spot_after_record plant.journals placement items at)
spot_fits plant Here from at items there room = record { set = there; room = omega (arith, room); next = omega arith }
spot_fits plant Switched from at items there room = let long = room.room in record { set = next_there plant.journals at.set there; room = omega (arith, long); next = omega arith }
spot_fits plant Marked from at items there room = let long = room.room in record { set = next_there plant.journals at.set there; room = omega (arith, long); next = omega arith }

same_end : (sets : ℕ) (placement : Placement) (g : LoggedGroup) (w : Walk) → (walk_after_record sets placement g w).at ≡ spot_after_record sets placement g.items w.at
same_end sets Here g w = refl
same_end sets Switched g w = refl
same_end sets Marked g w = refl

module _ (cut : ℕ) (placement : Placement) (site : SiteState) (after : List PairRow) (plant : PlantState) (items : List Item) (ready : IsReady cut placement site after plant items) where
  abbrev g : LoggedGroup
  g = group_with cut items

  low : site.at.number < 2 ^ 64
  low = omega (arith, ready.number)

  -- It may be put.
  pub may_put : (tells : Type 0) → (tells → (e : Exceptions) × SiteStands e site plant) → (tells → IsChoice plant plant.clock plant.bytes) → (tells → length (plant.bytes (Journal site.at.set)) ≡ plant.lengths (Journal site.at.set))
      → MayPutRecord tells placement site.mark.at site.at cut items plant
  may_put tells stands read size = record {
    grows = record { there = ready.fits.set; room = ready.fits.room; number = ready.number };
    body = record { keep = ready.keep; short = ready.short };
    room = ready.room;
    ends = λ told. let at = stands told in stands_end at.0 site plant at.1 ready.fits plant.bytes (read told) low cut ready.late (size told);
  }

  -- After it the site's numbers fit the plant.
  pub fits_logged : (since : ℕ) (waiting : List Item) → AreItems (form_of plant) waiting → (new : PlantState) → SameSite plant new → NoneLent new → FitsPlant (site_after plant.journals placement cut items after since waiting site) new
  fits_logged since waiting keep new same home =
      let fits = ready.fits in
      let spot = spot_fits plant placement site.mark.at site.at items fits.set ready.room in
      fits_still plant new same (site_after plant.journals placement cut items after since waiting site) home (record {
        home = fits.home;
        controls = fits.controls;
        lengths = fits.lengths;
        rows = ready.have;
        told = ready.have;
        mark = fits.mark;
        session = fits.session;
        started = fits.started;
        set = spot.set;
        room = spot.room;
        next = spot.next;
        time = omega (arith, fits.time, ready.late);
        failed = fits.failed;
        written = fits.written;
        items = keep;
      })

  module _ (tells : Type 0) (deed : Deed) (makes : MakesDeed tells deed cut site after plant items) (told : tells) (e : Exceptions) (stands : SiteStands e site plant) (read : IsChoice plant plant.clock plant.bytes) (new : PlantState) (works : WorksOn tells IsJournal plant new) where
    fits_there : FitsAfter plant.volumes (meant_for site) stands.walk g
    fits_there = fits_after e site plant stands ready.fits plant.bytes read low g ready.late makes.fit

    shown_by : (result : Result (Unit {0}) StoreError) → ShowsRecord tells placement site.mark.at site.at g plant new result → RecordIsShown placement (meant_for site) stands.walk g plant new
    shown_by result shows = shows.shown told (meant_for site) stands.walk refl stands.at stands.meant fits_there

    -- While it is put the deed begins.
    pub put_begins : (result : Result (Unit {0}) StoreError) → ShowsRecord tells placement site.mark.at site.at g plant new result → BeginsDeeds e site.told (deed ∷ []) plant new
    put_begins result shows = record_begins e site.told deed (meant_for site) stands.walk g plant stands.meant makes.same (makes.leaves told e stands read) tells told placement new works (shown_by result shows)

    module _ (shows : ShowsRecord tells placement site.mark.at site.at g plant new (Ok tt)) where
      -- Once it was put the deed is done.
      pub put_does : DoesDeeds e site.told (deed ∷ []) plant new
      put_does =
          record_does e site.told deed (meant_for site) stands.walk g plant stands.meant makes.same (makes.leaves told e stands read) tells told placement new works (shown_by (Ok tt) shows)
          (shows.meant told (meant_for site) stands.walk refl stands.at stands.meant fits_there)

      is_after : (since : ℕ) → IsAfterGroup plant.journals placement g stands.walk site (logged_site plant.journals placement cut items after since site)
      is_after since = record {
        meant_is = ap (λ (rows : List PairRow). with_time_and_rows cut rows (meant_for site)) makes.lead;
        mark_is = refl;
        at_is = same_end plant.journals placement g stands.walk ∙ ap (λ (s : Spot). spot_after_record plant.journals placement items s) stands.at;
        time_is = refl;
        waiting_is = refl;
        failed = λ d good. good;
        written = λ d. refl;
      }

      -- The site stands after it.
      pub put_stands : (since : ℕ) → SiteStands e (logged_site plant.journals placement cut items after since site) new
      put_stands since =
          group_stands tells told e site (logged_site plant.journals placement cut items after since site) plant new placement g stands ready.idle works (is_after since)
          (shows.meant told (meant_for site) stands.walk refl stands.at stands.meant fits_there) (shows.durable told stands.walk stands.at stands.journals)
