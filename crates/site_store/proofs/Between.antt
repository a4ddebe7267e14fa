-- What each call on a site leaves for the next one, over plain states.
use Rattle.std.proofs.Common.{◌≡◌, ◌≢◌, ℕ, ◌+◌, ◌*◌, ◌≤◌, ◌<◌, Bool, false, nat_lt, nat_le, List, [], ◌∷◌, length, Result, Ok, Err, refl, sym, ap, subst, ◌∙◌, arith}
use Rattle.std.specs.Prelude.{IfOk, OnOk}
use Rattle.std.proofs.lemmas.Bool.{and_from, le-leb, lt-ltb}
use Rattle.tod_stamp.specs.declared.stamp.Stamp.{Stamp}
use Rattle.crash_plant.specs.declared.device.Device.TheVariants.{Volume}
use Rattle.crash_plant.specs.Moments.{PlantState}
use Rattle.pair_table.specs.declared.command.Change.{Change}
use Rattle.pair_table.specs.declared.command.Change.TheVariants.{Added}
use Rattle.pair_table.specs.declared.level.Level.{Level}
use Rattle.pair_table.specs.declared.row.PairRow.{PairRow}
use Rattle.pair_table.specs.Tables.{with_row}
use Rattle.pending_queue.specs.Groups.{FormedGroup}
use Rattle.record_rows.specs.Hits.{hit_now}
use Rattle.site_means.specs.Walk.{rows_through}
use Rattle.xrc_journal.specs.Items.{Item}
use Rattle.site_store.specs.Exceptions.{Exceptions}
use Rattle.site_store.specs.declared.store_error.StoreError.{StoreError}
use Rattle.site_store.specs.declared.placement.Placement.{Placement}
use Rattle.site_store.specs.declared.placement.Placement.TheVariants.{Here, Switched, Marked}
use Rattle.site_store.specs.Applying.{with_applied}
use Rattle.site_store.specs.Changing.{LogsChange, MayChange, Suspends, changed_items, with_suspensions}
use Rattle.site_store.specs.Commands.{AreOnVolumes, IsToLog, after_put}
use Rattle.site_store.specs.Jobs.{has_device}
use Rattle.site_store.specs.Logging.{after_group}
use Rattle.site_store.specs.Marking.{MayMark}
use Rattle.site_store.specs.Records.{after_mark, after_record}
use Rattle.site_store.specs.Sites.{SiteState, new_site}
use Rattle.site_store.specs.Standing.{FitsPlant, Leaves, SiteStands, StandsFast, none_excepted}
use Rattle.site_store.proofs.Below.{below_volumes}
use Rattle.site_store.proofs.Commanded.{changes_may, put_rows_leave}
use Rattle.site_store.specs.IdleSites.{IsSiteIdle, IsSiteLogged}

-- ---- what any call leaves

goes_on : (tells : Type 0) (now : Exceptions → Exceptions) (site next : SiteState) (old new : PlantState) → StandsFast tells site old → Leaves tells now site next old new → StandsFast tells next new
goes_on tells now site next old new fast leaves = record {
  fits = leaves.fits;
  stands = λ told. let s = fast.stands told in (now s.0, leaves.stands told s.0 s.1);
}

-- a site that is this one
idle_is : (tells : Type 0) (site next : SiteState) (plant : PlantState) → next ≡ site → StandsFast tells next plant → site.is_ahead ≡ false → site.waiting ≡ [] → site.told ≡ site.table.rows → IsSiteIdle tells next plant
idle_is tells site next plant is fast level idle same = record {
  may = record { fast = fast; level = ap (λ (s : SiteState). s.is_ahead) is ∙ level; idle = ap (λ (s : SiteState). s.waiting) is ∙ idle };
  same = ap (λ (s : SiteState). s.told) is ∙ same ∙ sym (ap (λ (s : SiteState). s.table.rows) is);
}

-- ---- a start

pub starts_idle : (tells : Type 0) (controls volumes : ℕ) (session : List ℕ) (level : Level) (at : Stamp) (plant : PlantState) (r : Result SiteState StoreError) → IfOk r (λ s. s ≡ new_site controls volumes session level at) → IfOk r (λ s. FitsPlant s plant)
    → (tells → IfOk r (λ s. SiteStands none_excepted s plant)) → IfOk r (λ s. IsSiteIdle tells s plant)
starts_idle tells controls volumes session level at plant (Ok site) is fits stands =
    idle_is tells (new_site controls volumes session level at) site plant is (record { fits = fits; stands = λ told. (none_excepted, stands told) }) refl refl refl
starts_idle tells controls volumes session level at plant (Err e) is fits stands = tt

-- ---- records and marks

-- a site that is after a record
after_waits : (journals : ℕ) (placement : Placement) (cut : ℕ) (items : List Item) (rows : List PairRow) (failed : List Bool) (site : SiteState) → site.waiting ≡ [] → (after_record journals placement cut items rows failed site).waiting ≡ []
after_waits journals Here cut items rows failed site idle = idle
after_waits journals Switched cut items rows failed site idle = idle
after_waits journals Marked cut items rows failed site idle = refl

module _ (tells : Type 0) (site next : SiteState) (old new : PlantState) (now : Exceptions → Exceptions) where
  pub logged_stands : (journals : ℕ) (placement : Placement) (group : FormedGroup) (items : List Item) (early failed : List Bool) → IsSiteIdle tells site old → Leaves tells now site next old new
      → next ≡ after_group journals placement group items early failed site → IsSiteLogged tells next new
  logged_stands journals placement group items early failed idle leaves is = record {
    fast = goes_on tells now site next old new idle.may.fast leaves;
    level = ap (λ (s : SiteState). s.is_ahead) is;
    same = ap (λ (s : SiteState). s.told) is ∙ sym (ap (λ (s : SiteState). s.table.rows) is);
  }

  pub applied_idle : IsSiteLogged tells site old → Leaves tells now site next old new → next ≡ with_applied next.failed next.written site → IsSiteIdle tells next new
  applied_idle logged leaves is = idle_is tells (with_applied next.failed next.written site) next new is (goes_on tells now site next old new logged.fast leaves) logged.level refl logged.same

  recorded_idle : (journals : ℕ) (placement : Placement) (cut : ℕ) (items : List Item) (rows : List PairRow) (failed : List Bool) → StandsFast tells site old → site.waiting ≡ [] → Leaves tells now site next old new → next ≡ after_record journals placement cut items rows failed site → IsSiteIdle tells next new
  recorded_idle journals placement cut items rows failed fast idle leaves is =
      idle_is tells (after_record journals placement cut items rows failed site) next new is (goes_on tells now site next old new fast leaves) refl (after_waits journals placement cut items rows failed site idle) refl

  pub marked_idle : (ended : Bool) (rows : List PairRow) (failed : List Bool) → StandsFast tells site old → Leaves tells now site next old new → next ≡ after_mark ended rows failed site → IsSiteIdle tells next new
  marked_idle ended rows failed fast leaves is = idle_is tells (after_mark ended rows failed site) next new is (goes_on tells now site next old new fast leaves) refl refl refl

  -- Suspensions are logged, or told by a mark, or there are none.
  suspended_so : {P : Type 0} (cut : ℕ) (was is : P) (value : Unit {0}) → IsSiteIdle tells site old → Leaves tells now site next old new → Suspends cut site next old was is (Ok value) → IsSiteIdle tells next new
  suspended_so cut was is value idle leaves s = by_hits (hit_now site.failed site.told) refl
    where
      fast : StandsFast tells next new
      fast = goes_on tells now site next old new idle.may.fast leaves

      by_placement : (placement : Placement) → s.placement ≡ placement → hit_now site.failed site.told ≢ [] → IsSiteIdle tells next new
      by_placement Here placement some = recorded_idle old.journals Here cut s.items _ site.failed idle.may.fast idle.may.idle leaves (s.logged some ∙ ap (λ (w : Placement). with_suspensions old.journals w cut s.items next.failed site) placement)
      by_placement Switched placement some = recorded_idle old.journals Switched cut s.items _ site.failed idle.may.fast idle.may.idle leaves (s.logged some ∙ ap (λ (w : Placement). with_suspensions old.journals w cut s.items next.failed site) placement)
      by_placement Marked placement some = marked_idle site.mark.ended _ next.failed idle.may.fast leaves (s.logged some ∙ ap (λ (w : Placement). with_suspensions old.journals w cut s.items next.failed site) placement)

      by_hits : (hits : List ℕ) → hit_now site.failed site.told ≡ hits → IsSiteIdle tells next new
      by_hits [] none = idle_is tells site next new (s.nothing none).1 fast idle.may.level idle.may.idle idle.same
      by_hits (d ∷ hits) some = by_placement s.placement refl (λ none. let clash : d ∷ hits ≡ [] = sym some ∙ none in cc clash)

  pub suspended_idle : {P : Type 0} (cut : ℕ) (was is : P) (r : Result (Unit {0}) StoreError) → IsSiteIdle tells site old → OnOk r (Leaves tells now site next old new) → Suspends cut site next old was is r → OnOk r (IsSiteIdle tells next new)
  suspended_idle cut was is (Ok value) idle leaves s = suspended_so cut was is value idle leaves s
  suspended_idle cut was is (Err e) idle leaves s = tt

  -- A change that may be logged is logged, or it has nothing to log.
  changed_so : {P : Type 0} (cut : ℕ) (change : Change) (was is : P) (value : Unit {0}) → MayChange tells cut change site old → Leaves tells now site next old new → LogsChange cut change site next old was is (Ok value) → IsSiteIdle tells next new
  changed_so cut change was is value may leaves logs = by_items (changed_items change site.table.rows) refl
    where
      by_items : (items : List Item) → changed_items change site.table.rows ≡ items → IsSiteIdle tells next new
      by_items [] none =
          idle_is tells (record site { is_ahead = false }) next new (logs.nothing none).1 (goes_on tells now site next old new may.fast leaves) refl may.idle
          (ap (λ (l : List Item). rows_through l site.told) (sym none) ∙ may.lead.leads)
      by_items (i ∷ items) some =
          let rows = logs.rows (λ none. let clash : i ∷ items ≡ [] = sym some ∙ none in cc clash) in
          recorded_idle old.journals rows.placement cut rows.after.items _ next.failed may.fast may.idle leaves rows.after.next_is

  pub changed_idle : {P : Type 0} (cut : ℕ) (change : Change) (was is : P) (r : Result (Unit {0}) StoreError) → MayChange tells cut change site old → OnOk r (Leaves tells now site next old new) → LogsChange cut change site next old was is r → OnOk r (IsSiteIdle tells next new)
  changed_idle cut change was is (Ok value) may leaves logs = changed_so cut change was is value may leaves logs
  changed_idle cut change was is (Err e) may leaves logs = tt

-- Where nothing waits, a mark may be made.
pub may_mark : (tells : Type 0) (site : SiteState) (plant : PlantState) → IsSiteIdle tells site plant → MayMark tells site plant
may_mark tells site plant idle = record { fast = idle.may.fast; level = idle.may.level; idle = λ row has duplex. ap (λ (items : List Item). has_device row.device items) idle.may.idle }

-- ---- a row that is put

module _ (tells : Type 0) (site : SiteState) (plant : PlantState) (row : PairRow) (idle : IsSiteIdle tells site plant) (below : row.device < plant.volumes) (long : 512 + row.cylinders * 860160 ≤ plant.lengths (Volume row.device)) where
  put_leaves : Leaves tells (λ e. e) site (after_put row site) plant plant
  put_leaves =
      put_rows_leave tells plant row site
      (and_from (nat_lt row.device plant.volumes) (nat_le (512 + row.cylinders * 860160) (plant.lengths (Volume row.device))) (lt-ltb row.device plant.volumes below) (le-leb (512 + row.cylinders * 860160) (plant.lengths (Volume row.device)) long))
      idle.may.fast.fits

  put_below : AreOnVolumes (after_put row site)
  put_below = below_volumes plant (length site.failed) (with_row row site.table.rows) (omega (arith, put_leaves.fits.failed)) put_leaves.fits.rows

  -- Its change may be logged.
  pub put_may : (cut : ℕ) (next : SiteState) → next ≡ after_put row site → site.time ≤ cut → (site.is_ahead ≡ false → AreOnVolumes next → IsToLog (Added row.device) next) → MayChange tells cut (Added row.device) next plant
  put_may cut next is late to_log =
      let back = sym is in
      let fast : StandsFast tells (after_put row site) plant = goes_on tells (λ e. e) site (after_put row site) plant plant idle.may.fast put_leaves in
      changes_may tells plant cut (Added row.device) next (subst (λ (s : SiteState). StandsFast tells s plant) back fast) (subst (λ (s : SiteState). s.waiting ≡ []) back idle.may.idle) (subst (λ (s : SiteState). s.time ≤ cut) back late)
      (to_log idle.may.level (subst AreOnVolumes back put_below))
