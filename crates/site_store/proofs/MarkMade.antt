-- A mark that is made at a site's spot, over plain states: what its call does, and what it leaves.
use Rattle.std.proofs.Common.{◌≡◌, ℕ, ◌^◌, ◌≤◌, ◌<◌, Bool, true, false, List, [], ◌∷◌, Option, Result, Ok, Err, refl, sym, ap, subst, ◌∙◌, arith, IsTrue}
use Rattle.std.specs.Prelude.{OnOk, slice_index_or}
use Rattle.std.specs.List.{list_all}
use Rattle.crash_plant.specs.declared.device.Device.TheVariants.{Volume}
use Rattle.crash_plant.specs.Calls.{WorksOn}
use Rattle.crash_plant.specs.Choices.{IsChoice}
use Rattle.crash_plant.specs.Moments.{PlantState}
use Rattle.crash_plant.proofs.Steps.{none_lent_then}
use Rattle.control_set.specs.Slots.{IsNext}
use Rattle.control_set.specs.declared.value.Mark.{Mark}
use Rattle.pair_table.specs.declared.level.Level.{Level}
use Rattle.pair_table.specs.declared.row.PairRow.{PairRow}
use Rattle.pair_table.specs.Tables.{Table, are_below}
use Rattle.state_set.specs.Slots.{started_table}
use Rattle.record_rows.specs.Deeds.Deed.{Marked}
use Rattle.site_store.specs.Deeds.{from_mark}
use Rattle.site_store.specs.Exceptions.{Exceptions, is_kept}
use Rattle.site_store.proofs.Moments.{have_begun, more_follow}
use Rattle.site_store.proofs.Single.{no_call}
use Rattle.site_store.specs.declared.store_error.StoreError.{StoreError}
use Rattle.site_store.specs.declared.store_error.StoreError.TheVariants.{Spent}
use Rattle.site_store.specs.Marking.{AllPutMark, IsMarked, MakesMark, MarkIsPut, MayPutMark, MayWriteMark, excepted_with_waiting}
use Rattle.site_store.specs.Sites.{SiteState, has_failed, meant_for, next_mark}
use Rattle.site_store.specs.Standing.{Leaves, SiteStands, none_excepted, row_has_volume}
use Rattle.site_store.proofs.Below.{below_volumes}
use Rattle.site_store.proofs.Calls.{durable_still}
use Rattle.site_store.proofs.MarkFits.{mark_fits, marked_with, next_is_mark, site_fits}
use Rattle.site_store.proofs.MarkSeen.{IsReady}
use Rattle.site_store.proofs.MarkStands.{mark_begins, mark_does, mark_stands}
use Rattle.site_store.proofs.RecordPuts.{on_ok}
use Rattle.site_store.proofs.StandsEnd.{from_low}
use Rattle.site_store.proofs.VolumesStaying.{stay_apart, stay_here}

-- ---- results, and what is put by other names

pub if_err : (A : Type 0) (result : Result (Unit {0}) StoreError) (error : StoreError) → result ≡ Err error → OnOk result A
if_err A (Ok value) error is = cc
if_err A (Err e) error is = tt

pub puts_as : (mark m : Mark) (level l : Level) (rows r : List PairRow) (old new : PlantState) → mark ≡ m → level ≡ l → rows ≡ r → AllPutMark mark (record { level = level; rows = rows }) old new → AllPutMark m (record { level = l; rows = r }) old new
puts_as mark m level l rows r old new a b c puts = subst (λ (x : Type 0). x) (λ i. AllPutMark (a i) (record { level = b i; rows = c i }) old new) puts

pub put_as : (mark m : Mark) (level l : Level) (rows r : List PairRow) (new : PlantState) → mark ≡ m → level ≡ l → rows ≡ r → MarkIsPut mark (record { level = level; rows = rows }) new → MarkIsPut m (record { level = l; rows = r }) new
put_as mark m level l rows r new a b c put = subst (λ (x : Type 0). x) (λ i. MarkIsPut (a i) (record { level = b i; rows = c i }) new) put

-- ---- a mark

module _ (tells : Type 0) (site : SiteState) (ended : Bool) (old : PlantState) (may : MayPutMark tells site old) (read : tells → IsChoice old old.clock old.bytes) where
  -- The mark may be written with the rows on the devices, whatever table has them.
  pub may_write : (table : Table) → table.rows ≡ site.told → table.session ≡ site.table.session → MayWriteMark tells (next_mark site ended) table old
  may_write table rows session =
      let f = may.fast.fits in
      record {
        control = f.lengths.control;
        state = f.lengths.state;
        devices = ap (are_below old.volumes) rows ∙ below_volumes old old.volumes site.told (omega arith) f.told;
        keeps = next_is_mark site ended old f may.number;
        session = sym session;
        next = λ told. subst (λ (x : Result (Option Mark) ℕ). IsNext x (next_mark site ended).number) (sym ((may.fast.stands told).1.chosen old.bytes (read told))) refl;
        durable = λ told. (may.fast.stands told).1.control;
      }

  module _ (rows : List PairRow) (new : PlantState) (low : site.at.number < 2 ^ 64) (kept : (d : ℕ) → is_kept d rows ≡ true → has_failed site d ≡ false)
      (works : WorksOn tells IsMarked old new) (puts : tells → AllPutMark (next_mark site ended) (record { level = site.level; rows = rows }) old new) where
    -- The number at the mark's spot has 64 bits.
    from_lt : (told : tells) (e : Exceptions) → SiteStands e site old → site.mark.at.number < 2 ^ 64
    from_lt told e stands = from_low e site old stands may.fast.fits old.bytes (read told) low

    slot_low : site.mark.state_slot ≤ 1
    slot_low = may.fast.fits.mark.state_slot

    ready : (told : tells) → IsReady site rows old
    ready told = record { kept = kept; synced = may.synced told }

    -- The mark is the next deed.
    pub makes : (next : SiteState) (result : Result (Unit {0}) StoreError) → next.failed ≡ site.failed → (tells → OnOk result (MarkIsPut (next_mark site ended) (record { level = site.level; rows = rows }) new)) → MakesMark tells ended rows site next old new result
    makes next result same put = record {
      begins = λ told e stands. mark_begins e site ended rows old new stands slot_low (from_lt told e stands) (ready told) tells told works (puts told);
      does = λ told. on_ok result (λ is e stands. mark_does e site ended rows old new stands slot_low (from_lt told e stands) (ready told) tells told works (puts told) is) (put told);
      volumes = stay_apart tells IsMarked old new (λ d no. no) works;
      durable = λ told. on_ok result (λ is d was good. durable_still tells told IsMarked old new (Volume d) works (λ no. no) (may.synced told d was (ap (λ (f : List Bool). slice_index_or f d false) (sym same) ∙ good))) (put told);
    }

    -- The site goes on from it.
    pub leaves : (ahead : Bool) (table : Table) → table.session ≡ site.table.session → table.is_started ≡ true → IsTrue (list_all (row_has_volume old) table.rows) → IsTrue (list_all (row_has_volume old) rows)
        → (tells → MarkIsPut (next_mark site ended) (record { level = site.level; rows = rows }) new) → Leaves tells (λ e. none_excepted) site (marked_with ended table ahead rows site) old new
    leaves ahead table session started have told_have put =
        let after = mark_fits site ended ahead table rows old may.fast.fits may.number session started have told_have in
        record {
          fits = site_fits (marked_with ended table ahead rows site) site.failed old new works.site (none_lent_then tells IsMarked old new works may.fast.fits.home) refl after;
          stands = λ told e stands.
              mark_stands e site ended rows old new stands slot_low (from_lt told e stands) (ready told) tells told works (puts told) (put told) (marked_with ended table ahead rows site) (λ i. from_mark site.at ended rows (record (meant_for site) { session = sym session i; table = started_table (sym session i) site.told })) refl refl refl refl old.bytes (read told);
        }

-- ---- where no mark is made

pub makes_none : (tells : Type 0) (ended : Bool) (rows : List PairRow) (site : SiteState) (plant : PlantState) → MakesMark tells ended rows site site plant plant (Err Spent)
makes_none tells ended rows site plant = record {
  begins = λ told e stands.
      let excepted = excepted_with_waiting site e in
      more_follow plant plant excepted site.told [] (Marked site.at ended rows ∷ []) (have_begun plant plant excepted site.told [] (no_call plant excepted site.told));
  does = λ told. tt;
  volumes = stay_here tells plant;
  durable = λ told. tt;
}
