-- A site once volumes were synced before a mark, and the mark after these syncs, over plain states.
use Rattle.std.proofs.Common.{◌≡◌, inl, inr, ℕ, zero, suc, ◌-◌, ◌^◌, ◌≤◌, ◌<◌, Bool, true, false, List, [], ◌∷◌, length, map, Result, refl, sym, ap, subst, ◌∙◌, arith}
use Rattle.std.specs.Prelude.{slice_index_or}
use Rattle.std.specs.List.{Contains}
use Rattle.crash_plant.specs.declared.device.Device.{Device}
use Rattle.crash_plant.specs.declared.device.Device.TheVariants.{Control, State, Journal, Volume}
use Rattle.crash_plant.specs.Calls.{NoneLent, WorksOn}
use Rattle.crash_plant.specs.Choices.{Choice, IsChoice}
use Rattle.crash_plant.specs.Moments.{Follows, IsDurable, PlantState, Same, on}
use Rattle.crash_plant.proofs.Choices.{part_still}
use Rattle.crash_plant.proofs.Steps.{works_on_more, works_on_trans}
use Rattle.applier.specs.Returns.{OnlyReads, WorksOnLent}
use Rattle.applier.proofs.Works.{lent_of_works, works_lent_more, works_lent_trans}
use Rattle.pair_table.specs.declared.level.Level.{Level}
use Rattle.pair_table.specs.declared.row.PairRow.{PairRow}
use Rattle.pair_table.specs.declared.row.PairState.TheVariants.{Duplex}
use Rattle.record_rows.specs.Deeds.Deed.{Marked}
use Rattle.site_store.specs.DoneDeeds.{DoesDeeds}
use Rattle.site_store.specs.Exceptions.{Exceptions}
use Rattle.site_store.proofs.Composing.{begin_after, go_on}
use Rattle.site_store.proofs.Single.{reads_and_syncs}
use Rattle.site_means.specs.Images.{Shape}
use Rattle.site_means.specs.Meaning.{chosen_in, meaning_in}
use Rattle.site_means.proofs.Goes.{shape_same}
use Rattle.xrc_edge.specs.Causes.{Rose}
use Rattle.xrc_journal.specs.Jobs.{FailsByCount}
use Rattle.xrc_journal.specs.declared.job.VolumeJob.{VolumeJob}
use Rattle.site_store.specs.declared.store_error.StoreError.{StoreError}
use Rattle.site_store.specs.Causes.{FailByCounts, HasStoreCause}
use Rattle.site_store.specs.Jobs.{has_device, has_job_failed}
use Rattle.site_store.specs.Marking.{IsAmong, IsMarked, MakesMark, MayPutMark, Syncs, after_next_mark, excepted_with_waiting, rows_at_mark}
use Rattle.site_store.specs.Records.{IsOfMark, IsStore}
use Rattle.site_store.specs.Sites.{SiteState, is_written}
use Rattle.site_store.specs.Standing.{AreApplied, Leaves, SiteStands, StandsFast}
use Rattle.site_store.proofs.Calls.{durable_same}
use Rattle.site_store.proofs.MarkFits.{site_fits}
use Rattle.site_store.proofs.RecordPuts.{on_ok}
use Rattle.site_store.proofs.VolumesStaying.{stay_then}

-- Volumes that were written were synced, some jobs failed by this, and nothing else was done.
pub record IsSynced (tells : Type 0) (site : SiteState) (failed : List Bool) (old mid : PlantState) : Type 0 where
  pub works : WorksOnLent tells (IsAmong site.written) old mid
  pub bytes : tells → (d : Device) → mid.bytes d ≡ old.bytes d
  pub moments : tells → (d : Device) → Follows Same (on old d) (on mid d)
  pub fails : FailByCounts site.failed failed old.faults mid.faults

-- What is true at a place of a list lies in it.
pub true_within : (bools : List Bool) (d : ℕ) → slice_index_or bools d false ≡ true → d < length bools
true_within [] d is = cc
true_within (b ∷ bools) zero is = omega arith
true_within (b ∷ bools) (suc d) is = let more = true_within bools d is in omega (arith, more)

-- A job that failed stays failed.
pub still_down : (old new : List Bool) (before now : Device → ℕ) (d : ℕ) → FailByCounts old new before now → slice_index_or old d false ≡ true → slice_index_or new d false ≡ true
still_down old new before now d fails was = (fails.alone d (true_within old d was) was).0

pub good_before : (old new : List Bool) (before now : Device → ℕ) (d : ℕ) → FailByCounts old new before now → slice_index_or new d false ≡ false → slice_index_or old d false ≡ false
good_before old new before now d fails good = by_flag (slice_index_or old d false) refl
  where
    by_flag : (b : Bool) → slice_index_or old d false ≡ b → slice_index_or old d false ≡ false
    by_flag false is = is
    by_flag true is = let down = still_down old new before now d fails is in cc

module _ (tells : Type 0) (site : SiteState) (failed : List Bool) (old mid : PlantState) (synced : IsSynced tells site failed old mid) where
  abbrev after : SiteState
  after = record site { failed = failed }

  module _ (told : tells) where
    later : old.clock ≤ mid.clock
    later = ((synced.works.elapses told).kept Control).later

    same_choice : (c : Choice) → IsChoice mid mid.clock c → IsChoice old old.clock c
    same_choice c is d part =
        let start = synced.moments told d mid.clock later (omega arith) (c d) (is d (part_still old mid d synced.works.site part)) in
        subst (λ (b : List ℕ). old.images old.clock d b) (sym start.2) start.1

    durable_too : (d : Device) → IsDurable (on old d) → IsDurable (on mid d)
    durable_too d durable = durable_same old mid d (synced.moments told d) later (synced.bytes told d) durable

    -- The site stands as before.
    pub synced_stands : (e : Exceptions) → SiteStands e site old → SiteStands e after mid
    synced_stands e stands = record {
      walk = stands.walk;
      meant = λ c is. ap (λ (s : Shape). meaning_in s c) (shape_same old mid synced.works.site) ∙ stands.meant c (same_choice c is);
      chosen = λ c is. ap (λ (s : Shape). chosen_in s c) (shape_same old mid synced.works.site) ∙ stands.chosen c (same_choice c is);
      at = stands.at;
      last = stands.last;
      control = durable_too Control stands.control;
      state = durable_too State stands.state;
      journals = λ j has. durable_too (Journal j) (stands.journals j has);
      done = stands.done;
      items = stands.items;
      applied = λ d there good. subst (λ (l : List ℕ). AreApplied (e d) stands.done d l) (sym (synced.bytes told (Volume d)))
          (stands.applied d (subst (λ (n : ℕ). d < n) synced.works.site.volumes there) (good_before site.failed failed old.faults mid.faults d synced.fails good));
      unwritten = λ d there not x has. elim (stands.unwritten d (subst (λ (n : ℕ). d < n) synced.works.site.volumes there) not x has) [
        | inl was ↦ inl (still_down site.failed failed old.faults mid.faults d synced.fails was)
        | inr excepted ↦ inr excepted
      ];
    }

    no_deed : (e : Exceptions) (rows : List PairRow) → DoesDeeds e rows [] old mid
    no_deed e rows = reads_and_syncs old mid e rows synced.works.site (synced.works.elapses told) (synced.works.silent told) (synced.moments told)

  -- A mark may be put then.
  pub may_put : NoneLent mid → StandsFast tells site old → ((row : PairRow) → Contains site.told row → row.state ≡ Duplex → has_device row.device site.waiting ≡ false) → site.mark.number < 2 ^ 64 - 2
      → (tells → (d : ℕ) → is_written site d ≡ true → slice_index_or failed d false ≡ false → IsDurable (on mid (Volume d))) → MayPutMark tells after mid
  may_put home fast idle number durable = record {
    fast = record {
      fits = site_fits site failed old mid synced.works.site home synced.fails.size fast.fits;
      stands = λ told. let was = fast.stands told in (was.0, synced_stands told was.0 was.1);
    };
    idle = idle;
    number = number;
    synced = durable;
  }

  pub seen_may : (view : SiteState) → view ≡ site → MayPutMark tells after mid → MayPutMark tells (record view { failed = failed }) mid
  seen_may view is may = subst (λ (s : SiteState). MayPutMark tells (record s { failed = failed }) mid) (sym is) may

  module _ (ended : Bool) (rows : List PairRow) (next : SiteState) (new : PlantState) where
    -- A mark that is made then is made after the syncs.
    pub makes_after : (result : Result (Unit {0}) StoreError) → WorksOn tells IsMarked mid new → MakesMark tells ended rows after next mid new result → MakesMark tells ended rows site next old new result
    makes_after result marks makes = record {
      begins = λ told e stands. begin_after old mid new (excepted_with_waiting site e) site.told [] (Marked site.at ended rows ∷ []) (no_deed told (excepted_with_waiting site e) site.told) (makes.begins told e (synced_stands told e stands));
      does = λ told. on_ok result (λ does e stands. go_on old mid new (excepted_with_waiting site e) site.told [] (Marked site.at ended rows ∷ []) (no_deed told (excepted_with_waiting site e) site.told) (does e (synced_stands told e stands))) (makes.does told);
      volumes = stay_then tells old mid new synced.works.elapses marks.elapses (record { bytes = λ told d. synced.bytes told (Volume d); images = λ told d. synced.moments told (Volume d) }) makes.volumes;
      durable = makes.durable;
    }

    pub leaves_after : (now : Exceptions → Exceptions) → Leaves tells now after next mid new → Leaves tells now site next old new
    leaves_after now leaves = record { fits = leaves.fits; stands = λ told e stands. leaves.stands told e (synced_stands told e stands) }

  -- ---- why it fails, and on what it works

  of_store : (d : Device) → IsStore d → ¬ IsAmong site.written d
  of_store Control store among = among
  of_store State store among = among
  of_store (Journal j) store among = among
  of_store (Volume v) store among = store

  pub cause_after : (new : PlantState) (result : Result (Unit {0}) StoreError) → HasStoreCause mid.faults new.faults result → HasStoreCause old.faults new.faults result
  cause_after new result cause = record {
    counts = record {
      fault = λ d named.
          let came = cause.counts.fault d named in
          (came.0, subst (λ (n : ℕ). Rose n (new.faults d)) (synced.works.others_faults d (of_store d came.0)) came.1);
      others = λ d store not. cause.counts.others d store not ∙ synced.works.others_faults d (of_store d store);
    };
    memory = cause.memory;
  }

  -- No job fails by the mark itself.
  pub fails_after : (new : PlantState) → WorksOn tells IsMarked mid new → FailByCounts site.failed failed old.faults new.faults
  fails_after new marks = record {
    size = synced.fails.size;
    alone = λ d lt was. let came = synced.fails.alone d lt was in (came.0, marks.others_faults (Volume d) (λ no. no) ∙ came.1);
    by_count = λ d lt was. subst (λ (n : ℕ). FailsByCount (slice_index_or failed d false) (old.faults (Volume d)) n) (sym (marks.others_faults (Volume d) (λ no. no))) (synced.fails.by_count d lt was);
  }

  -- ---- as a site's fields show the mark

  module _ (view next : SiteState) (new : PlantState) (put ended : Bool) (reached reach : Level) (is : view ≡ site) (ends : put ≡ ended) (reaches : reached ≡ reach) (same : next.failed ≡ failed) (marks : WorksOn tells IsMarked mid new) where
    pub seen_makes : (result : Result (Unit {0}) StoreError) → MakesMark tells put (rows_at_mark reached (record view { failed = failed }) failed) (record view { failed = failed }) next mid new result → MakesMark tells ended (rows_at_mark reach site next.failed) site next old new result
    seen_makes result makes =
        makes_after ended (rows_at_mark reach site next.failed) next new result marks
        (subst (λ (x : Type 0). x) (λ i. MakesMark tells (ends i) (rows_at_mark (reaches i) (record (is i) { failed = failed }) (sym same i)) (record (is i) { failed = failed }) next mid new result) makes)

    pub seen_leaves : (now : Exceptions → Exceptions) → Leaves tells now (record view { failed = failed }) next mid new → Leaves tells now site next old new
    seen_leaves now leaves = leaves_after ended (rows_at_mark reach site next.failed) next new now (subst (λ (x : Type 0). x) (λ i. Leaves tells now (record (is i) { failed = failed }) next mid new) leaves)

    pub seen_next : next ≡ after_next_mark put (rows_at_mark reached (record view { failed = failed }) failed) failed (record view { failed = failed }) → next ≡ after_next_mark ended (rows_at_mark reach site next.failed) next.failed site
    seen_next after =
        after ∙ (λ i. after_next_mark (ends i) (rows_at_mark (reaches i) (record (is i) { failed = failed }) failed) failed (record (is i) { failed = failed }))
        ∙ ap (λ (l : List Bool). after_next_mark ended (rows_at_mark reach site l) l site) (sym same)

    pub seen_fails : FailByCounts site.failed next.failed old.faults new.faults
    seen_fails = subst (λ (l : List Bool). FailByCounts site.failed l old.faults new.faults) (sym same) (fails_after new marks)

among_mark : (site : SiteState) (d : Device) → IsAmong site.written d → IsOfMark site d
among_mark site Control among = absurd among
among_mark site State among = absurd among
among_mark site (Journal j) among = absurd among
among_mark site (Volume v) among = among

marked_mark : (site : SiteState) (d : Device) → IsMarked d → IsOfMark site d
marked_mark site Control marked = tt
marked_mark site State marked = tt
marked_mark site (Journal j) marked = absurd marked
marked_mark site (Volume v) marked = absurd marked

-- The syncs and the mark work on the mark's devices.
pub mark_works : (tells : Type 0) (site : SiteState) (old mid new : PlantState) → WorksOn tells (IsAmong site.written) old mid → WorksOn tells IsMarked mid new → WorksOn tells (IsOfMark site) old new
mark_works tells site old mid new syncs marks =
    works_on_trans tells (IsOfMark site) old mid new (works_on_more tells (IsAmong site.written) (IsOfMark site) old mid (among_mark site) syncs) (works_on_more tells IsMarked (IsOfMark site) mid new (marked_mark site) marks)

pub mark_works_lent : (tells : Type 0) (site : SiteState) (old mid new : PlantState) → WorksOnLent tells (IsAmong site.written) old mid → WorksOn tells IsMarked mid new → WorksOnLent tells (IsOfMark site) old new
mark_works_lent tells site old mid new syncs marks =
    works_lent_trans tells (IsOfMark site) old mid new (works_lent_more tells (IsAmong site.written) (IsOfMark site) old mid (among_mark site) syncs)
    (works_lent_more tells IsMarked (IsOfMark site) mid new (marked_mark site) (lent_of_works tells IsMarked mid new marks))

-- Where no item waits, none waits for a device.
pub none_waits : (site : SiteState) → site.waiting ≡ [] → (row : PairRow) → Contains site.told row → row.state ≡ Duplex → has_device row.device site.waiting ≡ false
none_waits site idle row has duplex = ap (has_device row.device) idle

-- What was synced in turn.
pub synced_in_turn : (tells : Type 0) (site : SiteState) (failed : List Bool) (old mid : PlantState) → Syncs tells (IsAmong site.written) old mid → FailByCounts site.failed failed old.faults mid.faults → IsSynced tells site failed old mid
synced_in_turn tells site failed old mid syncs fails = record { works = lent_of_works tells (IsAmong site.written) old mid syncs.only; bytes = syncs.same; moments = syncs.moments; fails = fails }

-- What was synced side by side.
pub synced_side_by_side : (tells : Type 0) (site : SiteState) (failed : List Bool) (old mid : PlantState) → WorksOnLent tells (IsAmong site.written) old mid → OnlyReads tells old mid → FailByCounts site.failed failed old.faults mid.faults → IsSynced tells site failed old mid
synced_side_by_side tells site failed old mid works reads fails = record { works = works; bytes = reads.bytes; moments = reads.moments; fails = fails }

-- The jobs and the flags are those of the site.
module _ {V : Type 0} (tells : Type 0) (site : SiteState) (old mid : PlantState) (written : List Bool) (were are now : List (VolumeJob V)) (same : written ≡ site.written) (first : map has_job_failed were ≡ site.failed) (kept : are ≡ now) where
  pub synced_as : Syncs tells (IsAmong written) old mid → FailByCounts (map has_job_failed were) (map has_job_failed are) old.faults mid.faults → IsSynced tells site (map has_job_failed now) old mid
  synced_as syncs fails =
      synced_in_turn tells site (map has_job_failed now) old mid (subst (λ (w : List Bool). Syncs tells (IsAmong w) old mid) same syncs)
      (subst (λ (x : Type 0). x) (λ i. FailByCounts (first i) (map has_job_failed (kept i)) old.faults mid.faults) fails)

  pub synced_aside : WorksOnLent tells (IsAmong written) old mid → OnlyReads tells old mid → FailByCounts (map has_job_failed were) (map has_job_failed are) old.faults mid.faults → IsSynced tells site (map has_job_failed now) old mid
  synced_aside works reads fails =
      synced_side_by_side tells site (map has_job_failed now) old mid (subst (λ (w : List Bool). WorksOnLent tells (IsAmong w) old mid) same works) reads
      (subst (λ (x : Type 0). x) (λ i. FailByCounts (first i) (map has_job_failed (kept i)) old.faults mid.faults) fails)

  pub durable_as : (tells → (d : ℕ) → slice_index_or written d false ≡ true → slice_index_or (map has_job_failed are) d false ≡ false → IsDurable (on mid (Volume d)))
      → tells → (d : ℕ) → is_written site d ≡ true → slice_index_or (map has_job_failed now) d false ≡ false → IsDurable (on mid (Volume d))
  durable_as durable = subst (λ (x : Type 0). x) (λ i. tells → (d : ℕ) → slice_index_or (same i) d false ≡ true → slice_index_or (map has_job_failed (kept i)) d false ≡ false → IsDurable (on mid (Volume d))) durable
