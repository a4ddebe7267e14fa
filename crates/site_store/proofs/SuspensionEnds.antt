-- The answers of a call that logs suspensions, over plain states.
use Rattle.std.proofs.Common.{◌≡◌, ◌≢◌, ℕ, ◌≤◌, false, true, List, [], ◌∷◌, Result, Ok, refl, sym, ap, subst, ◌∙◌, arith}
use Rattle.crash_plant.specs.Moments.{PlantState}
use Rattle.pair_table.specs.declared.command.Change.TheVariants.{Nothing}
use Rattle.pair_table.specs.declared.row.PairRow.{PairRow}
use Rattle.record_rows.specs.Deeds.{Deed}
use Rattle.record_rows.specs.Hits.{hit_now, rows_hit}
use Rattle.record_rows.specs.Records.{rows_with_hits}
use Rattle.site_store.specs.DoneDeeds.{DoesDeeds}
use Rattle.site_store.proofs.Single.{no_call}
use Rattle.site_store.specs.declared.store_error.StoreError.{StoreError}
use Rattle.site_store.specs.Changing.{DoesSuspend, IsPlacementOfHits, Suspends, suspension_deeds_of}
use Rattle.site_store.specs.Hits.{are_some}
use Rattle.site_store.specs.InTurn.{DoesInTurn}
use Rattle.site_store.specs.RowRecords.{LogsRecord, MayLogRows}
use Rattle.site_store.specs.Sites.{SiteState}
use Rattle.site_store.specs.Standing.{MayRecord}
use Rattle.site_store.specs.Placements.{placement_of}
use Rattle.site_store.proofs.RowEnds.{begin_here, suspension_is, suspension_none}

pub none_of : (xs : List ℕ) → are_some xs ≡ false → xs ≡ []
none_of [] none = refl
none_of (x ∷ xs) none = absurd cc

-- ---- nothing is called

-- No device is hit.
none_placement : (cut : ℕ) (site : SiteState) (old : PlantState) → hit_now site.failed site.told ≡ [] → IsPlacementOfHits cut site old (placement_of old site []) []
none_placement cut site old none = record { are = record { lead = record { leads = ap (λ (hit : List ℕ). rows_hit site.level cut hit site.told) (sym none); fit = refl } }; placement_is = refl }

pub none_suspends : {P : Type 0} (cut : ℕ) (site : SiteState) (old : PlantState) (was : P) → hit_now site.failed site.told ≡ [] → Suspends cut site site old was was (Ok tt)
none_suspends cut site old was none = record {
  nothing = λ e. (refl, refl, refl);
  placement = placement_of old site [];
  items = [];
  is_placement = none_placement cut site old none;
  spent = λ some. absurd (some none);
  logged = λ some. absurd (some none);
}

pub none_does : (tells : Type 0) (cut : ℕ) (site : SiteState) (old : PlantState) → hit_now site.failed site.told ≡ [] → DoesSuspend tells cut site site old old (Ok tt)
none_does tells cut site old none = record {
  placement = placement_of old site [];
  items = [];
  is_placement = none_placement cut site old none;
  left = λ some. absurd (some none);
  begins = λ told e stands. begin_here old e site.told (suspension_deeds_of (placement_of old site []) site cut site.failed);
  does = λ told e stands. subst (λ (deeds : List Deed). DoesDeeds e site.told deeds old old) (sym (suspension_none site cut site.failed (placement_of old site []) none)) (no_call old e site.told);
}

-- ---- some device is hit

module _ (tells : Type 0) (cut : ℕ) (site : SiteState) (old : PlantState) (told_is : site.told ≡ site.table.rows) where
  -- The record of hits alone is one of a change that names no row.
  pub may_log : MayRecord tells site old → site.time ≤ cut → MayLogRows tells cut Nothing site old
  may_log ready late = record {
    may = record { fast = ready.fast; idle = ready.idle; cut_is = late; few = omega arith; ahead = λ some. absurd (some refl); lead = record { leads = told_is; fit = refl } };
    level = λ none. ready.level;
  }

  module _ (next : SiteState) (new : PlantState) (result : Result (Unit {0}) StoreError) (some : are_some (hit_now site.failed site.told) ≡ true) (logs : LogsRecord tells cut Nothing site next old new result) where
    hit : hit_now site.failed site.told ≢ []
    hit none = let no = ap are_some none in absurd (cc (no, some))

    is_placement : IsPlacementOfHits cut site old logs.placement logs.is_placement.first
    is_placement =
        let lead = logs.is_placement.formed.lead in
        record { are = record { lead = record { leads = lead.leads ∙ ap (λ (rows : List PairRow). rows_with_hits site.level cut site.failed rows) (sym told_is); fit = lead.fit } }; placement_is = logs.is_placement.placement_is }

    pub suspends : {P : Type 0} (was is : P) → Suspends cut site next old was is result
    suspends was is = record {
      nothing = λ none. absurd (hit none);
      placement = logs.placement;
      items = logs.is_placement.first;
      is_placement = is_placement;
      spent = λ more. logs.spent;
      logged = λ more. logs.after;
    }

    pub suspends_does : DoesSuspend tells cut site next old new result
    suspends_does =
        let does : DoesInTurn tells (suspension_deeds_of logs.placement site cut next.failed) site old new result =
        subst (λ (d : List Deed). DoesInTurn tells d site old new result) (sym (suspension_is site cut next.failed logs.placement hit)) logs.does in
        record { placement = logs.placement; items = logs.is_placement.first; is_placement = is_placement; left = λ more. logs.after; begins = does.begins; does = does.does }
