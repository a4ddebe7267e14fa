-- A site comes to rest after its last group: it is applied, failures are told, and a mark is made.
use Rattle.std.proofs.Common.{◌≡◌, ℕ, Bool, true, false, [], Result, Ok, ap, subst, ◌∙◌, OnOk}
use Rattle.std.specs.Prelude.{IsErrOf}
use Rattle.crash_plant.specs.Moments.{PlantState}
use Rattle.applier.specs.Returns.{WorksOnLent}
use Rattle.pair_table.specs.Tables.{none_clash}
use Rattle.record_rows.specs.Hits.{hit_now}
use Rattle.site_store.specs.declared.store_error.StoreError.{StoreError}
use Rattle.site_store.specs.declared.store_error.StoreError.TheVariants.{Spent}
use Rattle.site_store.specs.Applying.{Applies, DoesApply, excepted_by_apply}
use Rattle.site_store.specs.Causes.{FailByCounts, HasStoreCause}
use Rattle.site_store.specs.Changing.{DoesSuspend, Suspends}
use Rattle.site_store.specs.Marking.{DoesMark, Marks}
use Rattle.site_store.specs.Records.{IsOfMark, IsOfRecord, VolumesStay}
use Rattle.site_store.specs.Sites.{SiteState}
use Rattle.site_store.specs.Standing.{Leaves, MayRecord, StandsFast, none_excepted}
use Rattle.site_store.specs.Waiting.{IsOfWaiting}
use Rattle.mover.specs.Moves.{MoverWorks, SiteMoved}
use Rattle.mover.proofs.MovedOn.{on_both, on_ok, site_then}
use Rattle.mover.proofs.SiteCalls.{Tells, apply_moved, apply_works, fast_then, mark_moved, mark_tells, mark_works, none_untold_then, suspend_moved, suspend_tells, suspend_works, told_apart}
use Rattle.mover.proofs.WorkedOn.{works_then}

-- What is so of the site once it rests.
pub record Rests (tells : Type 0) (next : SiteState) (new : PlantState) : Type 0 where
  pub may : MayRecord tells next new
  pub told : hit_now next.failed next.told ≡ []
  pub apart : none_clash next.told ≡ true

-- What calls up to there do.
pub record RestsBy (tells : Type 0) (site next : SiteState) (old new : PlantState) (result : Result (Unit {0}) StoreError) : Type 0 where
  pub moved : SiteMoved tells site next old new result
  pub works : MoverWorks tells site next old new result
  pub rests : OnOk result (Rests tells next new)

module _ (tells : Type 0) {P : Type 0} (state : P → PlantState) (site mid : SiteState) (first then : P) (fast : StandsFast tells site (state first)) (level : site.is_ahead ≡ false) (apart : none_clash site.told ≡ true) (ok : Applies tells site mid (state first) (state then))
    (leaves : Leaves tells (excepted_by_apply site) site mid (state first) (state then)) (moments : tells → DoesApply site (state first) (state then)) (works : WorksOnLent tells (IsOfWaiting site) (state first) (state then)) where
  told_is : mid.told ≡ site.told
  told_is = ap (λ (s : SiteState). s.told) ok.next_is

  idle_mid : mid.waiting ≡ []
  idle_mid = ap (λ (s : SiteState). s.waiting) ok.next_is

  level_mid : mid.is_ahead ≡ false
  level_mid = ap (λ (s : SiteState). s.is_ahead) ok.next_is ∙ level

  apart_mid : none_clash mid.told ≡ true
  apart_mid = ap none_clash told_is ∙ apart

  -- Failures may be told.
  pub may_report : MayRecord tells mid (state then)
  may_report = record { fast = fast_then tells (excepted_by_apply site) site mid (state first) (state then) fast leaves; level = level_mid; idle = idle_mid }

  applied : SiteMoved tells site mid (state first) (state then) (Ok tt)
  applied = apply_moved tells site mid (state first) (state then) fast.fits ok leaves works moments

  applied_works : MoverWorks tells site mid (state first) (state then) (Ok tt)
  applied_works = apply_works tells site mid (state first) (state then) fast.fits ok leaves works

  module _ (cut : ℕ) (now : cut ≡ mid.time) (next : SiteState) (last : P) (result : Result (Unit {0}) StoreError) (says : Suspends cut mid next (state then) then last result) (leaves_next : OnOk result (Leaves tells (λ e. e) mid next (state then) (state last)))
      (moments_next : DoesSuspend tells cut mid next (state then) (state last) result) (works_next : WorksOnLent tells (IsOfRecord mid) (state then) (state last)) (cause : HasStoreCause (state then).faults (state last).faults result)
      (fails : FailByCounts mid.failed next.failed (state then).faults (state last).faults) (stay : VolumesStay tells (state then) (state last)) (uncalled : IsErrOf result Spent → (next ≡ mid) × (last ≡ then)) where
    says_now : Suspends mid.time mid next (state then) then last result
    says_now = subst (λ (t : ℕ). Suspends t mid next (state then) then last result) now says

    moments_now : DoesSuspend tells mid.time mid next (state then) (state last) result
    moments_now = subst (λ (t : ℕ). DoesSuspend tells t mid next (state then) (state last) result) now moments_next

    tells_next : OnOk result (Tells mid next)
    tells_next = suspend_tells tells state mid next then last result apart_mid idle_mid level_mid says_now leaves_next moments_now works_next fails

    pub told_by_record : RestsBy tells site next (state first) (state last) result
    told_by_record = record {
      moved = site_then tells site mid next (state first) (state then) (state last) result applied (suspend_moved tells state mid next then last result apart_mid idle_mid level_mid says_now leaves_next moments_now works_next fails);
      works = works_then tells site mid next (state first) (state then) (state last) result applied_works (suspend_works tells state mid next then last result apart_mid idle_mid level_mid says_now leaves_next moments_now works_next fails cause stay may_report.fast uncalled);
      rests = on_both result (λ (t : Tells mid next) (l : Leaves tells (λ e. e) mid next (state then) (state last)). record {
        may = record { fast = fast_then tells (λ e. e) mid next (state then) (state last) may_report.fast l; level = t.level_is; idle = t.idle };
        told = none_untold_then mid next apart_mid t;
        apart = ap none_clash t.rows ∙ told_apart mid next.failed apart_mid;
      }) tells_next leaves_next;
    }

-- A mark after that.
module _ (tells : Type 0) {P : Type 0} (state : P → PlantState) (site mid next : SiteState) (first then last : P) (by : RestsBy tells site mid (state first) (state then) (Ok tt)) (ended : Bool) (goes_on : ended ≡ false) (result : Result (Unit {0}) StoreError) (ok : Marks mid next ended then last result)
    (leaves : OnOk result (Leaves tells (λ e. none_excepted) mid next (state then) (state last))) (moments : DoesMark tells mid next ended (state then) (state last) result) (works : WorksOnLent tells (IsOfMark mid) (state then) (state last)) (cause : HasStoreCause (state then).faults (state last).faults result)
    (fails : FailByCounts mid.failed next.failed (state then).faults (state last).faults) where
  pub marked_at_rest : RestsBy tells site next (state first) (state last) result
  marked_at_rest = record {
    moved = site_then tells site mid next (state first) (state then) (state last) result by.moved (mark_moved tells state mid next ended goes_on then last result by.rests.apart by.rests.may.idle ok leaves moments works fails);
    works = works_then tells site mid next (state first) (state then) (state last) result by.works (mark_works tells state mid next ended goes_on then last result by.rests.apart by.rests.may.idle ok leaves moments works fails cause by.rests.may.fast);
    rests = on_both result (λ (t : Tells mid next) (l : Leaves tells (λ e. none_excepted) mid next (state then) (state last)). record {
      may = record { fast = fast_then tells (λ e. none_excepted) mid next (state then) (state last) by.rests.may.fast l; level = t.level_is; idle = t.idle };
      told = none_untold_then mid next by.rests.apart t;
      apart = ap none_clash t.rows ∙ told_apart mid next.failed by.rests.apart;
    }) (mark_tells tells state mid next ended goes_on then last result by.rests.apart by.rests.may.idle ok leaves moments works fails) leaves;
  }

pub rests_as : (tells : Type 0) (site next : SiteState) (old new : PlantState) (r s : Result (Unit {0}) StoreError) → r ≡ s → RestsBy tells site next old new r → RestsBy tells site next old new s
rests_as tells site next old new r s same by = subst (λ (r : Result (Unit {0}) StoreError). RestsBy tells site next old new r) same by

pub told_then : (tells : Type 0) (site next : SiteState) (old new : PlantState) (r : Result (Unit {0}) StoreError) → RestsBy tells site next old new r → OnOk r (hit_now next.failed next.told ≡ [])
told_then tells site next old new r by = on_ok r (λ (rests : Rests tells next new). rests.told) by.rests

pub may_then : (tells : Type 0) (site next : SiteState) (old new : PlantState) (r : Result (Unit {0}) StoreError) → RestsBy tells site next old new r → OnOk r (MayRecord tells next new)
may_then tells site next old new r by = on_ok r (λ (rests : Rests tells next new). rests.may) by.rests
