-- What the work for a line's time leaves of the devices, and why it stops.
use Rattle.std.proofs.Common.{◌≡◌, ◌⊎◌, ℕ, ◌≤◌, Ok, Err, refl, sym, ap, subst, arith, inl, inr}
use Rattle.xrc_edge.specs.Causes.{Rose}
use Rattle.crash_plant.specs.declared.device.Device.{Device}
use Rattle.crash_plant.specs.declared.device.Device.TheVariants.{Control, State, Journal, Volume}
use Rattle.crash_plant.specs.declared.spot.Spot.{Spot}
use Rattle.crash_plant.specs.Moments.{PlantState}
use Rattle.site_store.specs.declared.store_error.StoreError.{StoreError}
use Rattle.site_store.specs.declared.store_error.StoreError.TheVariants as store
use Rattle.site_store.specs.Causes.{FaultsByCount}
use Rattle.site_store.specs.Records.{IsStore}
use Rattle.site_store.specs.Sites.{SiteState, meant_for}
use Rattle.site_store.specs.Placements.{most}
use Rattle.mover.specs.Moves.{MoverWorks}
use Rattle.mover.specs.Numbers.{IsSiteSpent}
use Rattle.xrc_status.specs.declared.stop.Stop.TheVariants as stops
use Rattle.xrc_session.specs.Bringing.{IsWorkOfStore}
use Rattle.xrc_session.specs.Frames.{SuspendsByCounts}
use Rattle.xrc_session.specs.Stops.{HasStopCause, IsSpentNow, stop_of_device, stop_of_store}

-- ---- stops

-- A device that failed isn't the stop for want of numbers.
not_spent : (d : Device) → ¬ (stop_of_device d ≡ stops.Spent)
not_spent Control = λ same. cc same
not_spent State = λ same. cc same
not_spent (Journal j) = λ same. cc same
not_spent (Volume v) = λ same. cc same

-- Only a store's want of numbers is that stop.
pub spent_store : (error : StoreError) → stop_of_store error ≡ stops.Spent → error ≡ store.Spent
spent_store (store.Fault d) same = absurd (not_spent d same)
spent_store store.Spent same = refl
spent_store store.NoMemory same = absurd (cc same)

pub cause_of_device : (old new : PlantState) (d : Device) → IsStore d → Rose (old.faults d) (new.faults d) → HasStopCause old new (stop_of_device d)
cause_of_device old new Control is rose = rose
cause_of_device old new State is rose = rose
cause_of_device old new (Journal j) is rose = rose
cause_of_device old new (Volume v) is rose = absurd is

pub cause_of_store : (old new : PlantState) (error : StoreError) → FaultsByCount {T = Unit {0}} old.faults new.faults (Err error) → HasStopCause old new (stop_of_store error)
cause_of_store old new (store.Fault d) counts = let fault = counts.fault d refl in cause_of_device old new d fault.0 fault.1
cause_of_store old new store.Spent counts = tt
cause_of_store old new store.NoMemory counts = tt

-- ---- numbers

-- The devices tell that the numbers of a site are spent which every crash leaves.
pub spent_now : (tells : Type 0) → tells → (site : SiteState) (plant : PlantState) → IsSiteSpent tells site plant → IsSpentNow plant
spent_now tells told site plant spent c left =
    let stands = (spent.stands told).1 in
    record { mark = site.mark; chosen = stands.chosen c left; means = meant_for site; walk = stands.walk; meant = stands.meant c left; spent = by spent.at_end }
  where
    by : (most ≤ site.at.number) ⊎ (site.mark.number ≡ most) → (site.mark.number ≡ most) ⊎ (most ≤ (spent.stands told).1.walk.at.number)
    by (inl low) = let at = (spent.stands told).1.at in inr (subst (λ (n : ℕ). most ≤ n) (sym (ap (λ (s : Spot). s.number) at)) low)
    by (inr is) = inl is

-- ---- the mover's work

module _ (tells : Type 0) (site after : SiteState) (old new : PlantState) where
  -- It ends well.
  pub works_well : MoverWorks tells site after old new (Ok tt) → SuspendsByCounts site.told after.told old new → IsWorkOfStore {T = Unit {0}} tells site after old new (Ok tt)
  works_well works hits = record {
    works = works.others;
    cause = tt;
    counts = record {
      devices = λ d is none. works.cause.counts.others d is (λ fault. absurd (cc fault));
      console = λ none. works.others.console_faults;
      later = works.others.faults;
      console_later = (let same = works.others.console_faults in omega (arith, same));
      console_once = (let same = works.others.console_faults in omega (arith, same));
    };
    spent = λ told is. absurd (cc is);
    hits = hits;
  }

  -- The site can't go on.
  pub works_badly : (error : StoreError) → MoverWorks tells site after old new (Err error) → IsWorkOfStore {T = Unit {0}} tells site after old new (Err (stop_of_store error))
  works_badly error works = record {
    works = works.others;
    cause = cause_of_store old new error works.cause.counts;
    counts = record {
      devices = λ d is none. works.cause.counts.others d is (λ fault. let same : error ≡ store.Fault d = cc fault in none (ap (λ (e : StoreError). Err (stop_of_store e)) same));
      console = λ none. works.others.console_faults;
      later = works.others.faults;
      console_later = (let same = works.others.console_faults in omega (arith, same));
      console_once = (let same = works.others.console_faults in omega (arith, same));
    };
    spent = λ told is. let stop : stop_of_store error ≡ stops.Spent = cc is in spent_now tells told after new (works.spent (ap (λ (e : StoreError). Err e) (spent_store error stop)));
    hits = tt;
  }

  -- There is no memory for it.
  pub works_without : MoverWorks tells site after old new (Ok tt) → IsWorkOfStore {T = Unit {0}} tells site after old new (Err stops.NoMemory)
  works_without works = record {
    works = works.others;
    cause = tt;
    counts = record {
      devices = λ d is none. works.cause.counts.others d is (λ fault. absurd (cc fault));
      console = λ none. works.others.console_faults;
      later = works.others.faults;
      console_later = (let same = works.others.console_faults in omega (arith, same));
      console_once = (let same = works.others.console_faults in omega (arith, same));
    };
    spent = λ told is. absurd (cc is);
    hits = tt;
  }
