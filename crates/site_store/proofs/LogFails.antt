-- Jobs that fail, and why calls fail, over calls in turn.
use Rattle.std.proofs.Common.{◌≡◌, ℕ, zero, suc, ◌<◌, Bool, true, false, List, [], ◌∷◌, length, get_or, Ok, Err, Result, refl, sym, subst, ◌∙◌, arith}
use Rattle.xrc_edge.specs.Causes.{Rose}
use Rattle.crash_plant.specs.declared.device.Device.{Device}
use Rattle.crash_plant.specs.declared.device.Device.TheVariants.{Volume}
use Rattle.crash_plant.specs.Calls.{WorksOn}
use Rattle.crash_plant.specs.Moments.{PlantState}
use Rattle.applier.specs.Returns.{WorksOnLent}
use Rattle.xrc_journal.specs.Jobs.{FailsByCount}
use Rattle.site_store.specs.declared.store_error.StoreError.{StoreError}
use Rattle.site_store.specs.declared.store_error.StoreError.TheVariants.{Spent}
use Rattle.site_store.specs.Causes.{FailByCounts, HasStoreCause}
use Rattle.site_store.specs.Logging.{FailedBetween}
use Rattle.site_store.specs.Records.{IsJournal, IsStore}

-- ---- jobs

-- A flag that is up has its place.
pub flag_low : (flags : List Bool) (d : ℕ) → get_or flags d false ≡ true → d < length flags
flag_low [] d flag = absurd cc
flag_low (f ∷ flags) zero flag = omega arith
flag_low (f ∷ flags) (suc d) flag = let lt = flag_low flags d flag in omega (arith, lt)

-- A job that failed stays failed.
pub stays_failed : (old new : List Bool) (before now : Device → ℕ) → FailByCounts old new before now → (d : ℕ) → get_or old d false ≡ true → get_or new d false ≡ true
stays_failed old new before now fails d was = (fails.alone d (flag_low old d was) was).0

pub was_good : (old new : List Bool) (before now : Device → ℕ) → FailByCounts old new before now → (d : ℕ) → get_or new d false ≡ false → get_or old d false ≡ false
was_good old new before now fails d good = by_flag (get_or old d false) refl
  where
    by_flag : (flag : Bool) → get_or old d false ≡ flag → get_or old d false ≡ false
    by_flag true was = let is = stays_failed old new before now fails d was in absurd (cc (is, good))
    by_flag false was = was

pub fails_trans : (a b c : List Bool) (first mid last : Device → ℕ) → FailByCounts a b first mid → FailByCounts b c mid last → FailByCounts a c first last
fails_trans a b c first mid last one two = record {
  size = two.size ∙ one.size;
  alone = λ d lt was.
      let had = one.alone d lt was in
      let has = two.alone d (omega (arith, lt, one.size)) had.0 in
      (has.0, has.1 ∙ had.1);
  by_count = λ d lt was. by_flag d lt (one.by_count d lt was) (get_or b d false) refl;
}
  where
    by_flag : (d : ℕ) → d < length a → FailsByCount (get_or b d false) (first (Volume d)) (mid (Volume d)) → (flag : Bool) → get_or b d false ≡ flag → FailsByCount (get_or c d false) (first (Volume d)) (last (Volume d))
    by_flag d lt count true failed =
        let has = two.alone d (omega (arith, lt, one.size)) failed in
        record {
          later = omega (arith, count.later, has.1);
          by_one = omega (arith, count.by_one, has.1);
          same = λ good. let bad = has.0 in absurd (cc (bad, good));
          rose = λ bad. subst (λ (n : ℕ). Rose (first (Volume d)) n) (sym has.1) (count.rose failed);
        }
    by_flag d lt count false good = subst (λ (n : ℕ). FailsByCount (get_or c d false) n (last (Volume d))) (count.same good) (two.by_count d (omega (arith, lt, one.size)) good)

-- where no volume's count rises, no job fails
pub none_fails : (a : List Bool) (before now : Device → ℕ) → ((d : ℕ) → now (Volume d) ≡ before (Volume d)) → FailByCounts a a before now
none_fails a before now same = record {
  size = refl;
  alone = λ d lt was. (was, same d);
  by_count = λ d lt was. record { later = omega (arith, same d); by_one = omega (arith, same d); same = λ good. same d; rose = λ bad. absurd (cc (was, bad)) };
}

pub fails_still : (a b : List Bool) (first mid last : Device → ℕ) → FailByCounts a b first mid → ((d : ℕ) → last (Volume d) ≡ mid (Volume d)) → FailByCounts a b first last
fails_still a b first mid last fails same = fails_trans a b b first mid last fails (none_fails b mid last same)

-- A record calls no volume.
pub none_by_journals : (tells : Type 0) (old new : PlantState) → WorksOn tells IsJournal old new → (d : ℕ) → new.faults (Volume d) ≡ old.faults (Volume d)
none_by_journals tells old new works d = works.others_faults (Volume d) (λ journal. journal)

pub fails_between : (a b c : List Bool) (first mid last : Device → ℕ) → FailByCounts a b first mid → FailByCounts b c mid last → FailedBetween a b c
fails_between a b c first mid last one two = record { before = λ d was. stays_failed a b first mid one d was; after = λ d was. stays_failed b c mid last two d was }

-- ---- causes

-- No count of the control, the state or a journal rises.
abbrev pub StoresQuiet : (before now : Device → ℕ) → Type 0
StoresQuiet before now = (d : Device) → IsStore d → now d ≡ before d

pub quiet_trans : (a b c : Device → ℕ) → StoresQuiet a b → StoresQuiet b c → StoresQuiet a c
quiet_trans a b c one two d store = two d store ∙ one d store

-- Reads of volumes are quiet.
pub quiet_reads : (tells : Type 0) (of : ℕ → Type 0) (old new : PlantState) → WorksOnLent tells (λ device. (d : ℕ) × (device ≡ Volume d) × of d) old new → StoresQuiet old.faults new.faults
quiet_reads tells of old new works d store = works.others_faults d (λ among. subst IsStore among.1 store)

pub quiet_ok : (before now : Device → ℕ) → HasStoreCause before now (Ok tt) → StoresQuiet before now
quiet_ok before now cause d store = cause.counts.others d store (λ e. cc e)

pub cause_then : (before mid now : Device → ℕ) (result : Result (Unit {0}) StoreError) → StoresQuiet before mid → HasStoreCause mid now result → HasStoreCause before now result
cause_then before mid now result quiet cause = record {
  counts = record {
    fault = λ d is. let why = cause.counts.fault d is in (why.0, subst (λ (n : ℕ). Rose n (now d)) (quiet d why.0) why.1);
    others = λ d store not. cause.counts.others d store not ∙ quiet d store;
  };
  memory = cause.memory;
}

pub spent_cause : (before now : Device → ℕ) → StoresQuiet before now → HasStoreCause before now (Err Spent)
spent_cause before now quiet = record {
  counts = record { fault = λ d is. absurd (cc is); others = λ d store not. quiet d store };
  memory = λ e. cc e;
}
