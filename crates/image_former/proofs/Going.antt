-- Jobs before and after steps that only read their volumes.
use Rattle.std.proofs.Common.{◌≡◌, ◌≤◌, ◌+◌, ◌==◌, ℕ, zero, suc, Bool, true, false, cond, List, [], ◌∷◌, get_or, set, Option, Some, None, refl, sym, ◌∙◌, ap, subst, arith}
use Rattle.std.specs.Prelude.{not, count_by, IsSomeAnd}
use Rattle.std.specs.List.{All, AllZip}
use Rattle.std.proofs.lemmas.Bool.{both_ways}
use Rattle.std.proofs.lemmas.List.Sums.{sum_by-cons}
use Rattle.std.proofs.lemmas.List.Elements.{All-head, All-tail, All-cons}
use Rattle.xrc_edge.specs.Causes.{Rose}
use Rattle.crash_plant.specs.Moments.{Standing, Same}
use Rattle.crash_plant.proofs.Steps.{kept_here, follows_here, kept_trans, follows_then}
use Rattle.xrc_journal.specs.declared.job.VolumeJob.{VolumeJob}
use Rattle.xrc_journal.specs.Jobs.{OnVolume}
use Rattle.pair_table.specs.declared.row.PairRow.{PairRow}
use Rattle.pending_queue.specs.Entries.{WaitingEntry}
use Rattle.image_former.specs.Entries.{entry_device}
use Rattle.image_former.specs.Jobs.{is_job_of, HoldsSlots, HasSlotsOf, BeginsWhole, HasNoEntry}
use Rattle.image_former.specs.Steps.{OnlyReadsDisk, Goes, GoesBy, is_job_live, AreReady}
use Rattle.image_former.proofs.Lists.{zip_refl}

-- ---- one standing

reads_here : (tells : Type 0) (a : Standing) → OnlyReadsDisk tells false a a
reads_here tells a = record {
  length_is = refl;
  bytes = λ told. refl;
  past = λ told. kept_here a;
  moments = λ told. follows_here a Same (λ b now. refl);
  cause = record { later = omega arith; by_one = omega arith; same = λ good. refl; rose = λ bad. absurd cc };
}

reads_then : (tells : Type 0) (failed : Bool) (a b c : Standing) → OnlyReadsDisk tells false a b → OnlyReadsDisk tells failed b c → OnlyReadsDisk tells failed a c
reads_then tells failed a b c x y =
    let still : b.faults ≡ a.faults = x.cause.same refl in
    record {
      length_is = y.length_is ∙ x.length_is;
      bytes = λ told. y.bytes told ∙ x.bytes told;
      past = λ told. kept_trans a b c (x.past told) (y.past told);
      moments = λ told. follows_then a b c Same Same Same (x.past told).later (x.moments told) (y.past told) (y.moments told) (λ p q here e. e) (λ p q r here there e e2. e2 ∙ e);
      cause = record {
        later = omega (arith, y.cause.later, still);
        by_one = omega (arith, y.cause.by_one, still);
        same = λ good. y.cause.same good ∙ still;
        rose = λ bad. subst (λ (n : ℕ). Rose n c.faults) still (y.cause.rose bad);
      };
    }

-- ---- one volume

module _ {D : Type 0} (state : D → Standing) (tells : Type 0) where
  volume_here : (disk : Option D) → OnVolume state (OnlyReadsDisk tells false) disk disk
  volume_here (Some disk) = reads_here tells (state disk)
  volume_here None = tt

  volume_then : (failed : Bool) (a b c : Option D) → OnVolume state (OnlyReadsDisk tells false) a b → OnVolume state (OnlyReadsDisk tells failed) b c → OnVolume state (OnlyReadsDisk tells failed) a c
  volume_then failed (Some a) (Some b) (Some c) x y = reads_then tells failed (state a) (state b) (state c) x y
  volume_then failed (Some a) (Some b) None x y = absurd y
  volume_then failed (Some a) None c x y = absurd x
  volume_then failed None (Some b) c x y = absurd x
  volume_then failed None None (Some c) x y = absurd y
  volume_then failed None None None x y = tt

  pub volume_map : (holds other : Standing → Standing → Type 0) (a b : Option D) → ((x y : Standing) → holds x y → other x y) → OnVolume state holds a b → OnVolume state other a b
  volume_map holds other (Some a) (Some b) each is = each (state a) (state b) is
  volume_map holds other (Some a) None each is = absurd is
  volume_map holds other None (Some b) each is = absurd is
  volume_map holds other None None each is = tt

  -- of a volume that stays
  pub volume_stays : (holds : Standing → Standing → Type 0) (disk : Option D) → ((x : Standing) → holds x x) → OnVolume state holds disk disk
  volume_stays holds (Some disk) each = each (state disk)
  volume_stays holds None each = tt

  -- ---- one job

  pub goes_here : (a : VolumeJob D) → Goes state tells a a
  goes_here a = record { device = refl; alone = λ bad. refl; reads = λ good. subst (λ (f : Bool). OnVolume state (OnlyReadsDisk tells f) a.disk a.disk) (sym good) (volume_here a.disk) }

  pub goes_then : (a b c : VolumeJob D) → Goes state tells a b → Goes state tells b c → Goes state tells a c
  goes_then a b c x y = record {
    device = y.device ∙ x.device;
    alone = λ bad. y.alone (ap (λ (j : VolumeJob D). j.failed) (x.alone bad) ∙ bad) ∙ x.alone bad;
    reads = λ good. by_mid b.failed refl good;
  }
    where
      by_mid : (f : Bool) → b.failed ≡ f → a.failed ≡ false → OnVolume state (OnlyReadsDisk tells c.failed) a.disk c.disk
      by_mid true bad good = subst (λ (j : VolumeJob D). OnVolume state (OnlyReadsDisk tells j.failed) a.disk j.disk) (sym (y.alone bad)) (x.reads good)
      by_mid false still good = volume_then c.failed a.disk b.disk c.disk (subst (λ (f : Bool). OnVolume state (OnlyReadsDisk tells f) a.disk b.disk) still (x.reads good)) (y.reads still)

  -- A job doesn't recover.
  pub stays_failed : (a b : VolumeJob D) → Goes state tells a b → b.failed ≡ false → a.failed ≡ false
  stays_failed a b x good = by_old a.failed refl
    where
      by_old : (f : Bool) → a.failed ≡ f → a.failed ≡ false
      by_old true bad = absurd (both_ways b.failed good (ap (λ (j : VolumeJob D). j.failed) (x.alone bad) ∙ bad))
      by_old false still = still

  module _ (rows : List PairRow) (entries : List WaitingEntry) where
    pub by_here : (a : VolumeJob D) → GoesBy state tells rows entries a a
    by_here a = record { goes = goes_here a; not_read = λ whole. (refl, refl); not_called = λ none. refl }

    pub by_then : (a b c : VolumeJob D) → GoesBy state tells rows entries a b → GoesBy state tells rows entries b c → GoesBy state tells rows entries a c
    by_then a b c x y = record {
      goes = goes_then a b c x.goes y.goes;
      not_read = λ whole.
          let first = x.not_read whole in
          let more = y.not_read (subst (λ (d : ℕ). BeginsWhole rows entries d) (sym x.goes.device) whole) in
          (more.0 ∙ first.0, more.1 ∙ first.1);
      not_called = λ none. y.not_called (subst (λ (d : ℕ). HasNoEntry rows entries d) (sym x.goes.device) none) ∙ x.not_called none;
    }

    -- ---- all jobs

    same_count : (device : ℕ) (a b : List (VolumeJob D)) → AllZip (GoesBy state tells rows entries) a b → count_by (is_job_of device) b ≡ count_by (is_job_of device) a
    same_count device [] [] all = refl
    same_count device [] (y ∷ ys) all = absurd all
    same_count device (x ∷ xs) [] all = absurd all
    same_count device (x ∷ xs) (y ∷ ys) all =
        sum_by-cons (λ (j : VolumeJob D). cond (is_job_of device j) 1 0) y ys
        ∙ (λ i. cond (all.0.goes.device i == device) 1 0 + same_count device xs ys all.1 i)
        ∙ sym (sum_by-cons (λ (j : VolumeJob D). cond (is_job_of device j) 1 0) x xs)

    -- No job more is live.
    pub live_falls : (a b : List (VolumeJob D)) → AllZip (GoesBy state tells rows entries) a b → count_by is_job_live b ≤ count_by is_job_live a
    live_falls [] [] all = omega arith
    live_falls [] (y ∷ ys) all = absurd all
    live_falls (x ∷ xs) [] all = absurd all
    live_falls (x ∷ xs) (y ∷ ys) all =
        let new = sum_by-cons (λ (j : VolumeJob D). cond (is_job_live j) 1 0) y ys in
        let old = sum_by-cons (λ (j : VolumeJob D). cond (is_job_live j) 1 0) x xs in
        omega (arith, new, old, live_falls xs ys all.1, one x.failed y.failed refl refl)
      where
        one : (f g : Bool) → x.failed ≡ f → y.failed ≡ g → cond (not y.failed) 1 0 ≤ cond (not x.failed) 1 0
        one true true old new = rw (old, new) (omega arith)
        one true false old new = absurd (both_ways x.failed (stays_failed x y all.0.goes new) old)
        one false true old new = rw (old, new) (omega arith)
        one false false old new = rw (old, new) (omega arith)

    -- what all rounds need of the jobs
    slots_after : (device : ℕ) (a b : Option D) (holds : Standing → Standing → Type 0) → ((x y : Standing) → holds x y → y.length_is ≡ x.length_is) → OnVolume state holds a b → HoldsSlots state rows device entries a → HoldsSlots state rows device entries b
    slots_after device (Some a) (Some b) holds long on slots = λ x has. omega (arith, slots x has, long (state a) (state b) on)
    slots_after device (Some a) None holds long on slots = absurd on
    slots_after device None (Some b) holds long on slots = absurd on
    slots_after device None None holds long on slots = slots

    slots_all : (a b : List (VolumeJob D)) → AllZip (GoesBy state tells rows entries) a b → All (HasSlotsOf state rows entries) a → All (HasSlotsOf state rows entries) b
    slots_all [] [] all slots = slots
    slots_all [] (y ∷ ys) all slots = absurd all
    slots_all (x ∷ xs) [] all slots = absurd all
    slots_all (x ∷ xs) (y ∷ ys) all slots = All-cons (HasSlotsOf state rows entries) y ys (λ good.
        let was = stays_failed x y all.0.goes good in
        subst (λ (d : ℕ). HoldsSlots state rows d entries y.disk) (sym all.0.goes.device)
        (slots_after x.device x.disk y.disk (OnlyReadsDisk tells y.failed) (λ s t on. on.length_is) (all.0.goes.reads was) (All-head (HasSlotsOf state rows entries) x xs slots was)))
        (slots_all xs ys all.1 (All-tail (HasSlotsOf state rows entries) x xs slots))

    some_and : (o : Option ℕ) (P Q : ℕ → Type 0) → ((n : ℕ) → P n → Q n) → IsSomeAnd o P → IsSomeAnd o Q
    some_and (Some n) P Q each is = each n is
    some_and None P Q each is = absurd is

    pub ready_after : (a b : List (VolumeJob D)) → AllZip (GoesBy state tells rows entries) a b → AreReady state rows entries a → AreReady state rows entries b
    ready_after a b all ready = record {
      one_job = λ k e lt. some_and (entry_device rows (get_or entries k e)) (λ device. count_by (is_job_of device) a ≡ 1) (λ device. count_by (is_job_of device) b ≡ 1) (λ device one. same_count device a b all ∙ one) (ready.one_job k e lt);
      slots = slots_all a b all ready.slots;
    }

-- ---- a list with one job changed

pub zip_set : {A : Type 0} (R : A → A → Type 0) → ((x : A) → R x x) → (xs : List A) (i : ℕ) (new : A) → ((d : A) → R (get_or xs i d) new) → AllZip R xs (set xs i new)
zip_set R each [] i new is = tt
zip_set R each (x ∷ xs) zero new is = (is x, zip_refl R each xs)
zip_set R each (x ∷ xs) (suc i) new is = (each x, zip_set R each xs i new is)
