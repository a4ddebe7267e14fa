-- Which counts rise in the phases of a third copy.
use Rattle.std.proofs.Common.{◌≡◌, ◌≢◌, ◌⊎◌, inl, inr, ◌≤◌, ◌+◌, ◌==◌, ◌&&◌, ◌||◌, [], ◌∷◌, ℕ, zero, suc, List, Bool, true, false, not, cond, Some, refl, sym, ◌∙◌, ap, subst, arith}
use Rattle.std.specs.Prelude.{Contains, filter, map, slice_get}
use Rattle.std.specs.List.{list_any}
use Rattle.std.proofs.lemmas.Bool.{cases_Bool, cases_eq, eq-eqb, eqb-true}
use Rattle.std.proofs.lemmas.Option.{slice_get-get_or}
use Rattle.crash_plant.specs.declared.device.Device.{Device}
use Rattle.crash_plant.specs.declared.device.Device.TheVariants.{Volume}
use Rattle.crash_plant.specs.Moments.{PlantState}
use Rattle.pair_table.specs.declared.row.PairRow.{PairRow}
use Rattle.pair_table.specs.Devices.{is_among}
use Rattle.pair_table.specs.States.{is_duplex}
use Rattle.pair_table.specs.Tables.{AreRowsSound, HasRow}
use Rattle.site_means.specs.declared.means.Means.{Means}
use Rattle.volume_copy.specs.declared.copy_job.CopyJob.{CopyJob}
use Rattle.xrc_edge.specs.Causes.{Rose}
use Rattle.xrc_journal.specs.Jobs.{FailsByCount}
use Rattle.xrecover.specs.Pairs.{AreFaulty, HasDuplex, SparesOthers, duplex_devices, is_duplex_of}
use Rattle.xrecover.proofs.Rows.{duplex_at}
use Rattle.xrecover.proofs.Seen.{duplex_cases}
use Rattle.third_copy.specs.Answers.{CountsPairs}
use Rattle.third_copy.specs.Jobs.{EndsJobs, FailsByEither}
use Rattle.third_copy.specs.Pairs.{AreJobs, CountsTargets, IsPair, job_of}
use Rattle.third_copy.specs.Targets.{target_of}
use Rattle.third_copy.proofs.JobsDone.{either_after}
use Rattle.third_copy.proofs.Rows.{contained, place_of_row, same_row}
use Rattle.third_copy.proofs.Site.{duplex_row, frees, job_is, pair_duplex}

-- ---- lists of devices

pub among_at : (xs : List ℕ) (k v : ℕ) → slice_get xs k ≡ Some v → is_among v xs ≡ true
among_at [] k v at = absurd cc
among_at (x ∷ xs) zero v at = let same : x ≡ v = cc in ap (λ (b : Bool). b || is_among v xs) (eq-eqb x v same)
among_at (x ∷ xs) (suc k) v at = either (x == v) (is_among v xs) (among_at xs k v at)
  where
    either : (a b : Bool) → b ≡ true → (a || b) ≡ true
    either true b e = refl
    either false b e = e

pub not_among : (xs : List ℕ) (v : ℕ) → is_among v xs ≡ false → ¬ Contains xs v
not_among xs v none has = clash (sym (among_at xs has.0 v (slice_get-get_or xs has.0 v has.1 ∙ ap Some has.2)) ∙ none)
  where
    clash : (true ≡ false) → ⊥
    clash e = cc

-- Of a list by a test, one of it keeps the test.
kept_of : (f : ℕ → Bool) (xs : List ℕ) (v : ℕ) → is_among v (filter f xs) ≡ true → f v ≡ true
kept_of f [] v is = absurd cc
kept_of f (x ∷ xs) v is = by_test (f x) refl is (λ more. kept_of f xs v more)
  where
    by_first : (b : Bool) → (x == v) ≡ b → f x ≡ true → (b || is_among v (filter f xs)) ≡ true → (is_among v (filter f xs) ≡ true → f v ≡ true) → f v ≡ true
    by_first true e kept is more = ap f (sym (eqb-true x v e)) ∙ kept
    by_first false e kept is more = more is

    by_test : (b : Bool) → f x ≡ b → is_among v (cond b (x ∷ filter f xs) (filter f xs)) ≡ true → (is_among v (filter f xs) ≡ true → f v ≡ true) → f v ≡ true
    by_test true kept is more = by_first (x == v) refl kept is more
    by_test false left is more = more is

kept_there : (f : ℕ → Bool) (xs : List ℕ) (v : ℕ) → is_among v xs ≡ true → f v ≡ true → is_among v (filter f xs) ≡ true
kept_there f [] v is kept = absurd cc
kept_there f (x ∷ xs) v is kept = by_test (f x) refl (x == v) refl is (λ more. kept_there f xs v more kept)
  where
    by_test : (b : Bool) → f x ≡ b → (e : Bool) → (x == v) ≡ e → (e || is_among v xs) ≡ true → (is_among v xs ≡ true → is_among v (filter f xs) ≡ true) → is_among v (cond b (x ∷ filter f xs) (filter f xs)) ≡ true
    by_test true yes_here true same is more = ap (λ (e : Bool). e || is_among v (filter f xs)) same
    by_test true yes_here false differs is more = ap (λ (e : Bool). e || is_among v (filter f xs)) differs ∙ more is
    by_test false not_here true same is more = absurd (clash (sym kept ∙ ap f (sym (eqb-true x v same)) ∙ not_here))
      where
        clash : (true ≡ false) → ⊥
        clash e = cc
    by_test false not_here false differs is more = more is

-- A duplex pair's device is one of the devices of the duplex pairs.
duplex_listed : (rows : List PairRow) (v : ℕ) → HasDuplex rows v → is_among v (duplex_devices rows) ≡ true
duplex_listed [] v has = absurd cc
duplex_listed (q ∷ rows) v has = by_parts (v == q.device) refl (is_duplex q.state) has (λ more. duplex_listed rows v more)
  where
    by_parts : (a : Bool) → (v == q.device) ≡ a → (d : Bool) → ((a && d) || list_any (is_duplex_of v) rows) ≡ true → (HasDuplex rows v → is_among v (duplex_devices rows) ≡ true)
        → is_among v (map (λ (r : PairRow). r.device) (cond d (q ∷ filter (λ r. is_duplex r.state) rows) (filter (λ r. is_duplex r.state) rows))) ≡ true
    by_parts true e true has more = ap (λ (b : Bool). b || is_among v (duplex_devices rows)) (eq-eqb q.device v (sym (eqb-true v q.device e)))
    by_parts true e false has more = more has
    by_parts false e true has more = either (q.device == v) (is_among v (duplex_devices rows)) (more has)
      where
        either : (a b : Bool) → b ≡ true → (a || b) ≡ true
        either true b e = refl
        either false b e = e
    by_parts false e false has more = more has

-- A pair that isn't among these devices is among the others.
pub listed_unless : (rows : List PairRow) (copied : List ℕ) (r : PairRow) → IsPair rows r → is_among r.device copied ≡ false → is_among r.device (filter (λ v. not (is_among v copied)) (duplex_devices rows)) ≡ true
listed_unless rows copied r pair none =
    let place = place_of_row rows r pair.among in
    kept_there (λ v. not (is_among v copied)) (duplex_devices rows) r.device (duplex_listed rows r.device (duplex_at rows place.0 r place.1 pair.duplex)) (ap not none)

-- A duplex pair's device is that of a pair.
pub duplex_pair : (rows : List PairRow) (v : ℕ) → HasDuplex rows v → (r : PairRow) × IsPair rows r × (r.device ≡ v)
duplex_pair rows v has = let at = duplex_place rows v has in (at.1, record { among = contained rows at.0 at.1 at.2; duplex = at.3 }, at.4)
  where
    duplex_place : (rows : List PairRow) (v : ℕ) → HasDuplex rows v → (k : ℕ) × (r : PairRow) × (slice_get rows k ≡ Some r) × (is_duplex r.state ≡ true) × (r.device ≡ v)
    duplex_place [] v has = absurd cc
    duplex_place (q ∷ rows) v has = by_parts (v == q.device) refl (is_duplex q.state) refl has (λ more. let at = duplex_place rows v more in (suc at.0, at.1, at.2, at.3, at.4))
      where
        by_parts : (a : Bool) → (v == q.device) ≡ a → (d : Bool) → is_duplex q.state ≡ d → ((a && d) || list_any (is_duplex_of v) rows) ≡ true → (HasDuplex rows v → (k : ℕ) × (r : PairRow) × (slice_get (q ∷ rows) k ≡ Some r) × (is_duplex r.state ≡ true) × (r.device ≡ v))
            → (k : ℕ) × (r : PairRow) × (slice_get (q ∷ rows) k ≡ Some r) × (is_duplex r.state ≡ true) × (r.device ≡ v)
        by_parts true e true duplex has more = (0, q, refl, duplex, sym (eqb-true v q.device e))
        by_parts true e false other has more = more has
        by_parts false e true duplex has more = more has
        by_parts false e false other has more = more has

-- ---- a pair's counts

module _ (tells : Type 0) (old two three new : PlantState) (means : Means) (shift : ℕ) (jobs : List CopyJob) (failed copied : List ℕ) (sound : AreRowsSound means.table.rows) (are : AreJobs means shift old two jobs)
    (found : CountsTargets means.table.rows shift old.faults two.faults) (redone : AreFaulty means.table.rows two.faults three.faults failed) (ends : EndsJobs tells jobs failed copied three new) (r : PairRow) (pair : IsPair means.table.rows r) where
  abbrev rows : List PairRow
  rows = means.table.rows

  abbrev d : ℕ
  d = r.device

  abbrev t : ℕ
  t = target_of shift r

  has_row : HasRow d rows
  has_row = duplex_row d rows (pair_duplex tells old two three means shift jobs failed sound are r pair)

  free : ¬ HasRow t rows
  free = frees tells old two three means shift jobs failed sound are r pair

  number : {v w : ℕ} → Volume v ≡ Volume w → v ≡ w
  number e = cc

  -- Its volume is no target, so no label of it was read.
  source_found : two.faults (Volume d) ≡ old.faults (Volume d)
  source_found = found.others (Volume d) (λ p is e. frees tells old two three means shift jobs failed sound are p is (subst (λ (v : ℕ). HasRow v rows) (number e) has_row))

  -- Its target is no pair's volume, so the redo leaves it.
  target_redone : three.faults (Volume t) ≡ two.faults (Volume t)
  target_redone = (redone.counted t).same (elim (cases_Bool (redone.has_failed t)) [
    | inl bad ↦ absurd (free (duplex_row t rows (redone.are_duplex t bad)))
    | inr fine ↦ fine
  ])

  -- It is told as failed by the redo where its count rose in it.
  flag_is : redone.has_failed d ≡ is_among d failed
  flag_is = elim (cases_Bool (redone.has_failed d)) [
    | inl bad ↦ bad ∙ sym (ap (λ (l : List ℕ). is_among d l) redone.listed ∙ kept_there redone.has_failed (duplex_devices rows) d (duplex_listed rows d (redone.are_duplex d bad)) bad)
    | inr fine ↦ fine ∙ sym (elim (cases_Bool (is_among d failed)) [
      | inl is ↦ absurd (clash (sym (kept_of redone.has_failed (duplex_devices rows) d (sym (ap (λ (l : List ℕ). is_among d l) redone.listed) ∙ is)) ∙ fine))
      | inr none ↦ none
    ])
  ]
    where
      clash : (true ≡ false) → ⊥
      clash e = cc

  source_redone : FailsByCount (is_among d failed) (old.faults (Volume d)) (three.faults (Volume d))
  source_redone = subst (λ (f : Bool). FailsByCount f (old.faults (Volume d)) (three.faults (Volume d))) flag_is (subst (λ (n : ℕ). FailsByCount (redone.has_failed d) n (three.faults (Volume d))) source_found (redone.counted d))

  -- Only a job's source is told as copied, and none that failed before.
  pub copied_job : is_among d copied ≡ true → (k : ℕ) × (slice_get jobs k ≡ Some (job_of means shift r)) × (is_among d failed ≡ false)
  copied_job is =
      let o = ends.of_jobs d is in
      let own = are.each o.0 o.1 o.2 in
      let row : own.row ≡ r = same_row rows own.row r sound own.pair.among pair.among (sym (ap (λ (q : CopyJob). q.source) own.is) ∙ o.3) in
      (o.0, subst (λ (q : CopyJob). slice_get jobs o.0 ≡ Some q) (own.is ∙ ap (job_of means shift) row) o.2, o.4)

  not_copied : ((k : ℕ) × (slice_get jobs k ≡ Some (job_of means shift r)) × (is_among d failed ≡ false) → ⊥) → is_among d copied ≡ false
  not_copied none = elim (cases_Bool (is_among d copied)) [ inl is ↦ absurd (none (copied_job is)) | inr is ↦ is ]

  own_free : (k : ℕ) (j : CopyJob) → slice_get jobs k ≡ Some j → ¬ HasRow j.target rows
  own_free k j at has =
      let own = are.each k j at in
      own.target.free (subst (λ (v : ℕ). HasRow v rows) (ap (λ (q : CopyJob). q.target) own.is) has)

  -- Where no job is its own, its volume isn't called after the redo.
  source_unused : ((k : ℕ) (j : CopyJob) → slice_get jobs k ≡ Some j → j.source ≢ d) → new.faults (Volume d) ≡ three.faults (Volume d)
  source_unused no_job = ends.spared (Volume d) (λ k j at. (λ e. no_job k j at (sym (number e)), λ e. own_free k j at (subst (λ (v : ℕ). HasRow v rows) (number e) has_row)))

  -- If its volume failed in the redo, its count is higher than at the start.
  pub source_rose : is_among d failed ≡ true → Rose (old.faults (Volume d)) (new.faults (Volume d))
  source_rose bad = subst (λ (n : ℕ). Rose (old.faults (Volume d)) n) (sym still) (source_redone.rose bad)
    where
      still : new.faults (Volume d) ≡ three.faults (Volume d)
      still = elim (are.has r pair) [
        | inl job ↦
            let counted = subst (λ (f : Bool). FailsByEither (not f && not (is_among d copied)) d t three.faults new.faults) bad (ends.counted job.0 (job_of means shift r) job.1) in
            (counted.same refl).0
        | inr none ↦ source_unused none.1
      ]

  -- It has a job.
  with_job : (k : ℕ) → slice_get jobs k ≡ Some (job_of means shift r) → two.faults (Volume t) ≡ old.faults (Volume t) → FailsByEither (not (is_among d copied)) d t old.faults new.faults
  with_job k at same = elim (cases_Bool (is_among d failed)) [
    | inr fit ↦
        let counted = subst (λ (f : Bool). FailsByEither (not f && not (is_among d copied)) d t three.faults new.faults) fit (ends.counted k (job_of means shift r) at) in
        either_after (not (is_among d copied)) d t old.faults three.faults new.faults (source_redone.same fit) (target_redone ∙ same) counted
    | inl bad ↦
        let none = not_copied (λ job. let fit = job.2 in cc (bad, fit)) in
        let counted = subst (λ (f : Bool). FailsByEither (not f && not (is_among d copied)) d t three.faults new.faults) bad (ends.counted k (job_of means shift r) at) in
        let still = counted.same refl in
        let target_still = still.1 ∙ target_redone ∙ same in
        let source_still = still.0 in
        subst (λ (f : Bool). FailsByEither (not f) d t old.faults new.faults) (sym none) (record {
          source_later = omega (arith, source_redone.later, source_still);
          source_once = omega (arith, source_redone.by_one, source_still);
          target_later = omega (arith, target_still);
          target_once = omega (arith, target_still);
          same = λ no. absurd cc;
          rose = λ yes. inl (subst (λ (n : ℕ). Rose (old.faults (Volume d)) n) (sym source_still) (source_redone.rose bad));
        })
  ]

  -- It has none: its target's label couldn't be read.
  without_job : Rose (old.faults (Volume t)) (two.faults (Volume t)) → ((k : ℕ) (j : CopyJob) → slice_get jobs k ≡ Some j → j.source ≢ d) → FailsByEither (not (is_among d copied)) d t old.faults new.faults
  without_job rose no_job =
      let none = not_copied (λ job. no_job job.0 (job_of means shift r) job.1 refl) in
      let source_still = source_unused no_job in
      let target_still : new.faults (Volume t) ≡ three.faults (Volume t) = ends.spared (Volume t) (λ k j at. (λ e. free (subst (λ (v : ℕ). HasRow v rows) (sym (number e)) (source_row k j at)), λ e. no_job k j at (ap (λ (q : CopyJob). q.source) (job_is tells old two three means shift jobs failed sound are k j at r pair (sym (number e)))))) in
      subst (λ (f : Bool). FailsByEither (not f) d t old.faults new.faults) (sym none) (record {
        source_later = omega (arith, source_redone.later, source_still);
        source_once = omega (arith, source_redone.by_one, source_still);
        target_later = omega (arith, found.later (Volume t), target_redone, target_still);
        target_once = omega (arith, found.once (Volume t), target_redone, target_still);
        same = λ no. absurd cc;
        rose = λ yes. inr (subst (λ (n : ℕ). Rose (old.faults (Volume t)) n) (sym (target_still ∙ target_redone)) rose);
      })
    where
      source_row : (k : ℕ) (j : CopyJob) → slice_get jobs k ≡ Some j → HasRow j.source rows
      source_row k j at =
          let own = are.each k j at in
          subst (λ (v : ℕ). HasRow v rows) (sym (ap (λ (q : CopyJob). q.source) own.is)) (duplex_row own.row.device rows (pair_duplex tells old two three means shift jobs failed sound are own.row own.pair))

  -- Of a pair that isn't told as copied a count rose.
  pub pair_counts : FailsByEither (not (is_among d copied)) d t old.faults new.faults
  pair_counts = elim (are.has r pair) [
    | inl job ↦ with_job job.0 job.1 job.2
    | inr rose ↦ without_job rose.0 rose.1
  ]

-- ---- counts of all volumes

-- A volume is the target of a job, or of none.
target_cases : (jobs : List CopyJob) (v : ℕ) → ((k : ℕ) × (j : CopyJob) × (slice_get jobs k ≡ Some j) × (j.target ≡ v)) ⊎ ((k : ℕ) (j : CopyJob) → slice_get jobs k ≡ Some j → j.target ≢ v)
target_cases [] v = inr (λ k j at. absurd cc)
target_cases (q ∷ jobs) v = elim (cases_eq q.target v) [
  | inl is ↦ inl (0, q, refl, is)
  | inr differs ↦ elim (target_cases jobs v) [
    | inl more ↦ inl (suc more.0, more.1, more.2, more.3)
    | inr none ↦ inr (λ k j at. by_place differs k j at none)
  ]
]
  where
    by_place : q.target ≢ v → (k : ℕ) (j : CopyJob) → slice_get (q ∷ jobs) k ≡ Some j → ((k : ℕ) (j : CopyJob) → slice_get jobs k ≡ Some j → j.target ≢ v) → j.target ≢ v
    by_place differs zero j at none = λ is. let same : q ≡ j = cc in differs (ap (λ (o : CopyJob). o.target) same ∙ is)
    by_place differs (suc k) j at none = none k j at

-- the counts after a redo
module _ (rows : List PairRow) (shift : ℕ) (old two three : Device → ℕ) (found : CountsTargets rows shift old two) (free : (r : PairRow) → IsPair rows r → ¬ HasRow (target_of shift r) rows) (once : (v : ℕ) → three (Volume v) ≤ two (Volume v) + 1) (spared : SparesOthers rows two three) where
  no_target : (v : ℕ) → HasRow v rows → (r : PairRow) → IsPair rows r → Volume v ≢ Volume (target_of shift r)
  no_target v row r pair e = free r pair (subst (λ (n : ℕ). HasRow n rows) (number e) row)
    where
      number : Volume v ≡ Volume (target_of shift r) → v ≡ target_of shift r
      number e = cc

  pub redo_counts : CountsPairs rows shift old three
  redo_counts = record {
    once = λ v. elim (duplex_cases rows v) [
      | inl duplex ↦ omega (arith, once v, found.others (Volume v) (no_target v (duplex_row v rows duplex)))
      | inr none ↦ omega (arith, spared v none, found.once (Volume v))
    ];
    spared = λ v apart. spared v (λ has. none_of v has apart) ∙ found.others (Volume v) (λ r pair e. (apart r pair).1 (number v (target_of shift r) e));
  }
    where
      number : (v w : ℕ) → Volume v ≡ Volume w → v ≡ w
      number v w e = cc

      none_of : (v : ℕ) → HasDuplex rows v → ((r : PairRow) → IsPair rows r → (v ≢ r.device) × (v ≢ target_of shift r)) → ⊥
      none_of v has apart = let p = duplex_pair rows v has in (apart p.0 p.1).0 (sym p.2)

-- the counts before a redo
pub found_counts : (rows : List PairRow) (shift : ℕ) (old two : Device → ℕ) → CountsTargets rows shift old two → CountsPairs rows shift old two
found_counts rows shift old two found = record {
  once = λ v. found.once (Volume v);
  spared = λ v apart. found.others (Volume v) (λ r pair e. (apart r pair).1 (number v (target_of shift r) e));
}
  where
    number : (v w : ℕ) → Volume v ≡ Volume w → v ≡ w
    number v w e = cc

module _ (tells : Type 0) (old two three new : PlantState) (means : Means) (shift : ℕ) (jobs : List CopyJob) (failed copied : List ℕ) (sound : AreRowsSound means.table.rows) (are : AreJobs means shift old two jobs)
    (found : CountsTargets means.table.rows shift old.faults two.faults) (redone : AreFaulty means.table.rows two.faults three.faults failed) (ends : EndsJobs tells jobs failed copied three new) where
  counts_of : (r : PairRow) → IsPair means.table.rows r → FailsByEither (not (is_among r.device copied)) r.device (target_of shift r) old.faults new.faults
  counts_of r pair = pair_counts tells old two three new means shift jobs failed copied sound are found redone ends r pair

  redone_spared : (v : ℕ) → ¬ HasDuplex means.table.rows v → three.faults (Volume v) ≡ two.faults (Volume v)
  redone_spared v none = (redone.counted v).same (elim (cases_Bool (redone.has_failed v)) [ inl bad ↦ absurd (none (redone.are_duplex v bad)) | inr fine ↦ fine ])

  pub job_source : (k : ℕ) (j : CopyJob) → slice_get jobs k ≡ Some j → HasDuplex means.table.rows j.source
  job_source k j at =
      let own = are.each k j at in
      subst (λ (v : ℕ). HasDuplex means.table.rows v) (sym (ap (λ (q : CopyJob). q.source) own.is)) (pair_duplex tells old two three means shift jobs failed sound are own.row own.pair)

  pub all_counts : CountsPairs means.table.rows shift old.faults new.faults
  all_counts = record {
    once = λ v. elim (duplex_cases means.table.rows v) [
      | inl duplex ↦ let p = duplex_pair means.table.rows v duplex in subst (λ (n : ℕ). new.faults (Volume n) ≤ old.faults (Volume n) + 1) p.2 (counts_of p.0 p.1).source_once
      | inr none ↦ elim (target_cases jobs v) [
        | inl job ↦
            let own = are.each job.0 job.1 job.2 in
            let is : target_of shift own.row ≡ v = sym (ap (λ (q : CopyJob). q.target) own.is) ∙ job.3 in
            subst (λ (n : ℕ). new.faults (Volume n) ≤ old.faults (Volume n) + 1) is (counts_of own.row own.pair).target_once
        | inr other ↦
            let still = ends.spared (Volume v) (λ k j at. (λ e. none (subst (λ (n : ℕ). HasDuplex means.table.rows n) (sym (number v j.source e)) (job_source k j at)), λ e. other k j at (sym (number v j.target e)))) in
            omega (arith, still, redone_spared v none, found.once (Volume v))
      ]
    ];
    spared = λ v apart.
        let still = ends.spared (Volume v) (λ k j at. let own = are.each k j at in (λ e. (apart own.row own.pair).0 (number v j.source e ∙ ap (λ (q : CopyJob). q.source) own.is), λ e. (apart own.row own.pair).1 (number v j.target e ∙ ap (λ (q : CopyJob). q.target) own.is))) in
        still ∙ redone_spared v (λ has. let p = duplex_pair means.table.rows v has in (apart p.0 p.1).0 (sym p.2)) ∙ found.others (Volume v) (λ r pair e. (apart r pair).1 (number v (target_of shift r) e));
  }
    where
      number : (v w : ℕ) → Volume v ≡ Volume w → v ≡ w
      number v w e = cc
