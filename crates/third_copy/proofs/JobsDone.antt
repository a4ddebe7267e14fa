-- Jobs that are done one after another.
use Rattle.std.proofs.Common.{◌≡◌, ◌≢◌, ◌⊎◌, inl, inr, ◌≤◌, ◌<◌, ◌+◌, ◌++◌, ◌∷◌, ◌&&◌, ◌||◌, ◌==◌, [], ℕ, List, length, Bool, true, false, not, Option, Some, refl, sym, ◌∙◌, ap, subst, arith}
use Rattle.std.specs.Prelude.{slice_get}
use Rattle.std.proofs.lemmas.Bool.{cases_Bool, cases_eq, cases_lt, eq-eqb, eqb-true, ne_eqb}
use Rattle.std.proofs.lemmas.Option.{slice_get_within}
use Rattle.std.proofs.lemmas.List.Folds.{list_any-append}
use Rattle.ckd_track.specs.declared.rec.Rec.{Rec}
use Rattle.ckd_track.specs.SlotPlaces.{slot_track}
use Rattle.copy_progress.specs.Copies.{done}
use Rattle.crash_plant.specs.declared.device.Device.{Device}
use Rattle.crash_plant.specs.declared.device.Device.TheVariants.{Control, State, Journal, Volume}
use Rattle.crash_plant.specs.Moments.{PlantState, Same, on, Follows}
use Rattle.crash_plant.proofs.Choices.{device_cases}
use Rattle.crash_plant.proofs.Steps.{elapses_trans, follows_here, follows_then, none_lent_then, silent_trans, site_trans, works_on_here}
use Rattle.pair_table.specs.Devices.{is_among}
use Rattle.xrc_edge.specs.Causes.{Rose}
use Rattle.xrecover.specs.Works.{Nothing, OfOneVolume, Works}
use Rattle.xrecover.proofs.Works.{on_volume, works_more}
use Rattle.volume_copy.specs.declared.copy_job.CopyJob.{CopyJob}
use Rattle.volume_copy.specs.Copying.{IsOfCopy, WorksOnCopy}
use Rattle.volume_copy.specs.Faults.{FailsAt}
use Rattle.volume_copy.specs.Targets.{CopiesTo}
use Rattle.volume_copy.proofs.Targets.{copies_here, copies_then}
use Rattle.third_copy.specs.Jobs.{AreJobsReady, CopiesJobs, EndsJobs, FailsByCounts, FailsByEither, IsJobDone}

-- ---- calls one after another

-- two calls, of plants that tell their bytes
pub works_told : (tells : Type 0) (one two all : Device → List ℕ → List ℕ → Type 0) (a b c : PlantState) → (tells → (d : Device) (x y z : List ℕ) → one d x y → two d y z → all d x z) → (tells → (d : Device) (x y : List ℕ) → one d x y → all d x y) → Works tells one a b → Works tells two b c → Works tells all a c
works_told tells one two all a b c then first x y = record {
  site = site_trans a b c x.site y.site;
  home = λ none. y.home (x.home none);
  elapses = λ told. elapses_trans Control a b c (x.elapses told) (y.elapses told);
  silent = λ told. silent_trans Control a b c (x.elapses told) (y.elapses told) (x.silent told) (y.silent told);
  bytes = λ told d. then told d (a.bytes d) (b.bytes d) (c.bytes d) (x.bytes told d) (y.bytes told d);
  moments = λ told d. follows_then (on a d) (on b d) (on c d) (one d) (two d) (all d) ((x.elapses told).kept d).later (x.moments told d) ((y.elapses told).kept d) (y.moments told d) (λ p q here s. first told d p q s) (λ p q r here there s t. then told d p q r s t);
  console_faults = y.console_faults ∙ x.console_faults;
  faults = λ d. omega (arith, x.faults d, y.faults d);
}

-- no call
pub works_here : (tells : Type 0) (a : PlantState) → Works tells Nothing a a
works_here tells a =
    let none = works_on_here tells (λ d. ⊥) a in
    record {
      site = none.site;
      home = λ home. home;
      elapses = none.elapses;
      silent = none.silent;
      bytes = λ told d. refl;
      moments = λ told d. follows_here (on a d) Same (λ b now. refl);
      console_faults = refl;
      faults = λ d. omega arith;
    }

-- ---- what a copy does to the devices

number : {v w : ℕ} → Volume v ≡ Volume w → v ≡ w
number e = cc

follows_target : (source target : ℕ) (step : List ℕ → List ℕ → Type 0) (a b : PlantState) (tells : Type 0) (told : tells) → WorksOnCopy tells source target step a b → (d : Device) → Follows (OfOneVolume target step d) (on a d) (on b d)
follows_target source target step a b tells told w d t from to z left = elim (device_cases d (Volume target)) [
  | inl here ↦
      let start = w.target_moments told t from to z (subst (λ (e : Device). b.images t e z) here left) in
      (start.0, subst (λ (e : Device). a.images a.clock e start.0) (sym here) start.1, on_volume target step d start.0 z (λ e. start.2) (λ differs. absurd (differs here)))
  | inr other ↦ elim (device_cases d (Volume source)) [
    | inl here ↦
        let start = w.source_moments told t from to z (subst (λ (e : Device). b.images t e z) here left) in
        (start.0, subst (λ (e : Device). a.images a.clock e start.0) (sym here) start.1, on_volume target step d start.0 z (λ e. absurd (other e)) (λ differs. start.2))
    | inr apart ↦
        let start = (w.only.others told d (λ is. elim is [ inl e ↦ apart e | inr e ↦ other e ])).images t from to z left in
        (start.0, start.1, on_volume target step d start.0 z (λ e. absurd (other e)) (λ differs. start.2))
  ]
]

bytes_target : (source target : ℕ) (step : List ℕ → List ℕ → Type 0) (a b : PlantState) (tells : Type 0) (told : tells) → WorksOnCopy tells source target step a b → (d : Device) → OfOneVolume target step d (a.bytes d) (b.bytes d)
bytes_target source target step a b tells told w d = on_volume target step d (a.bytes d) (b.bytes d)
    (λ here. subst (λ (e : Device). step (a.bytes e) (b.bytes e)) (sym here) (w.target_bytes told))
    (λ other. elim (device_cases d (Volume source)) [
      | inl here ↦ subst (λ (e : Device). b.bytes e ≡ a.bytes e) (sym here) (w.source_bytes told)
      | inr apart ↦ (w.only.others told d (λ is. elim is [ inl e ↦ apart e | inr e ↦ other e ])).bytes
    ])

-- The calls of a copy work on its target alone.
pub works_of_copy : (tells : Type 0) (source target : ℕ) (step : List ℕ → List ℕ → Type 0) (a b : PlantState) → WorksOnCopy tells source target step a b → Works tells (OfOneVolume target step) a b
works_of_copy tells source target step a b w = record {
  site = w.only.site;
  home = none_lent_then tells (IsOfCopy source target) a b w.only;
  elapses = w.only.elapses;
  silent = w.only.silent;
  bytes = λ told d. bytes_target source target step a b tells told w d;
  moments = λ told d. follows_target source target step a b tells told w d;
  console_faults = w.only.console_faults;
  faults = w.only.faults;
}

-- ---- lists of devices

among_snoc : (v x : ℕ) (xs : List ℕ) → is_among v (xs ++ x ∷ []) ≡ (is_among v xs || (x == v || false))
among_snoc v x xs = list_any-append (λ d. d == v) xs (x ∷ [])

or_false : (b : Bool) → (b || false) ≡ b
or_false true = refl
or_false false = refl

or_true : (b c : Bool) → c ≡ true → (b || c) ≡ true
or_true true c is = refl
or_true false c is = is

either_true : (b c : Bool) → (b || c) ≡ true → (b ≡ true) ⊎ (c ≡ true)
either_true true c is = inl refl
either_true false c is = inr is

pub among_last : (v : ℕ) (xs : List ℕ) → is_among v (xs ++ v ∷ []) ≡ true
among_last v xs = among_snoc v v xs ∙ or_true (is_among v xs) (v == v || false) (ap (λ (b : Bool). b || false) (eq-eqb v v refl))

pub among_other : (v x : ℕ) (xs : List ℕ) → x ≢ v → is_among v (xs ++ x ∷ []) ≡ is_among v xs
among_other v x xs differs = among_snoc v x xs ∙ ap (λ (b : Bool). is_among v xs || (b || false)) (ne_eqb x v differs) ∙ or_false (is_among v xs)

pub among_cases : (v x : ℕ) (xs : List ℕ) → is_among v (xs ++ x ∷ []) ≡ true → (is_among v xs ≡ true) ⊎ (x ≡ v)
among_cases v x xs is = elim (either_true (is_among v xs) (x == v || false) (sym (among_snoc v x xs) ∙ is)) [
  | inl before ↦ inl before
  | inr last ↦ inr (eqb-true x v (sym (or_false (x == v)) ∙ last))
]

-- ---- counts of two devices

pub either_same : (source target : ℕ) (a b : Device → ℕ) → b (Volume source) ≡ a (Volume source) → b (Volume target) ≡ a (Volume target) → FailsByEither false source target a b
either_same source target a b s t = record { source_later = omega (arith, s); source_once = omega (arith, s); target_later = omega (arith, t); target_once = omega (arith, t); same = λ is. (s, t); rose = λ is. absurd cc }

-- A copy that failed: the count of one of the two rose.
pub either_rose : (source target : ℕ) (a b : Device → ℕ) → source ≢ target → FailsAt (IsOfCopy source target) a b → FailsByEither true source target a b
either_rose source target a b apart at = elim at.among_is [
  | inl is ↦
      let t : b (Volume target) ≡ a (Volume target) = at.others (Volume target) (λ e. let both = e ∙ is in apart cc) in
      let later = subst (λ (d : Device). a d ≤ b d) is at.later in
      let once = subst (λ (d : Device). b d ≤ a d + 1) is at.by_one in
      record { source_later = later; source_once = once; target_later = omega (arith, t); target_once = omega (arith, t); same = λ no. absurd cc; rose = λ yes. inl (subst (λ (d : Device). Rose (a d) (b d)) is at.rose) }
  | inr is ↦
      let s : b (Volume source) ≡ a (Volume source) = at.others (Volume source) (λ e. let both = e ∙ is in apart cc) in
      let later = subst (λ (d : Device). a d ≤ b d) is at.later in
      let once = subst (λ (d : Device). b d ≤ a d + 1) is at.by_one in
      record { source_later = omega (arith, s); source_once = omega (arith, s); target_later = later; target_once = once; same = λ no. absurd cc; rose = λ yes. inr (subst (λ (d : Device). Rose (a d) (b d)) is at.rose) }
]

-- counts that stay later
pub either_then : (failed : Bool) (source target : ℕ) (a b c : Device → ℕ) → c (Volume source) ≡ b (Volume source) → c (Volume target) ≡ b (Volume target) → FailsByEither failed source target a b → FailsByEither failed source target a c
either_then failed source target a b c s t f =
    subst (λ (n : ℕ). FailsByCounts failed (a (Volume source)) n (a (Volume target)) (c (Volume target))) (sym s)
    (subst (λ (n : ℕ). FailsByCounts failed (a (Volume source)) (b (Volume source)) (a (Volume target)) n) (sym t) f)

-- counts that stood before
pub either_after : (failed : Bool) (source target : ℕ) (a b c : Device → ℕ) → b (Volume source) ≡ a (Volume source) → b (Volume target) ≡ a (Volume target) → FailsByEither failed source target b c → FailsByEither failed source target a c
either_after failed source target a b c s t f =
    subst (λ (n : ℕ). FailsByCounts failed n (c (Volume source)) (a (Volume target)) (c (Volume target))) s
    (subst (λ (n : ℕ). FailsByCounts failed (b (Volume source)) (c (Volume source)) n (c (Volume target))) t f)

-- ---- jobs so far

module _ (tells : Type 0) (jobs : List CopyJob) (failed : List ℕ) where
  -- The jobs before a place are done, or they failed.
  pub record JobsSoFar (i : ℕ) (listed : List ℕ) (a b : PlantState) : Type 0 where
    pub works : Works tells (CopiesJobs failed jobs (λ d. slot_track (a.bytes (Volume d)))) a b
    pub of_jobs : (v : ℕ) → is_among v listed ≡ true → (k : ℕ) × (j : CopyJob) × (k < i) × (slice_get jobs k ≡ Some j) × (j.source ≡ v) × (is_among v failed ≡ false)
    pub are_done : tells → (k : ℕ) (j : CopyJob) → k < i → slice_get jobs k ≡ Some j → is_among j.source listed ≡ true → IsJobDone b j
    pub counted : (k : ℕ) (j : CopyJob) → k < i → slice_get jobs k ≡ Some j → FailsByEither (not (is_among j.source failed) && not (is_among j.source listed)) j.source j.target a.faults b.faults
    pub later : (k : ℕ) (j : CopyJob) → i ≤ k → slice_get jobs k ≡ Some j → (b.faults (Volume j.source) ≡ a.faults (Volume j.source)) × (b.faults (Volume j.target) ≡ a.faults (Volume j.target))
    pub spared : (d : Device) → ((k : ℕ) (j : CopyJob) → slice_get jobs k ≡ Some j → (d ≢ Volume j.source) × (d ≢ Volume j.target)) → b.faults d ≡ a.faults d

  -- no device has changed
  jobs_same : (content : ℕ → ℕ → Option (List Rec)) (d : Device) (x y : List ℕ) → y ≡ x → CopiesJobs failed jobs content d x y
  jobs_same content Control x y is = is
  jobs_same content State x y is = is
  jobs_same content (Journal j) x y is = is
  jobs_same content (Volume v) x y is = (λ k j at target fit. copies_here (content j.source) j.claim x y is, λ all. is)

  module _ (i : ℕ) (job : CopyJob) (at : slice_get jobs i ≡ Some job) (listed : List ℕ) (a b : PlantState) (ready : AreJobsReady a jobs) (so_far : JobsSoFar i listed a b) where
    -- a job of the same place is this one
    here : (k : ℕ) (j : CopyJob) → slice_get jobs k ≡ Some j → k ≡ i → j ≡ job
    here k j at_k is = let both = sym at_k ∙ ap (λ (n : ℕ). slice_get jobs n) is ∙ at in cc

    -- others have other devices
    apart_from : (k : ℕ) (j : CopyJob) → slice_get jobs k ≡ Some j → k ≢ i → (j.source ≢ job.source) × (j.target ≢ job.target)
    apart_from k j at_k differs = elim (cases_lt k i) [
      | inl before ↦ (ready.sources k i j job before at_k at, ready.targets k i j job before at_k at)
      | inr after ↦ (λ same. ready.sources i k job j (omega (arith, after, differs)) at at_k (sym same), λ same. ready.targets i k job j (omega (arith, after, differs)) at at_k (sym same))
    ]

    -- The next one is left, as its source failed before.
    pub jobs_left : is_among job.source failed ≡ true → JobsSoFar (i + 1) listed a b
    jobs_left bad = record {
      works = so_far.works;
      of_jobs = λ v is. let o = so_far.of_jobs v is in (o.0, o.1, omega (arith, o.2), o.3, o.4, o.5);
      are_done = λ told k j below at_k is. elim (cases_lt k i) [
        | inl before ↦ so_far.are_done told k j before at_k is
        | inr from ↦ let o = so_far.of_jobs j.source is in let same = here k j at_k (omega (arith, below, from)) in absurd (clash (sym o.5 ∙ ap (λ (q : CopyJob). is_among q.source failed) same ∙ bad))
      ];
      counted = λ k j below at_k. elim (cases_lt k i) [
        | inl before ↦ so_far.counted k j before at_k
        | inr from ↦
            let same = here k j at_k (omega (arith, below, from)) in
            let stood = so_far.later k j from at_k in
            subst (λ (flag : Bool). FailsByEither (not flag && not (is_among j.source listed)) j.source j.target a.faults b.faults) (sym (ap (λ (q : CopyJob). is_among q.source failed) same ∙ bad)) (either_same j.source j.target a.faults b.faults stood.0 stood.1)
      ];
      later = λ k j from at_k. so_far.later k j (omega (arith, from)) at_k;
      spared = so_far.spared;
    }
      where
        clash : (false ≡ true) → ⊥
        clash e = cc

    module _ (fit : is_among job.source failed ≡ false) (c : PlantState) (copies : WorksOnCopy tells job.source job.target (CopiesTo job.claim (slot_track (b.bytes (Volume job.source)))) b c) where
      abbrev content : ℕ → ℕ → Option (List Rec)
      content d = slot_track (a.bytes (Volume d))

      -- The source is as at first: it is no target.
      source_same : tells → b.bytes (Volume job.source) ≡ a.bytes (Volume job.source)
      source_same told = (so_far.works.bytes told (Volume job.source)).1 (λ k j at_k target. absurd (ready.others i k job j at at_k (sym target)))

      one_step : tells → (x y : List ℕ) → CopiesTo job.claim (slot_track (b.bytes (Volume job.source))) x y → CopiesTo job.claim (content job.source) x y
      one_step told x y s = subst (λ (l : List ℕ). CopiesTo job.claim (slot_track l) x y) (source_same told) s

      both : tells → (d : Device) (x y z : List ℕ) → CopiesJobs failed jobs content d x y → OfOneVolume job.target (CopiesTo job.claim (slot_track (b.bytes (Volume job.source)))) d y z → CopiesJobs failed jobs content d x z
      both told Control x y z p q = q ∙ p
      both told State x y z p q = q ∙ p
      both told (Journal n) x y z p q = q ∙ p
      both told (Volume v) x y z p q = elim (cases_eq v job.target) [
        | inl is ↦ (
          λ k j at_k target good. elim (cases_eq k i) [
            | inl same ↦
                let this = here k j at_k same in
                let step = subst (λ (o : CopyJob). CopiesTo o.claim (content o.source) y z) (sym this) (one_step told y z (q.0 is)) in
                copies_then (content j.source) j.claim x y z (p.0 k j at_k target good) step
            | inr differs ↦ absurd ((apart_from k j at_k differs).1 (target ∙ is))
          ],
          λ all. absurd (no (sym fit ∙ all i job at (sym is))),
        )
        | inr differs ↦ subst (λ (l : List ℕ). CopiesJobs failed jobs content (Volume v) x l) (sym (q.1 differs)) p
      ]
        where
          no : (false ≡ true) → ⊥
          no e = cc

      works_then : Works tells (CopiesJobs failed jobs content) a c
      works_then = works_told tells (CopiesJobs failed jobs content) (OfOneVolume job.target (CopiesTo job.claim (slot_track (b.bytes (Volume job.source))))) (CopiesJobs failed jobs content) a b c both (λ told d x y p. p) so_far.works
          (works_of_copy tells job.source job.target (CopiesTo job.claim (slot_track (b.bytes (Volume job.source)))) b c copies)

      -- Devices of other jobs are left alone.
      other_device : (k : ℕ) (j : CopyJob) → slice_get jobs k ≡ Some j → k ≢ i → (¬ IsOfCopy job.source job.target (Volume j.source)) × (¬ IsOfCopy job.source job.target (Volume j.target))
      other_device k j at_k differs = (
        λ is. elim is [ inl e ↦ (apart_from k j at_k differs).0 (number e) | inr e ↦ ready.others k i j job at_k at (number e) ],
        λ is. elim is [ inl e ↦ ready.others i k job j at at_k (sym (number e)) | inr e ↦ (apart_from k j at_k differs).1 (number e) ],
      )

      other_counts : (k : ℕ) (j : CopyJob) → slice_get jobs k ≡ Some j → k ≢ i → (c.faults (Volume j.source) ≡ b.faults (Volume j.source)) × (c.faults (Volume j.target) ≡ b.faults (Volume j.target))
      other_counts k j at_k differs = let none = other_device k j at_k differs in (copies.only.others_faults (Volume j.source) none.0, copies.only.others_faults (Volume j.target) none.1)

      -- What was done on another target stays.
      done_still : (told : tells) (k : ℕ) (j : CopyJob) → slice_get jobs k ≡ Some j → k ≢ i → IsJobDone b j → IsJobDone c j
      done_still told k j at_k differs d =
          let t = Volume j.target in
          let stays = copies.only.others told t (other_device k j at_k differs).1 in
          record {
            all_done = ap (λ (l : List ℕ). done j.claim l) stays.bytes ∙ d.all_done;
            durable = λ z left. let start = stays.images c.clock ((copies.only.elapses told).kept t).later (omega arith) z left in start.2 ∙ d.durable start.0 start.1 ∙ sym stays.bytes;
          }

      before_spared : (d : Device) → ((k : ℕ) (j : CopyJob) → slice_get jobs k ≡ Some j → (d ≢ Volume j.source) × (d ≢ Volume j.target)) → c.faults d ≡ a.faults d
      before_spared d none = let own = none i job at in copies.only.others_faults d (λ is. elim is [ inl e ↦ own.0 e | inr e ↦ own.1 e ]) ∙ so_far.spared d none

      later_then : (k : ℕ) (j : CopyJob) → i + 1 ≤ k → slice_get jobs k ≡ Some j → (c.faults (Volume j.source) ≡ a.faults (Volume j.source)) × (c.faults (Volume j.target) ≡ a.faults (Volume j.target))
      later_then k j from at_k =
          let stood = so_far.later k j (omega (arith, from)) at_k in
          let same = other_counts k j at_k (λ e. absurd (omega (arith, from, e))) in
          (same.0 ∙ stood.0, same.1 ∙ stood.1)

      -- It was copied.
      pub jobs_done : ((d : Device) → c.faults d ≡ b.faults d) → (tells → IsJobDone c job) → JobsSoFar (i + 1) (listed ++ job.source ∷ []) a c
      jobs_done counts job_done = record {
        works = works_then;
        of_jobs = λ v is. elim (among_cases v job.source listed is) [
          | inl before ↦ let o = so_far.of_jobs v before in (o.0, o.1, omega (arith, o.2), o.3, o.4, o.5)
          | inr last ↦ (i, job, omega arith, at, last, ap (λ (n : ℕ). is_among n failed) (sym last) ∙ fit)
        ];
        are_done = λ told k j below at_k is. elim (cases_eq k i) [
          | inl same ↦ subst (λ (o : CopyJob). IsJobDone c o) (sym (here k j at_k same)) (job_done told)
          | inr differs ↦
              let before = sym (among_other j.source job.source listed (λ e. (apart_from k j at_k differs).0 (sym e))) ∙ is in
              done_still told k j at_k differs (so_far.are_done told k j (omega (arith, below, differs)) at_k before)
        ];
        counted = λ k j below at_k. elim (cases_eq k i) [
          | inl same ↦
              let this = here k j at_k same in
              let stood = so_far.later k j (omega (arith, same)) at_k in
              let flag : (not (is_among j.source failed) && not (is_among j.source (listed ++ job.source ∷ []))) ≡ false =
              ap (λ (o : CopyJob). not (is_among o.source failed) && not (is_among o.source (listed ++ job.source ∷ []))) this ∙ (λ n. not (fit n) && not (among_last job.source listed n)) in
              subst (λ (f : Bool). FailsByEither f j.source j.target a.faults c.faults) (sym flag) (either_same j.source j.target a.faults c.faults (counts (Volume j.source) ∙ stood.0) (counts (Volume j.target) ∙ stood.1))
          | inr differs ↦
              let other = among_other j.source job.source listed (λ e. (apart_from k j at_k differs).0 (sym e)) in
              subst (λ (f : Bool). FailsByEither (not (is_among j.source failed) && not f) j.source j.target a.faults c.faults) (sym other)
              (either_then (not (is_among j.source failed) && not (is_among j.source listed)) j.source j.target a.faults b.faults c.faults (counts (Volume j.source)) (counts (Volume j.target)) (so_far.counted k j (omega (arith, below, differs)) at_k))
        ];
        later = later_then;
        spared = before_spared;
      }

      -- A call on one of its devices failed.
      pub jobs_failed : FailsAt (IsOfCopy job.source job.target) b.faults c.faults → JobsSoFar (i + 1) listed a c
      jobs_failed bad = record {
        works = works_then;
        of_jobs = λ v is. let o = so_far.of_jobs v is in (o.0, o.1, omega (arith, o.2), o.3, o.4, o.5);
        are_done = λ told k j below at_k is. elim (cases_eq k i) [
          | inl same ↦
              let o = so_far.of_jobs j.source is in
              let other = apart_from o.0 o.1 o.3 (λ e. absurd (omega (arith, o.2, e))) in
              absurd (other.0 (o.4 ∙ ap (λ (q : CopyJob). q.source) (here k j at_k same)))
          | inr differs ↦ done_still told k j at_k differs (so_far.are_done told k j (omega (arith, below, differs)) at_k is)
        ];
        counted = λ k j below at_k. elim (cases_eq k i) [
          | inl same ↦
              let this = here k j at_k same in
              let stood = so_far.later i job (omega arith) at in
              let none : is_among job.source listed ≡ false = unlisted in
              let flag : (not (is_among job.source failed) && not (is_among job.source listed)) ≡ true = (λ n. not (fit n) && not (none n)) in
              subst (λ (o : CopyJob). FailsByEither (not (is_among o.source failed) && not (is_among o.source listed)) o.source o.target a.faults c.faults) (sym this)
              (subst (λ (f : Bool). FailsByEither f job.source job.target a.faults c.faults) (sym flag)
              (either_after true job.source job.target a.faults b.faults c.faults stood.0 stood.1 (either_rose job.source job.target b.faults c.faults (ready.each i job at).apart bad)))
          | inr differs ↦
              let same = other_counts k j at_k differs in
              either_then (not (is_among j.source failed) && not (is_among j.source listed)) j.source j.target a.faults b.faults c.faults same.0 same.1 (so_far.counted k j (omega (arith, below, differs)) at_k)
        ];
        later = later_then;
        spared = before_spared;
      }
        where
          unlisted : is_among job.source listed ≡ false
          unlisted = elim (cases_Bool (is_among job.source listed)) [
            | inl is ↦
                let o = so_far.of_jobs job.source is in
                let other = apart_from o.0 o.1 o.3 (λ e. absurd (omega (arith, o.2, e))) in
                absurd (other.0 o.4)
            | inr is ↦ is
          ]

  -- no job yet
  pub jobs_none : (a : PlantState) (listed : List ℕ) → listed ≡ [] → JobsSoFar 0 listed a a
  jobs_none a listed empty = record {
    works = works_more tells Nothing (CopiesJobs failed jobs (λ d. slot_track (a.bytes (Volume d)))) a a (λ told d x y e. jobs_same (λ d. slot_track (a.bytes (Volume d))) d x y e) (works_here tells a);
    of_jobs = λ v is. absurd (no (ap (λ (l : List ℕ). is_among v l) (sym empty) ∙ is));
    are_done = λ told k j below. absurd (omega (arith, below));
    counted = λ k j below. absurd (omega (arith, below));
    later = λ k j from at. (refl, refl);
    spared = λ d none. refl;
  }
    where
      no : (false ≡ true) → ⊥
      no e = cc

  -- all jobs
  pub jobs_all : (i : ℕ) (listed : List ℕ) (a b : PlantState) → length jobs ≤ i → JobsSoFar i listed a b → EndsJobs tells jobs failed listed a b
  jobs_all i listed a b all so_far = record {
    of_jobs = λ v is. let o = so_far.of_jobs v is in (o.0, o.1, o.3, o.4, o.5);
    are_done = λ told k j at is. so_far.are_done told k j (within k j at) at is;
    counted = λ k j at. so_far.counted k j (within k j at) at;
    spared = so_far.spared;
  }
    where
      within : (k : ℕ) (j : CopyJob) → slice_get jobs k ≡ Some j → k < i
      within k j at = omega (arith, slice_get_within jobs k j at, all)

-- Jobs are ready after calls that change no number and no length.
pub ready_then : (tells : Type 0) (step : Device → List ℕ → List ℕ → Type 0) (jobs : List CopyJob) (a b : PlantState) → Works tells step a b → AreJobsReady a jobs → AreJobsReady b jobs
ready_then tells step jobs a b works ready = record {
  each = λ k j at.
      let r = ready.each k j at in
      record {
        home = works.home r.home;
        source = omega (arith, r.source, works.site.volumes);
        target = omega (arith, r.target, works.site.volumes);
        apart = r.apart;
        source_long = omega (arith, r.source_long, works.site.lengths (Volume j.source));
        target_long = omega (arith, r.target_long, works.site.lengths (Volume j.target));
        cylinders = r.cylinders;
        whole = r.whole;
      };
  sources = ready.sources;
  targets = ready.targets;
  others = ready.others;
}
