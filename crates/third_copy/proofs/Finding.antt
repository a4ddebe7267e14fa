-- Targets that are looked for, row by row.
use Rattle.std.proofs.Common.{◌≡◌, ◌≢◌, ◌⊎◌, inl, inr, ◌≤◌, ◌<◌, ◌+◌, ◌++◌, ◌∷◌, [], ℕ, zero, suc, List, length, take, true, false, cond, not, nat_lt, ◌&&◌, Some, refl, sym, ◌∙◌, ap, subst, arith}
use Rattle.std.specs.Prelude.{slice_get}
use Rattle.std.specs.List.{list_any}
use Rattle.std.proofs.lemmas.Bool.{cases_eq, cases_lt}
use Rattle.std.proofs.lemmas.Option.{slice_get_within}
use Rattle.crash_plant.specs.declared.device.Device.{Device}
use Rattle.crash_plant.specs.declared.device.Device.TheVariants.{Volume}
use Rattle.crash_plant.specs.Moments.{PlantState}
use Rattle.crash_plant.specs.Calls.{SameSite}
use Rattle.crash_plant.proofs.Choices.{device_cases}
use Rattle.pair_table.specs.declared.row.PairRow.{PairRow}
use Rattle.pair_table.specs.States.{is_duplex}
use Rattle.pair_table.specs.Tables.{AreRowsSound, HasRow, is_of}
use Rattle.site_means.specs.declared.means.Means.{Means}
use Rattle.volume_label.specs.Labels.{label_of}
use Rattle.volume_copy.specs.declared.copy_job.CopyJob.{CopyJob}
use Rattle.xrc_edge.specs.Causes.{Rose}
use Rattle.xrc_journal.specs.Jobs.{FailsByCount}
use Rattle.xrecover.specs.Works.{Nothing, Works}
use Rattle.xrecover.proofs.Works.{works_trans}
use Rattle.third_copy.specs.declared.targets.Target.TheVariants.{Found, Missing}
use Rattle.third_copy.specs.Targets.{HasTarget, IsTargetFound, by_label, target_in, target_of}
use Rattle.third_copy.specs.Pairs.{AreFound, AreJobs, CountsTargets, HasCountRisen, IsFirstWithout, IsPair, IsTargetUnread, NeedsNone, NoneIsWithout, job_of}
use Rattle.third_copy.proofs.JobsDone.{works_here}
use Rattle.third_copy.proofs.Rows.{contained, place_of_row, rows_differ, same_row}

-- ---- lists

-- what stands in a list with one more
snoc_cases : (jobs : List CopyJob) (last j : CopyJob) (k : ℕ) → slice_get (jobs ++ last ∷ []) k ≡ Some j → (slice_get jobs k ≡ Some j) ⊎ ((k ≡ length jobs) × (j ≡ last))
snoc_cases [] last j zero at = inr (refl, cc)
snoc_cases [] last j (suc k) at = absurd cc
snoc_cases (q ∷ jobs) last j zero at = inl at
snoc_cases (q ∷ jobs) last j (suc k) at = elim (snoc_cases jobs last j k at) [
  | inl before ↦ inl before
  | inr here ↦ inr (ap suc here.0, here.1)
]

snoc_before : (jobs : List CopyJob) (last j : CopyJob) (k : ℕ) → slice_get jobs k ≡ Some j → slice_get (jobs ++ last ∷ []) k ≡ Some j
snoc_before [] last j k at = absurd cc
snoc_before (q ∷ jobs) last j zero at = at
snoc_before (q ∷ jobs) last j (suc k) at = snoc_before jobs last j k at

snoc_last : (jobs : List CopyJob) (last : CopyJob) → slice_get (jobs ++ last ∷ []) (length jobs) ≡ Some last
snoc_last [] last = refl
snoc_last (q ∷ jobs) last = snoc_last jobs last

-- What a target is stays where reads give the same.
pub same_target : (shift : ℕ) (rows : List PairRow) (r : PairRow) (a b : PlantState) → SameSite a b → b.bytes (Volume (target_of shift r)) ≡ a.bytes (Volume (target_of shift r)) → target_in b rows shift r ≡ target_in a rows shift r
same_target shift rows r a b site same = λ i.
    cond (nat_lt (target_of shift r) (site.volumes i) && not (list_any (is_of (target_of shift r)) rows)) (by_label (label_of (site.lengths (Volume (target_of shift r)) i) (take 14 (same i))) r.cylinders) Missing

-- A count that has risen has done so later, too.
pub risen_later : (before mid now : ℕ) → mid ≤ now → HasCountRisen before mid → HasCountRisen before now
risen_later before mid now le (inl less) = inl (omega (arith, le, less))
risen_later before mid now le (inr most) = inr (omega (arith, le, most))

pub rose_risen : (before now : ℕ) → Rose before now → HasCountRisen before now
rose_risen before now (inl less) = inl less
rose_risen before now (inr most) = inr (omega (arith, most))

-- None lacks a target later, too.
pub needs_later : (shift : ℕ) (rows : List PairRow) (r : PairRow) (a b c d : PlantState) → SameSite a b → b.bytes (Volume (target_of shift r)) ≡ a.bytes (Volume (target_of shift r)) → b.faults (Volume (target_of shift r)) ≡ a.faults (Volume (target_of shift r))
    → c.faults (Volume (target_of shift r)) ≤ d.faults (Volume (target_of shift r)) → NeedsNone b c rows shift r → NeedsNone a d rows shift r
needs_later shift rows r a b c d site bytes counts later (inl some) = inl (λ e. some (same_target shift rows r a b site bytes ∙ e))
needs_later shift rows r a b c d site bytes counts later (inr unread) = inr (record {
  there = omega (arith, unread.there, site.volumes);
  free = unread.free;
  risen = risen_later (a.faults (Volume (target_of shift r))) (c.faults (Volume (target_of shift r))) (d.faults (Volume (target_of shift r))) later (subst (λ (n : ℕ). HasCountRisen n (c.faults (Volume (target_of shift r)))) counts unread.risen);
})

module _ (tells : Type 0) (means : Means) (shift : ℕ) where
  abbrev rows : List PairRow
  rows = means.table.rows

  abbrev count_of : PlantState → PairRow → ℕ
  count_of plant r = plant.faults (Volume (target_of shift r))

  -- the job of a row before a place
  pub record JobBefore (i : ℕ) (a : PlantState) (j : CopyJob) : Type 0 where
    pub place : ℕ
    pub before : place < i
    pub row : PairRow
    pub at : slice_get rows place ≡ Some row
    pub duplex : is_duplex row.state ≡ true
    pub is : j ≡ job_of means shift row
    pub target : HasTarget a rows shift row

  -- No job is a row's.
  abbrev pub NoJob : List CopyJob → PairRow → Type 0
  NoJob jobs r = (k : ℕ) (j : CopyJob) → slice_get jobs k ≡ Some j → j.source ≢ r.device

  -- The targets of the pairs before a place were looked for.
  pub record Finding (i : ℕ) (jobs : List CopyJob) (a b : PlantState) : Type 0 where
    pub works : Works tells Nothing a b
    pub each : (k : ℕ) (j : CopyJob) → slice_get jobs k ≡ Some j → JobBefore i a j
    pub apart : (m k : ℕ) (p j : CopyJob) → m < k → slice_get jobs m ≡ Some p → slice_get jobs k ≡ Some j → p.source ≢ j.source
    pub has : (n : ℕ) (r : PairRow) → n < i → slice_get rows n ≡ Some r → is_duplex r.state ≡ true → ((k : ℕ) × (slice_get jobs k ≡ Some (job_of means shift r)) × (count_of b r ≡ count_of a r)) ⊎ (Rose (count_of a r) (count_of b r) × NoJob jobs r × (¬ HasRow (target_of shift r) rows))
    pub told : tells → (n : ℕ) (r : PairRow) → n < i → slice_get rows n ≡ Some r → is_duplex r.state ≡ true → NeedsNone a b rows shift r
    pub found : tells → AreFound means shift a jobs
    pub counts : CountsTargets rows shift a.faults b.faults
    pub later : (n : ℕ) (r : PairRow) → i ≤ n → slice_get rows n ≡ Some r → is_duplex r.state ≡ true → count_of b r ≡ count_of a r

  pub finding_none : (a : PlantState) (jobs : List CopyJob) → jobs ≡ [] → Finding 0 jobs a a
  finding_none a jobs empty = record {
    works = works_here tells a;
    each = λ k j at. absurd (nothing k j (subst (λ (l : List CopyJob). slice_get l k ≡ Some j) empty at));
    apart = λ m k p j before at_m at_k. absurd (nothing k j (subst (λ (l : List CopyJob). slice_get l k ≡ Some j) empty at_k));
    has = λ n r below. absurd (omega (arith, below));
    told = λ told n r below. absurd (omega (arith, below));
    found = λ told k j at. absurd (nothing k j (subst (λ (l : List CopyJob). slice_get l k ≡ Some j) empty at));
    counts = record { later = λ d. omega arith; once = λ d. omega arith; others = λ d none. refl };
    later = λ n r from at duplex. refl;
  }
    where
      nothing : (k : ℕ) (j : CopyJob) → (let none : List CopyJob = [] in slice_get none k ≡ Some j) → ⊥
      nothing k j at = cc

  module _ (sound : AreRowsSound rows) (i : ℕ) (jobs : List CopyJob) (a b : PlantState) (so_far : Finding i jobs a b) (r : PairRow) (at : slice_get rows i ≡ Some r) where
    same_place : (n : ℕ) (p : PairRow) → slice_get rows n ≡ Some p → n ≡ i → p ≡ r
    same_place n p at_n is = let both = sym at_n ∙ ap (λ (m : ℕ). slice_get rows m) is ∙ at in cc

    -- A row that isn't duplex is passed over.
    pub finding_other : is_duplex r.state ≡ false → Finding (i + 1) jobs a b
    finding_other other = record {
      works = so_far.works;
      each = λ k j at_k. let e = so_far.each k j at_k in record { place = e.place; before = omega (arith, e.before); row = e.row; at = e.at; duplex = e.duplex; is = e.is; target = e.target };
      apart = so_far.apart;
      has = λ n p below at_n duplex. elim (cases_lt n i) [
        | inl before ↦ so_far.has n p before at_n duplex
        | inr from ↦ absurd (no p duplex (same_place n p at_n (omega (arith, below, from))))
      ];
      told = λ told n p below at_n duplex. elim (cases_lt n i) [
        | inl before ↦ so_far.told told n p before at_n duplex
        | inr from ↦ absurd (no p duplex (same_place n p at_n (omega (arith, below, from))))
      ];
      found = so_far.found;
      counts = so_far.counts;
      later = λ n p from at_n duplex. so_far.later n p (omega (arith, from)) at_n duplex;
    }
      where
        no : (p : PairRow) → is_duplex p.state ≡ true → p ≡ r → ⊥
        no p duplex same = clash (sym duplex ∙ ap (λ (q : PairRow). is_duplex q.state) same ∙ other)
          where
            clash : (true ≡ false) → ⊥
            clash e = cc

    module _ (duplex : is_duplex r.state ≡ true) (c : PlantState) (works : Works tells Nothing b c) (others : (d : Device) → d ≢ Volume (target_of shift r) → c.faults d ≡ b.faults d) where
      -- Counts of other pairs' targets stay.
      other_count : (n : ℕ) (p : PairRow) → slice_get rows n ≡ Some p → n ≢ i → count_of c p ≡ count_of b p
      other_count n p at_n differs = others (Volume (target_of shift p)) (λ e. apart (number e))
        where
          number : Volume (target_of shift p) ≡ Volume (target_of shift r) → target_of shift p ≡ target_of shift r
          number e = cc

          apart : target_of shift p ≢ target_of shift r
          apart e = elim (cases_lt n i) [
            | inl before ↦ rows_differ rows n i p r sound before at_n at (omega (arith, e))
            | inr after ↦ rows_differ rows i n r p sound (omega (arith, after, differs)) at at_n (omega (arith, e))
          ]

      works_then : Works tells Nothing a c
      works_then = works_trans tells Nothing Nothing Nothing a b c (λ d x y z p q. q ∙ p) (λ d x y p. p) so_far.works works

      told_before : tells → (n : ℕ) (p : PairRow) → n < i → slice_get rows n ≡ Some p → is_duplex p.state ≡ true → NeedsNone a c rows shift p
      told_before told n p before at_n is = elim (so_far.told told n p before at_n is) [
        | inl some ↦ inl some
        | inr unread ↦ inr (record { there = unread.there; free = unread.free; risen = risen_later (count_of a p) (count_of b p) (count_of c p) (works.faults (Volume (target_of shift p))) unread.risen })
      ]

      later_then : (n : ℕ) (p : PairRow) → i + 1 ≤ n → slice_get rows n ≡ Some p → is_duplex p.state ≡ true → count_of c p ≡ count_of a p
      later_then n p from at_n is = other_count n p at_n (λ e. absurd (omega (arith, from, e))) ∙ so_far.later n p (omega (arith, from)) at_n is

      own_pair : IsPair rows r
      own_pair = record { among = contained rows i r at; duplex = duplex }

      counts_then : b.faults (Volume (target_of shift r)) ≤ c.faults (Volume (target_of shift r)) → c.faults (Volume (target_of shift r)) ≤ b.faults (Volume (target_of shift r)) + 1 → CountsTargets rows shift a.faults c.faults
      counts_then low high = record {
        later = λ d. elim (device_cases d (Volume (target_of shift r))) [
          | inl here ↦ subst (λ (e : Device). a.faults e ≤ c.faults e) (sym here) (omega (arith, low, own))
          | inr other ↦ omega (arith, others d other, so_far.counts.later d)
        ];
        once = λ d. elim (device_cases d (Volume (target_of shift r))) [
          | inl here ↦ subst (λ (e : Device). c.faults e ≤ a.faults e + 1) (sym here) (omega (arith, high, own))
          | inr other ↦ omega (arith, others d other, so_far.counts.once d)
        ];
        others = λ d none. others d (none r own_pair) ∙ so_far.counts.others d none;
      }
        where
          own : b.faults (Volume (target_of shift r)) ≡ a.faults (Volume (target_of shift r))
          own = so_far.later i r (omega arith) at duplex

      each_before : (k : ℕ) (j : CopyJob) → slice_get jobs k ≡ Some j → JobBefore (i + 1) a j
      each_before k j at_k = let e = so_far.each k j at_k in record { place = e.place; before = omega (arith, e.before); row = e.row; at = e.at; duplex = e.duplex; is = e.is; target = e.target }

      -- Its target's label couldn't be read.
      pub finding_unread : FailsByCount true (count_of b r) (count_of c r) → target_of shift r < b.volumes → ¬ HasRow (target_of shift r) rows → Finding (i + 1) jobs a c
      finding_unread count there free = record {
        works = works_then;
        each = each_before;
        apart = so_far.apart;
        has = λ n p below at_n is. elim (cases_eq n i) [
          | inl same ↦ inr (subst (λ (q : PairRow). Rose (count_of a q) (count_of c q) × NoJob jobs q × (¬ HasRow (target_of shift q) rows)) (sym (same_place n p at_n same)) (rose, none_here, free))
          | inr differs ↦ has_before n p (omega (arith, below, differs)) at_n is
        ];
        told = λ told n p below at_n is. elim (cases_eq n i) [
          | inl same ↦ inr (subst (λ (q : PairRow). IsTargetUnread a c rows shift q) (sym (same_place n p at_n same)) (record { there = omega (arith, there, so_far.works.site.volumes); free = free; risen = rose_risen (count_of a r) (count_of c r) rose }))
          | inr differs ↦ told_before told n p (omega (arith, below, differs)) at_n is
        ];
        found = so_far.found;
        counts = counts_then count.later count.by_one;
        later = later_then;
      }
        where
          rose : Rose (count_of a r) (count_of c r)
          rose = subst (λ (m : ℕ). Rose m (count_of c r)) (so_far.later i r (omega arith) at duplex) (count.rose refl)

          -- The jobs so far are of rows before.
          none_here : NoJob jobs r
          none_here k j at_k same =
              let e = so_far.each k j at_k in
              rows_differ rows e.place i e.row r sound e.before e.at at (sym (ap (λ (q : CopyJob). q.source) e.is) ∙ same)

          has_before : (n : ℕ) (p : PairRow) → n < i → slice_get rows n ≡ Some p → is_duplex p.state ≡ true → ((k : ℕ) × (slice_get jobs k ≡ Some (job_of means shift p)) × (count_of c p ≡ count_of a p)) ⊎ (Rose (count_of a p) (count_of c p) × NoJob jobs p × (¬ HasRow (target_of shift p) rows))
          has_before n p before at_n is =
              let same = other_count n p at_n (λ e. absurd (omega (arith, before, e))) in
              elim (so_far.has n p before at_n is) [
                | inl job ↦ inl (job.0, job.1, same ∙ job.2)
                | inr rose ↦ inr (subst (λ (m : ℕ). Rose (count_of a p) m) (sym same) rose.0, rose.1, rose.2)
              ]

      -- It has a target.
      pub finding_found : FailsByCount false (count_of b r) (count_of c r) → HasTarget b rows shift r → (tells → IsTargetFound b rows shift r) → Finding (i + 1) (jobs ++ job_of means shift r ∷ []) a c
      finding_found count target is_found = record {
        works = works_then;
        each = λ k j at_k. elim (snoc_cases jobs (job_of means shift r) j k at_k) [
          | inl before ↦ each_before k j before
          | inr last ↦ record { place = i; before = omega arith; row = r; at = at; duplex = duplex; is = last.1; target = target_first }
        ];
        apart = λ m k p j before at_m at_k. elim (snoc_cases jobs (job_of means shift r) j k at_k) [
          | inl earlier ↦ elim (snoc_cases jobs (job_of means shift r) p m at_m) [
            | inl both ↦ so_far.apart m k p j before both earlier
            | inr none ↦ absurd (omega (arith, before, none.0, slice_get_within jobs k j earlier))
          ]
          | inr last ↦ elim (snoc_cases jobs (job_of means shift r) p m at_m) [
            | inl earlier ↦
                let e = so_far.each m p earlier in
                λ same. rows_differ rows e.place i e.row r sound e.before e.at at (sym (ap (λ (q : CopyJob). q.source) e.is) ∙ same ∙ ap (λ (q : CopyJob). q.source) last.1)
            | inr none ↦ absurd (omega (arith, before, none.0, last.0))
          ]
        ];
        has = λ n p below at_n is. elim (cases_eq n i) [
          | inl same ↦
              let this = same_place n p at_n same in
              inl (length jobs, subst (λ (q : PairRow). slice_get (jobs ++ job_of means shift r ∷ []) (length jobs) ≡ Some (job_of means shift q)) (sym this) (snoc_last jobs (job_of means shift r)), subst (λ (q : PairRow). count_of c q ≡ count_of a q) (sym this) own)
          | inr differs ↦ has_before n p (omega (arith, below, differs)) at_n is
        ];
        told = λ told n p below at_n is. elim (cases_eq n i) [
          | inl same ↦ inl (subst (λ (q : PairRow). target_in a rows shift q ≢ Missing) (sym (same_place n p at_n same)) (λ e. no (sym (is_found told) ∙ target_same told ∙ e)))
          | inr differs ↦ told_before told n p (omega (arith, below, differs)) at_n is
        ];
        found = λ told k j at_k q pair is. elim (snoc_cases jobs (job_of means shift r) j k at_k) [
          | inl before ↦ so_far.found told k j before q pair is
          | inr last ↦
              let same : r ≡ q = same_row rows r q sound own_pair.among pair.among (ap (λ (o : CopyJob). o.source) (sym last.1 ∙ is)) in
              subst (λ (p : PairRow). IsTargetFound a rows shift p) same (sym (target_same told) ∙ is_found told)
        ];
        counts = counts_then count.later count.by_one;
        later = later_then;
      }
        where
          no : (Found ≡ Missing) → ⊥
          no e = cc

          own : count_of c r ≡ count_of a r
          own = count.same refl ∙ so_far.later i r (omega arith) at duplex

          target_first : HasTarget a rows shift r
          target_first = record { there = omega (arith, target.there, so_far.works.site.volumes); free = target.free; long = omega (arith, target.long, so_far.works.site.lengths (Volume (target_of shift r))) }

          target_same : tells → target_in b rows shift r ≡ target_in a rows shift r
          target_same told = same_target shift rows r a b so_far.works.site (so_far.works.bytes told (Volume (target_of shift r)))

          has_before : (n : ℕ) (p : PairRow) → n < i → slice_get rows n ≡ Some p → is_duplex p.state ≡ true → ((k : ℕ) × (slice_get (jobs ++ job_of means shift r ∷ []) k ≡ Some (job_of means shift p)) × (count_of c p ≡ count_of a p)) ⊎ (Rose (count_of a p) (count_of c p) × NoJob (jobs ++ job_of means shift r ∷ []) p × (¬ HasRow (target_of shift p) rows))
          has_before n p before at_n is =
              let same = other_count n p at_n (λ e. absurd (omega (arith, before, e))) in
              elim (so_far.has n p before at_n is) [
                | inl job ↦ inl (job.0, snoc_before jobs (job_of means shift r) (job_of means shift p) job.0 job.1, same ∙ job.2)
                | inr rose ↦ inr (
                  subst (λ (m : ℕ). Rose (count_of a p) m) (sym same) rose.0,
                  λ k j at_k same. elim (snoc_cases jobs (job_of means shift r) j k at_k) [
                    | inl earlier ↦ rose.1 k j earlier same
                    | inr last ↦ rows_differ rows n i p r sound before at_n at (sym same ∙ ap (λ (q : CopyJob). q.source) last.1)
                  ],
                  rose.2,
                )
              ]

      -- It has none.
      pub finding_missing : (tells → target_in b rows shift r ≡ Missing) → tells → IsFirstWithout a c rows shift r.device
      finding_missing none told = record {
        place = i;
        row = r;
        at = at;
        duplex = duplex;
        lacks = sym (same_target shift rows r a b so_far.works.site (so_far.works.bytes told (Volume (target_of shift r)))) ∙ none told;
        device_is = refl;
        before = told_before told;
      }

      pub missing_counts : FailsByCount false (count_of b r) (count_of c r) → CountsTargets rows shift a.faults c.faults
      missing_counts count = counts_then count.later count.by_one

      pub missing_works : Works tells Nothing a c
      missing_works = works_then

  -- all rows
  pub finding_all : (i : ℕ) (jobs : List CopyJob) (a b : PlantState) → length rows ≤ i → Finding i jobs a b → AreJobs means shift a b jobs
  finding_all i jobs a b all f = record {
    each = λ k j at. let e = f.each k j at in record { row = e.row; pair = record { among = contained rows e.place e.row e.at; duplex = e.duplex }; is = e.is; target = e.target };
    apart = f.apart;
    has = λ r pair. let p = place_of_row rows r pair.among in f.has p.0 r (omega (arith, slice_get_within rows p.0 r p.1, all)) p.1 pair.duplex;
  }

  pub finding_all_found : (i : ℕ) (jobs : List CopyJob) (a b : PlantState) → Finding i jobs a b → tells → AreFound means shift a jobs
  finding_all_found i jobs a b f told = f.found told

  pub finding_none_without : (i : ℕ) (jobs : List CopyJob) (a b : PlantState) → length rows ≤ i → Finding i jobs a b → tells → NoneIsWithout a b rows shift
  finding_none_without i jobs a b all f told n r at duplex = f.told told n r (omega (arith, slice_get_within rows n r at, all)) at duplex
