-- What each phase of a third copy leaves, since its start.
use Rattle.std.proofs.Common.{◌≡◌, ◌≢◌, inl, inr, ◌≤◌, ◌<◌, ℕ, List, length, true, false, Some, None, Result, Err, refl, sym, ◌∙◌, ap, subst, arith}
use Rattle.std.specs.Prelude.{IsErrOf, slice_get}
use Rattle.crash_plant.specs.declared.device.Device.{Device}
use Rattle.crash_plant.specs.declared.device.Device.TheVariants.{Control, State, Journal, Volume}
use Rattle.crash_plant.specs.Choices.{AllFollow, Choice}
use Rattle.crash_plant.specs.Calls.{IsThere, NoneLent, SameSite}
use Rattle.crash_plant.specs.Moments.{PlantState, Same}
use Rattle.crash_plant.proofs.Choices.{all_follow, part_cases}
use Rattle.pair_table.specs.declared.row.PairRow.{PairRow}
use Rattle.pair_table.specs.Tables.{AreRowsSound, HasRow, are_below}
use Rattle.site_means.specs.declared.means.Means.{Means}
use Rattle.site_means.specs.declared.site_error.SiteError.TheVariants.{Fault}
use Rattle.site_means.specs.Answers.{IsStore, ReadsAll}
use Rattle.site_means.specs.Meaning.{meaning}
use Rattle.site_means.specs.Sight.{content_of, meant_by, walked_by}
use Rattle.ckd_track.specs.SlotPlaces.{slot_track}
use Rattle.xrc_journal.specs.Contents.{content_through}
use Rattle.volume_copy.specs.declared.copy_job.CopyJob.{CopyJob}
use Rattle.volume_copy.specs.Copying.{IsCopyReady}
use Rattle.volume_copy.proofs.Targets.{copies_here}
use Rattle.volume_label.specs.Labels.{volume_need}
use Rattle.xrc_edge.specs.Causes.{Rose}
use Rattle.xrecover.specs.declared.recover_error.RecoverError.{RecoverError}
use Rattle.xrecover.specs.declared.recover_error.RecoverError.TheVariants.{Site}
use Rattle.xrecover.specs.Answers.{TellsFaults}
use Rattle.xrecover.specs.Pairs.{first_small}
use Rattle.xrecover.specs.Works.{Nothing, Works}
use Rattle.xrecover.proofs.Relations.{redoes_same}
use Rattle.xrecover.proofs.Rows.{below_at, long_at}
use Rattle.xrecover.proofs.Seen.{meaning_alike}
use Rattle.xrecover.proofs.Works.{rose_later, works_more, works_reads, works_trans}
use Rattle.third_copy.specs.declared.copy_error.CopyError.{CopyError}
use Rattle.third_copy.specs.declared.copy_error.CopyError.TheVariants.{Recover}
use Rattle.third_copy.specs.Answers.{CopiesSite, CountsPairs, SeesSameRows}
use Rattle.third_copy.specs.Jobs.{AreJobsReady}
use Rattle.third_copy.specs.Pairs.{AreFound, AreJobs, CountsTargets, IsFirstWithout, IsPair, NoneIsWithout, claim_of}
use Rattle.third_copy.specs.Targets.{target_of}
use Rattle.third_copy.proofs.Finding.{needs_later, same_target}
use Rattle.third_copy.proofs.Rows.{place_of_row}
use Rattle.third_copy.proofs.Site.{duplex_row, pair_duplex}

-- ---- nothing is written

-- Where nothing differs nothing is copied.
pub nothing_site : (old : PlantState) (shift : ℕ) (d : Device) (x y : List ℕ) → Nothing d x y → CopiesSite old shift d x y
nothing_site old shift Control x y is = is
nothing_site old shift State x y is = is
nothing_site old shift (Journal j) x y is = is
nothing_site old shift (Volume v) x y is = (λ has. redoes_same v _ x y is, λ m means r target. copies_here (content_of old old.bytes r.device) (claim_of m r) x y is, λ none no_target. is)

pub nothing_copied : (tells : Type 0) (old new : PlantState) (shift : ℕ) → Works tells Nothing old new → Works tells (CopiesSite old shift) old new
nothing_copied tells old new shift works = works_more tells Nothing (CopiesSite old shift) old new (λ told d x y is. nothing_site old shift d x y is) works

pub later_copied : (tells : Type 0) (old one two : PlantState) (shift : ℕ) → Works tells Nothing one two → Works tells (CopiesSite old shift) one two
later_copied tells old one two shift works = works_more tells Nothing (CopiesSite old shift) one two (λ told d x y is. nothing_site old shift d x y is) works

-- What was read, and then the labels of targets.
pub read_then : (tells : Type 0) (old one two : PlantState) → ReadsAll tells old one → Works tells Nothing one two → Works tells Nothing old two
read_then tells old one two reads found = works_trans tells Nothing Nothing Nothing old one two (λ d x y z p q. q ∙ p) (λ d x y p. p) (works_reads tells old one reads) found

-- All is seen as at the start.
pub unwritten_moments : (tells : Type 0) (told : tells) (old new : PlantState) → Works tells Nothing old new → AllFollow (SeesSameRows old) old new
unwritten_moments tells told old new works t from to c is =
    let came = all_follow (λ d. Same) old new works.site (λ d part. works.moments told d) t from to c is in
    (came.0, came.1, sees came.0 c (λ d. elim (part_cases old d) [ inl part ↦ (came.2 d).0 part | inr out ↦ (came.2 d).1 out ]))
  where
    sees : (b c : Choice) → ((d : Device) → c d ≡ b d) → SeesSameRows old b c
    sees b c same =
        let now : meaning old c ≡ meaning old b = meaning_alike old b c (record { control = same Control; state = same State; journals = λ j there. same (Journal j) }) in
        record {
          means = ap meant_by now;
          content = λ d x row i. content_through d x (walked_by (now i)) (slot_track (same (Volume d) i) x);
          settled = inl (λ d part. same d);
        }

-- ---- counts

-- where no volume's count changed
pub still_counts : (rows : List PairRow) (shift : ℕ) (old new : Device → ℕ) → ((v : ℕ) → new (Volume v) ≡ old (Volume v)) → CountsPairs rows shift old new
still_counts rows shift old new same = record { once = λ v. omega (arith, same v); spared = λ v apart. same v }

-- where the targets were looked for after counts that didn't change
pub targets_since : (rows : List PairRow) (shift : ℕ) (old one two : Device → ℕ) → ((d : Device) → one d ≡ old d) → CountsTargets rows shift one two → CountsTargets rows shift old two
targets_since rows shift old one two same found = record {
  later = λ d. omega (arith, found.later d, same d);
  once = λ d. omega (arith, found.once d, same d);
  others = λ d none. found.others d none ∙ same d;
}

-- The counts of the control, the state and the journals stay while targets are looked for.
pub stores_still : (rows : List PairRow) (shift : ℕ) (old two : Device → ℕ) → CountsTargets rows shift old two → (d : Device) → IsStore d → two d ≡ old d
stores_still rows shift old two found Control is = found.others Control (λ r pair e. absurd (no e))
  where
    no : {v : ℕ} → Control ≡ Volume v → ⊥
    no e = cc
stores_still rows shift old two found State is = found.others State (λ r pair e. absurd (no e))
  where
    no : {v : ℕ} → State ≡ Volume v → ⊥
    no e = cc
stores_still rows shift old two found (Journal j) is = found.others (Journal j) (λ r pair e. absurd (no e))
  where
    no : {v : ℕ} → Journal j ≡ Volume v → ⊥
    no e = cc
stores_still rows shift old two found (Volume v) is = absurd is

-- ---- faults that are told

inner : {Y : Type 0} (e : RecoverError) (d : Device) → (let r : Result Y CopyError = Err (Recover e) in r ≡ Err (Recover (Site (Fault d)))) → e ≡ Site (Fault d)
inner e d is = cc

outer : {X : Type 0} (e : RecoverError) (d : Device) → (let r : Result X RecoverError = Err e in r ≡ Err (Site (Fault d))) → e ≡ Site (Fault d)
outer e d is = cc

-- The control, the state and a journal are no volume.
pub store_apart : (d : Device) → IsStore d → (v : ℕ) → d ≢ Volume v
store_apart Control is v e = cc
store_apart State is v e = cc
store_apart (Journal j) is v e = cc
store_apart (Volume w) is v e = is

-- The fault of a recovery's error is that of the copy's.
pub tells_recover : {X Y : Type 0} (old new : Device → ℕ) (e : RecoverError) → TellsFaults old new (λ d. let r : Result X RecoverError = Err e in IsErrOf r (Site (Fault d))) → TellsFaults old new (λ d. let r : Result Y CopyError = Err (Recover e) in IsErrOf r (Recover (Site (Fault d))))
tells_recover old new e t = record {
  rose = λ d is. t.rose d (ap (λ (k : RecoverError). Err k) (inner e d is));
  others = λ d store none. t.others d store (λ is. none (ap (λ (k : RecoverError). Err (Recover k)) (outer e d is)));
}

-- No fault is told, and none happened there.
pub tells_nothing : (old new : Device → ℕ) (is_told : Device → Type 0) → ((d : Device) → ¬ is_told d) → ((d : Device) → IsStore d → new d ≡ old d) → TellsFaults old new is_told
tells_nothing old new is_told none same = record { rose = λ d is. absurd (none d is); others = λ d store no. same d store }

-- ---- targets since the start

module _ (tells : Type 0) (old one two new : PlantState) (rows : List PairRow) (shift : ℕ) (works : Works tells Nothing old one) (same : (d : Device) → one.faults d ≡ old.faults d) (later : (d : Device) → two.faults d ≤ new.faults d) where
  pub none_since : tells → NoneIsWithout one two rows shift → NoneIsWithout old new rows shift
  none_since told none n r at duplex = needs_later shift rows r old one two new works.site (works.bytes told (Volume (target_of shift r))) (same (Volume (target_of shift r))) (later (Volume (target_of shift r))) (none n r at duplex)

  pub first_since : tells → (d : ℕ) → IsFirstWithout one two rows shift d → IsFirstWithout old new rows shift d
  first_since told d f = record {
    place = f.place;
    row = f.row;
    at = f.at;
    duplex = f.duplex;
    lacks = sym (same_target shift rows f.row old one works.site (works.bytes told (Volume (target_of shift f.row)))) ∙ f.lacks;
    device_is = f.device_is;
    before = λ n r before at duplex. needs_later shift rows r old one two new works.site (works.bytes told (Volume (target_of shift r))) (same (Volume (target_of shift r))) (later (Volume (target_of shift r))) (f.before n r before at duplex);
  }

-- Jobs that were found after calls that write nothing.
pub are_since : (old one two : PlantState) (means : Means) (shift : ℕ) (jobs : List CopyJob) → SameSite old one → ((d : Device) → one.faults d ≡ old.faults d) → AreJobs means shift one two jobs → AreJobs means shift old two jobs
are_since old one two means shift jobs site same are = record {
  each = λ k j at.
      let own = are.each k j at in
      record { row = own.row; pair = own.pair; is = own.is; target = record { there = omega (arith, own.target.there, site.volumes); free = own.target.free; long = omega (arith, own.target.long, site.lengths (Volume (target_of shift own.row))) } };
  apart = are.apart;
  has = λ r pair. elim (are.has r pair) [
    | inl job ↦ inl (job.0, job.1, job.2 ∙ same (Volume (target_of shift r)))
    | inr none ↦ inr (subst (λ (n : ℕ). Rose n (two.faults (Volume (target_of shift r)))) (same (Volume (target_of shift r))) none.0, none.1, none.2)
  ];
}

-- Targets that are found after calls that write nothing were found before.
pub found_since : (old one : PlantState) (means : Means) (shift : ℕ) (jobs : List CopyJob) → SameSite old one → ((d : Device) → one.bytes d ≡ old.bytes d) → AreFound means shift one jobs → AreFound means shift old jobs
found_since old one means shift jobs site same found k j at r pair is = sym (same_target shift means.table.rows r old one site (same (Volume (target_of shift r)))) ∙ found k j at r pair is

-- ---- a journal that failed

-- Its fault is told of the counts since the start.
pub tells_late : {X Y : Type 0} (old two three : Device → ℕ) (e : RecoverError) → ((d : Device) → old d ≤ two d) → ((d : Device) → IsStore d → two d ≡ old d) → TellsFaults two three (λ d. let r : Result X RecoverError = Err e in IsErrOf r (Site (Fault d)))
    → TellsFaults old three (λ d. let r : Result Y CopyError = Err (Recover e) in IsErrOf r (Recover (Site (Fault d))))
tells_late old two three e later same t = record {
  rose = λ d is. rose_later (old d) (two d) (three d) (later d) (t.rose d (ap (λ (k : RecoverError). Err k) (inner e d is)));
  others = λ d store none. t.others d store (λ is. none (ap (λ (k : RecoverError). Err (Recover k)) (outer e d is))) ∙ same d store;
}

-- ---- the volumes of pairs

pub pair_there : (plant : PlantState) (rows : List PairRow) → NoneLent plant → are_below plant.volumes rows ≡ true → (r : PairRow) → IsPair rows r → IsThere plant (Volume r.device)
pair_there plant rows home below r pair =
    let p = place_of_row rows r pair.among in
    let there = below_at plant.volumes rows p.0 r below p.1 in
    (there, home r.device there)

pub long_pair : (plant : PlantState) (rows : List PairRow) → first_small plant rows ≡ None → (r : PairRow) → IsPair rows r → length (plant.bytes (Volume r.device)) ≡ plant.lengths (Volume r.device) → volume_need r.cylinders ≤ length (plant.bytes (Volume r.device))
long_pair plant rows big r pair told =
    let p = place_of_row rows r pair.among in
    let long = long_at plant rows p.0 r big p.1 pair.duplex in
    omega (arith, long, told)

-- ---- jobs are ready

module _ (tells : Type 0) (old two three : PlantState) (means : Means) (shift : ℕ) (jobs : List CopyJob) (failed : List ℕ) (sound : AreRowsSound means.table.rows) (are : AreJobs means shift old two jobs) (home : (v : ℕ) → v < old.volumes → old.is_lent v ≡ false)
    (below : are_below old.volumes means.table.rows ≡ true) (big : first_small old means.table.rows ≡ None) where
  ready : (j : CopyJob) (k : ℕ) → slice_get jobs k ≡ Some j → IsCopyReady old j
  ready j k at =
      let own = are.each k j at in
      let r = own.row in
      let p = place_of_row means.table.rows r own.pair.among in
      let source = below_at old.volumes means.table.rows p.0 r below p.1 in
      let long = long_at old means.table.rows p.0 r big p.1 own.pair.duplex in
      let apart : r.device ≢ target_of shift r = λ same. own.target.free (subst (λ (v : ℕ). HasRow v means.table.rows) same (duplex_row r.device means.table.rows (pair_duplex tells old two three means shift jobs failed sound are r own.pair))) in
      subst (λ (o : CopyJob). IsCopyReady old o) (sym own.is) (record {
        home = home;
        source = source;
        target = own.target.there;
        apart = apart;
        source_long = omega (arith, long);
        target_long = omega (arith, own.target.long);
        cylinders = r.cylinders;
        whole = refl;
      })

  pub jobs_ready : AreJobsReady old jobs
  jobs_ready = record {
    each = λ k j at. ready j k at;
    sources = are.apart;
    targets = λ i k p j before at_i at_k same.
        let x = are.each i p at_i in
        let y = are.each k j at_k in
        let rows_same : x.row.device ≡ y.row.device = omega (arith, ap (λ (q : CopyJob). q.target) x.is, ap (λ (q : CopyJob). q.target) y.is, same) in
        are.apart i k p j before at_i at_k (ap (λ (q : CopyJob). q.source) x.is ∙ rows_same ∙ sym (ap (λ (q : CopyJob). q.source) y.is));
    others = λ i k p j at_i at_k same.
        let x = are.each i p at_i in
        let y = are.each k j at_k in
        let row = duplex_row x.row.device means.table.rows (pair_duplex tells old two three means shift jobs failed sound are x.row x.pair) in
        let is : x.row.device ≡ target_of shift y.row = sym (ap (λ (q : CopyJob). q.source) x.is) ∙ same ∙ ap (λ (q : CopyJob). q.target) y.is in
        y.target.free (subst (λ (v : ℕ). HasRow v means.table.rows) is row);
  }
