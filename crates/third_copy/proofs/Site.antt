-- The phases of a third copy: what was read, what was redone, and what was copied then.
use Rattle.std.proofs.Common.{◌≡◌, inl, inr, ◌<◌, ◌+◌, ◌*◌, ◌&&◌, ◌||◌, [], ◌∷◌, ℕ, List, Bool, true, false, Option, Some, refl, sym, ◌∙◌, ap, subst, arith}
use Rattle.std.specs.Prelude.{slice_get, slice_range}
use Rattle.std.specs.List.{list_any}
use Rattle.std.proofs.lemmas.Bool.{cases_Bool, cases_lt}
use Rattle.ckd_track.specs.declared.rec.Rec.{Rec}
use Rattle.ckd_track.specs.SlotPlaces.{slot_end, slot_place, slot_track}
use Rattle.copy_progress.specs.declared.claim.Claim.{Claim}
use Rattle.crash_plant.specs.declared.device.Device.{Device}
use Rattle.crash_plant.specs.declared.device.Device.TheVariants.{Control, State, Journal, Volume}
use Rattle.crash_plant.specs.Moments.{PlantState}
use Rattle.pair_table.specs.declared.row.PairRow.{PairRow}
use Rattle.pair_table.specs.Devices.{is_among}
use Rattle.pair_table.specs.States.{is_duplex}
use Rattle.pair_table.specs.Tables.{AreRowsSound, HasRow, is_of}
use Rattle.site_means.specs.declared.means.Means.{Means}
use Rattle.site_means.specs.Meaning.{Meaning}
use Rattle.site_means.specs.Sight.{content_of, means_of, meant_by, walked, walked_by}
use Rattle.site_means.proofs.Goes.{shape_same}
use Rattle.site_means.proofs.Meanings.{SameSeen, seen_meaning}
use Rattle.volume_copy.specs.declared.copy_job.CopyJob.{CopyJob}
use Rattle.volume_copy.specs.Targets.{AreCopied, CopiesTo, IsCopyOf, written_length}
use Rattle.volume_copy.proofs.Progress.{done_within}
use Rattle.volume_copy.proofs.Ranges.{range_rest}
use Rattle.volume_copy.proofs.Targets.{copies_here}
use Rattle.xrc_journal.specs.Items.{Item}
use Rattle.xrecover.specs.Answers.{IsRecoverable}
use Rattle.xrecover.specs.Pairs.{HasDuplex, is_duplex_of}
use Rattle.xrecover.specs.RedoneVolumes.{Recovers, Redoes, meant_rows, rows_of}
use Rattle.xrecover.specs.Works.{Nothing, Works}
use Rattle.xrecover.proofs.Relations.{recovers_same}
use Rattle.xrecover.proofs.Rows.{duplex_at}
use Rattle.third_copy.specs.Answers.{CopiesSite, KeepsCopied}
use Rattle.third_copy.specs.Jobs.{CopiesJobs}
use Rattle.third_copy.specs.Pairs.{AreFound, AreJobs, IsFoundOf, IsPair, IsTargetOf, claim_of, job_of}
use Rattle.third_copy.specs.Targets.{target_of}
use Rattle.xrecover.proofs.Works.{works_more}
use Rattle.third_copy.proofs.JobsDone.{works_told}
use Rattle.third_copy.proofs.Rows.{place_of_row, same_row}

-- ---- a step by another content

-- What is done lies below the tracks, so content that is the same there makes no difference.
copied_by : (claim : Claim) (content other : ℕ → Option (List Rec)) (target : List ℕ) → ((x : ℕ) → x < claim.tracks → content x ≡ other x) → AreCopied claim content target → AreCopied claim other target
copied_by claim content other target same copied x below =
    let within = done_within claim target in
    subst (λ (t : Option (List Rec)). IsCopyOf t target x) (same x (omega (arith, below, within))) (copied x below)

pub copies_by : (claim : Claim) (content other : ℕ → Option (List Rec)) (b c : List ℕ) → ((x : ℕ) → x < claim.tracks → content x ≡ other x) → CopiesTo claim content b c → CopiesTo claim other b c
copies_by claim content other b c same s = record {
  size = s.size;
  front = s.front;
  more = s.more;
  copied = λ so. copied_by claim content other c same (s.copied (copied_by claim other content b (λ x below. sym (same x below)) so));
  before = s.before;
  later = s.later;
  behind = s.behind;
  rests = λ x. elim (cases_lt x claim.tracks) [
    | inl below ↦ subst (λ (t : Option (List Rec)). slice_range c (slot_place x + written_length t) (slot_end x) ≡ slice_range b (slot_place x + written_length t) (slot_end x)) (same x below) (s.rests x)
    | inr past ↦ range_rest (slot_place claim.tracks) (slot_place x + written_length (other x)) (slot_end x) b c s.behind (omega (arith, past))
  ];
}

-- ---- what was read

module _ (tells : Type 0) (old two : PlantState) (works : Works tells Nothing old two) where
  pub seen_still : tells → SameSeen old two
  seen_still told = record { shape = shape_same old two works.site; bytes = λ i d. works.bytes told d i }

  pub items_still : tells → walked two two.bytes ≡ walked old old.bytes
  items_still told = ap walked_by (seen_meaning old two (seen_still told))

  module _ (session : List ℕ) (means : Means) (recoverable : tells → IsRecoverable old session means) where
    pub rows_meant : tells → meant_rows old old.bytes ≡ means.table.rows
    rows_meant told = ap (λ (k : Meaning). rows_of (meant_by k)) (recoverable told).meant.mean.1

    pub means_told : tells → means_of old old.bytes ≡ Some means
    means_told told = ap meant_by (recoverable told).meant.mean.1

    pub same_means : tells → (m : Means) → means_of old old.bytes ≡ Some m → m ≡ means
    same_means told m is = let both = sym is ∙ means_told told in cc

    -- What a redo does, by what the devices meant at the start.
    pub redo_meant : (three : PlantState) → Works tells (Recovers means.table.rows (walked two two.bytes)) two three → Works tells (Recovers (meant_rows old old.bytes) (walked old old.bytes)) two three
    redo_meant three redo = works_more tells (Recovers means.table.rows (walked two two.bytes)) (Recovers (meant_rows old old.bytes) (walked old old.bytes)) two three
        (λ told d x y p. subst (λ (r : List PairRow). Recovers r (walked old old.bytes) d x y) (sym (rows_meant told)) (subst (λ (l : List Item). Recovers means.table.rows l d x y) (items_still told) p)) redo

-- A redo after calls that write nothing.
pub redo_after : (tells : Type 0) (rows : List PairRow) (items : List Item) (a b c : PlantState) → Works tells Nothing a b → Works tells (Recovers rows items) b c → Works tells (Recovers rows items) a c
redo_after tells rows items a b c nothing redo = works_told tells Nothing (Recovers rows items) (Recovers rows items) a b c
    (λ told d x y z e p. subst (λ (l : List ℕ). Recovers rows items d l z) e p) (λ told d x y e. recovers_same rows items d x y e) nothing redo

-- A duplex pair's device has a row.
pub duplex_row : (v : ℕ) (rows : List PairRow) → HasDuplex rows v → HasRow v rows
duplex_row v [] has = absurd cc
duplex_row v (q ∷ rows) has = by_first (is_of v q) (is_duplex q.state) has (λ more. duplex_row v rows more)
  where
    by_first : (a d : Bool) → ((a && d) || list_any (is_duplex_of v) rows) ≡ true → (HasDuplex rows v → HasRow v rows) → (a || list_any (is_of v) rows) ≡ true
    by_first true d has more = refl
    by_first false d has more = more has

-- ---- what was copied

module _ (tells : Type 0) (old two three : PlantState) (means : Means) (shift : ℕ) (jobs : List CopyJob) (failed : List ℕ) (sound : AreRowsSound means.table.rows) (are : AreJobs means shift old two jobs) where
  abbrev rows : List PairRow
  rows = means.table.rows

  pub pair_duplex : (r : PairRow) → IsPair rows r → HasDuplex rows r.device
  pair_duplex r pair = let p = place_of_row rows r pair.among in duplex_at rows p.0 r p.1 pair.duplex

  -- A job whose target is a pair's is that pair's.
  pub job_is : (k : ℕ) (j : CopyJob) → slice_get jobs k ≡ Some j → (r : PairRow) → IsPair rows r → j.target ≡ target_of shift r → j ≡ job_of means shift r
  job_is k j at r pair same =
      let own = are.each k j at in
      let target = sym (ap (λ (q : CopyJob). q.target) own.is) ∙ same in
      let row : own.row ≡ r = same_row rows own.row r sound own.pair.among pair.among (omega (arith, target)) in
      own.is ∙ ap (job_of means shift) row

  -- No job's target is a device of a row.
  target_free : (k : ℕ) (j : CopyJob) → slice_get jobs k ≡ Some j → ¬ HasRow j.target rows
  target_free k j at has =
      let own = are.each k j at in
      own.target.free (subst (λ (v : ℕ). HasRow v rows) (ap (λ (q : CopyJob). q.target) own.is) has)

  -- No pair's target is a device of a row.
  pub frees : (r : PairRow) → IsPair rows r → ¬ HasRow (target_of shift r) rows
  frees r pair = elim (are.has r pair) [
    | inl job ↦ target_free job.0 (job_of means shift r) job.1
    | inr rose ↦ rose.2
  ]

  module _ (content : ℕ → ℕ → Option (List Rec)) (same : (r : PairRow) → IsPair rows r → is_among r.device failed ≡ false → (x : ℕ) → x < 15 * r.cylinders → slot_track (three.bytes (Volume r.device)) x ≡ content r.device x) where
    abbrev first : ℕ → ℕ → Option (List Rec)
    first d = slot_track (three.bytes (Volume d))

    -- A target of a pair comes by the pair's content.
    pub target_step : (v : ℕ) (b c : List ℕ) → CopiesJobs failed jobs first (Volume v) b c → (r : PairRow) → IsTargetOf rows shift r v → CopiesTo (claim_of means r) (content r.device) b c
    target_step v b c p r is = elim (are.has r is.0) [
      | inl job ↦ elim (cases_Bool (is_among r.device failed)) [
        | inl bad ↦ copies_here (content r.device) (claim_of means r) b c (p.1 (λ k j at target. ap (λ (q : CopyJob). is_among q.source failed) (job_is k j at r is.0 (target ∙ sym is.1)) ∙ bad))
        | inr fit ↦ copies_by (claim_of means r) (first r.device) (content r.device) b c (same r is.0 fit) (p.0 job.0 (job_of means shift r) job.1 is.1 fit)
      ]
      | inr rose ↦ copies_here (content r.device) (claim_of means r) b c (p.1 (λ k j at target. absurd (rose.1 k j at (ap (λ (q : CopyJob). q.source) (job_is k j at r is.0 (target ∙ sym is.1))))))
    ]

    -- Other devices stay.
    pub other_step : (v : ℕ) (b c : List ℕ) → CopiesJobs failed jobs first (Volume v) b c → AreFound means shift old jobs → ((r : PairRow) → ¬ IsFoundOf old rows shift r v) → c ≡ b
    other_step v b c p found none = p.1 (λ k j at target. let own = are.each k j at in absurd (none own.row ((own.pair, sym (ap (λ (q : CopyJob). q.target) own.is) ∙ target), found k j at own.row own.pair own.is)))

    -- So does a device that has a row.
    pub row_step : (v : ℕ) (b c : List ℕ) → CopiesJobs failed jobs first (Volume v) b c → HasRow v rows → c ≡ b
    row_step v b c p has = p.1 (λ k j at target. absurd (target_free k j at (subst (λ (n : ℕ). HasRow n rows) (sym target) has)))

-- ---- both

module _ (tells : Type 0) (old two three : PlantState) (means : Means) (shift : ℕ) (jobs : List CopyJob) (failed : List ℕ) (sound : AreRowsSound means.table.rows) (are : AreJobs means shift old two jobs) (meant : tells → meant_rows old old.bytes ≡ means.table.rows)
    (only : tells → (m : Means) → means_of old old.bytes ≡ Some m → m ≡ means) where
  not_duplex : (told : tells) (r : PairRow) (v : ℕ) → IsTargetOf means.table.rows shift r v → ¬ HasDuplex (meant_rows old old.bytes) v
  not_duplex told r v is has = frees tells old two three means shift jobs failed sound are r is.0
      (subst (λ (n : ℕ). HasRow n means.table.rows) (sym is.1) (duplex_row v means.table.rows (subst (λ (l : List PairRow). HasDuplex l v) (meant told) has)))

  -- No device of a row is a target.
  pub rows_apart : (told : tells) (v : ℕ) (r : PairRow) → HasRow v (meant_rows old old.bytes) → ¬ IsTargetOf (meant_rows old old.bytes) shift r v
  rows_apart told v r row is =
      let here = subst (λ (l : List PairRow). IsTargetOf l shift r v) (meant told) is in
      frees tells old two three means shift jobs failed sound are r here.0 (subst (λ (n : ℕ). HasRow n means.table.rows) (sym here.1) (subst (λ (l : List PairRow). HasRow v l) (meant told) row))

  -- A redo alone.
  pub redo_site : (told : tells) (d : Device) (x y : List ℕ) → Recovers (meant_rows old old.bytes) (walked old old.bytes) d x y → CopiesSite old shift d x y
  redo_site told Control x y p = p
  redo_site told State x y p = p
  redo_site told (Journal j) x y p = p
  redo_site told (Volume v) x y p = (
    p.0,
    λ m is r target.
        let same = only told m is in
        let here = subst (λ (o : Means). IsTargetOf o.table.rows shift r v) same target in
        copies_here (content_of old old.bytes r.device) (claim_of m r) x y (p.1 (not_duplex told r v here)),
    λ none no_target. p.1 none,
  )

  module _ (same : tells → (r : PairRow) → IsPair means.table.rows r → is_among r.device failed ≡ false → (x : ℕ) → x < 15 * r.cylinders → slot_track (three.bytes (Volume r.device)) x ≡ content_of old old.bytes r.device x) (found : tells → AreFound means shift old jobs) where
    copy_site : (told : tells) (d : Device) (x y z : List ℕ) → Recovers (meant_rows old old.bytes) (walked old old.bytes) d x y → CopiesJobs failed jobs (λ e. slot_track (three.bytes (Volume e))) d y z → CopiesSite old shift d x z
    copy_site told Control x y z p q = q ∙ p
    copy_site told State x y z p q = q ∙ p
    copy_site told (Journal j) x y z p q = q ∙ p
    copy_site told (Volume v) x y z p q = (
      λ has.
          let row = duplex_row v means.table.rows (subst (λ (l : List PairRow). HasDuplex l v) (meant told) has) in
          subst (λ (l : List ℕ). Redoes v (walked old old.bytes) x l) (sym (row_step tells old two three means shift jobs failed sound are (λ d. content_of old old.bytes d) (same told) v y z q row)) (p.0 has),
      λ m is r target.
          let here = subst (λ (o : Means). IsTargetOf o.table.rows shift r v) (only told m is) target in
          let step = target_step tells old two three means shift jobs failed sound are (λ d. content_of old old.bytes d) (same told) v y z q r here in
          let by_means = subst (λ (o : Means). CopiesTo (claim_of o r) (content_of old old.bytes r.device) y z) (sym (only told m is)) step in
          subst (λ (l : List ℕ). CopiesTo (claim_of m r) (content_of old old.bytes r.device) l z) (p.1 (not_duplex told r v here)) by_means,
      λ none no_target. other_step tells old two three means shift jobs failed sound are (λ d. content_of old old.bytes d) (same told) v y z q (found told) (λ r is. no_target r (subst (λ (l : List PairRow). IsFoundOf old l shift r v) (sym (meant told)) is)) ∙ p.1 none,
    )

    pub site_works : (start new : PlantState) → Works tells (Recovers (meant_rows old old.bytes) (walked old old.bytes)) start three → Works tells (CopiesJobs failed jobs (λ e. slot_track (three.bytes (Volume e)))) three new → Works tells (CopiesSite old shift) start new
    site_works start new redo copies = works_told tells (Recovers (meant_rows old old.bytes) (walked old old.bytes)) (CopiesJobs failed jobs (λ e. slot_track (three.bytes (Volume e)))) (CopiesSite old shift) start three new copy_site redo_site redo copies

-- ---- what follows

-- What is done is copied at every moment, if it was when the calls began.
pub keeps_copied : (tells : Type 0) (told : tells) (shift : ℕ) (old new : PlantState) → Works tells (CopiesSite old shift) old new → KeepsCopied shift old new
keeps_copied tells told shift old new works m is r pair all t from to c left =
    let v = target_of shift r in
    let start = works.moments told (Volume v) t from to c left in
    (start.2.1 m is r (pair, refl)).copied (all start.0 start.1)
