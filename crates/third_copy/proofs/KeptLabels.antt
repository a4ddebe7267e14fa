-- Labels stay while a site is copied.
use Rattle.std.proofs.Common.{◌≡◌, ◌⊎◌, inl, inr, ◌∷◌, [], ℕ, zero, suc, List, true, false, take, Option, Some, refl, sym, ◌∙◌, ap, arith}
use Rattle.std.specs.Prelude.{slice_get}
use Rattle.std.proofs.lemmas.Bool.{cases_Bool, cases_eq}
use Rattle.ckd_track.specs.declared.rec.Rec.{Rec}
use Rattle.crash_plant.specs.declared.device.Device.{Device}
use Rattle.crash_plant.specs.declared.device.Device.TheVariants.{Volume}
use Rattle.crash_plant.specs.Moments.{PlantState, on}
use Rattle.pair_table.specs.Devices.{is_among}
use Rattle.volume_copy.specs.declared.copy_job.CopyJob.{CopyJob}
use Rattle.volume_copy.proofs.Ranges.{front_less}
use Rattle.xrecover.specs.Labels.{KeepsLabels}
use Rattle.xrecover.specs.RedoneVolumes.{SameLabel}
use Rattle.xrecover.specs.Works.{Nothing, Works}
use Rattle.xrecover.proofs.Labels.{keeps_then}
use Rattle.third_copy.specs.Jobs.{CopiesJobs}

-- Calls keep labels if each step does.
keeps_step : (tells : Type 0) (told : tells) (step : Device → List ℕ → List ℕ → Type 0) (a b : PlantState) → ((v : ℕ) (x y : List ℕ) → step (Volume v) x y → SameLabel x y) → Works tells step a b → KeepsLabels a b
keeps_step tells told step a b same works v = record {
  bytes = same v (a.bytes (Volume v)) (b.bytes (Volume v)) (works.bytes told (Volume v));
  moments = λ t from to z left. let start = works.moments told (Volume v) t from to z left in (start.0, start.1, same v start.0 z start.2);
}

pub keeps_nothing : (tells : Type 0) (told : tells) (a b : PlantState) → Works tells Nothing a b → KeepsLabels a b
keeps_nothing tells told a b works = keeps_step tells told Nothing a b (λ v x y is. ap (λ (l : List ℕ). take 14 l) is) works

-- calls one after another
pub keeps_both : (tells : Type 0) (told : tells) (step next : Device → List ℕ → List ℕ → Type 0) (a b c : PlantState) → Works tells step a b → Works tells next b c → KeepsLabels a b → KeepsLabels b c → KeepsLabels a c
keeps_both tells told step next a b c works then k l v = keeps_then (on a (Volume v)) (on b (Volume v)) (on c (Volume v)) ((works.elapses told).kept (Volume v)).later (k v) ((then.elapses told).kept (Volume v)) (l v)

-- A volume is the target of a job whose source didn't fail before, or of none.
fit_cases : (failed : List ℕ) (jobs : List CopyJob) (v : ℕ) → ((k : ℕ) × (j : CopyJob) × (slice_get jobs k ≡ Some j) × (j.target ≡ v) × (is_among j.source failed ≡ false)) ⊎ ((k : ℕ) (j : CopyJob) → slice_get jobs k ≡ Some j → j.target ≡ v → is_among j.source failed ≡ true)
fit_cases failed [] v = inr (λ k j at. absurd cc)
fit_cases failed (q ∷ jobs) v = elim (fit_cases failed jobs v) [
  | inl more ↦ inl (suc more.0, more.1, more.2, more.3, more.4)
  | inr rest ↦ elim (cases_Bool (is_among q.source failed)) [
    | inl bad ↦ inr (by_place rest (λ is. bad))
    | inr fit ↦ elim (cases_eq q.target v) [
      | inl is ↦ inl (0, q, refl, is, fit)
      | inr differs ↦ inr (by_place rest (λ is. absurd (differs is)))
    ]
  ]
]
  where
    by_place : ((k : ℕ) (j : CopyJob) → slice_get jobs k ≡ Some j → j.target ≡ v → is_among j.source failed ≡ true) → (q.target ≡ v → is_among q.source failed ≡ true) → (k : ℕ) (j : CopyJob) → slice_get (q ∷ jobs) k ≡ Some j → j.target ≡ v → is_among j.source failed ≡ true
    by_place rest first zero j at is = let same : q ≡ j = cc in ap (λ (o : CopyJob). is_among o.source failed) (sym same) ∙ first (ap (λ (o : CopyJob). o.target) same ∙ is)
    by_place rest first (suc k) j at is = rest k j at is

-- So do copies.
pub keeps_jobs : (tells : Type 0) (told : tells) (failed : List ℕ) (jobs : List CopyJob) (content : ℕ → ℕ → Option (List Rec)) (a b : PlantState) → Works tells (CopiesJobs failed jobs content) a b → KeepsLabels a b
keeps_jobs tells told failed jobs content a b works = keeps_step tells told (CopiesJobs failed jobs content) a b (λ v x y step.
    elim (fit_cases failed jobs v) [
      | inl job ↦ front_less 14 16 x y (omega arith) (step.0 job.0 job.1 job.2 job.3 job.4).front.label
      | inr none ↦ ap (λ (l : List ℕ). take 14 l) (step.1 none)
    ]) works
