-- Whether a device's job has failed, by the flags of all jobs.
use Rattle.std.proofs.Common.{◌≡◌, ℕ, zero, suc, ◌<◌, ◌==◌, ◌||◌, Bool, true, false, List, [], ◌∷◌, length, map, get_or, refl, sym, ap, ◌∙◌, arith, eqb-true, eq-eqb}
use Rattle.std.specs.Prelude.{◌↔◌, slice_index_or}
use Rattle.std.specs.List.{list_any}
use Rattle.std.proofs.lemmas.Bool.{and_from, and_parts}
use Rattle.std.proofs.lemmas.List.{get_or-map}
use Rattle.xrc_journal.specs.declared.job.VolumeJob.{VolumeJob}
use Rattle.image_former.specs.Jobs.{HasFailed, is_failed_of}
use Rattle.site_store.specs.Jobs.{are_home_from, has_job_failed}
use Rattle.site_store.proofs.LentJobs.{found_any, home_at}

any_at_place : {A : Type 0} (test : A → Bool) (xs : List A) (k : ℕ) (d : A) → k < length xs → test (get_or xs k d) ≡ true → list_any test xs ≡ true
any_at_place test [] k d lt is = absurd (omega (arith, lt))
any_at_place test (x ∷ xs) zero d lt is = λ i. is i || list_any test xs
any_at_place test (x ∷ xs) (suc k) d lt is = after (test x) (any_at_place test xs k d (omega (arith, lt)) is)
  where
    after : (c : Bool) → list_any test xs ≡ true → (c || list_any test xs) ≡ true
    after true has = refl
    after false has = has

flag_within : {D : Type 0} (jobs : List (VolumeJob D)) (d : ℕ) → get_or (map has_job_failed jobs) d false ≡ true → d < length jobs
flag_within [] d flag = absurd cc
flag_within (job ∷ jobs) zero flag = omega arith
flag_within (job ∷ jobs) (suc d) flag = let lt = flag_within jobs d flag in omega (arith, lt)

pub failed_flag : {D : Type 0} (d : ℕ) (jobs : List (VolumeJob D)) → are_home_from 0 jobs ≡ true → HasFailed d jobs → get_or (map has_job_failed jobs) d false ≡ true
failed_flag d jobs home has =
    let f = found_any (is_failed_of d) jobs has in
    let parts = and_parts (f.element.device == d) f.element.failed f.passes in
    let at = home_at 0 jobs home f.place f.element f.within in
    let place : f.place ≡ d = omega (arith, eqb-true f.element.device d parts.0, at.device, ap (λ (j : VolumeJob _). j.device) f.there) in
    ap (λ (n : ℕ). get_or (map has_job_failed jobs) n false) (sym place) ∙ get_or-map has_job_failed jobs f.place f.element false f.within ∙ ap has_job_failed f.there ∙ parts.1

pub flag_failed : {D : Type 0} (d : ℕ) (jobs : List (VolumeJob D)) → are_home_from 0 jobs ≡ true → get_or (map has_job_failed jobs) d false ≡ true → HasFailed d jobs
flag_failed d [] home flag = absurd cc
flag_failed d (job ∷ jobs) home flag =
    let lt = flag_within (job ∷ jobs) d flag in
    let here = get_or (job ∷ jobs) d job in
    let at = home_at 0 (job ∷ jobs) home d job lt in
    let failed : here.failed ≡ true = sym (get_or-map has_job_failed (job ∷ jobs) d job false lt) ∙ flag in
    any_at_place (is_failed_of d) (job ∷ jobs) d job lt (and_from (here.device == d) here.failed (eq-eqb here.device d (omega (arith, at.device))) failed)

-- What is so of devices without a failed job is so of those whose flag isn't set.
pub by_flags : {D : Type 0} (A B : Type 0) (d : ℕ) (jobs : List (VolumeJob D)) → are_home_from 0 jobs ≡ true → A ↔ (B × ¬ HasFailed d jobs) → A ↔ (B × (slice_index_or (map has_job_failed jobs) d false ≡ false))
by_flags A B d jobs home is = (λ a. let both = is.0 a in (both.0, by_flag (get_or (map has_job_failed jobs) d false) refl both.1), λ both. is.1 (both.0, λ has. let yes = failed_flag d jobs home has in let no = both.1 in cc))
  where
    by_flag : (flag : Bool) → get_or (map has_job_failed jobs) d false ≡ flag → ¬ HasFailed d jobs → get_or (map has_job_failed jobs) d false ≡ false
    by_flag true set none = absurd (none (flag_failed d jobs home set))
    by_flag false unset none = unset
