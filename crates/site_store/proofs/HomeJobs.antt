-- Jobs that are at home, and which of them have failed.
use Rattle.std.proofs.Common.{◌≡◌, ℕ, zero, suc, ◌+◌, ◌<◌, Bool, true, false, ◌&&◌, ◌==◌, nat_eq, get_or, set, List, [], ◌∷◌, ◌++◌, length, map, replicate, refl, ap, ◌∙◌, arith}
use Rattle.std.specs.Prelude.{is_none}
use Rattle.std.proofs.lemmas.Bool.{and_parts, eq-eqb, eqb-true}
use Rattle.xrc_journal.specs.declared.job.VolumeJob.{VolumeJob}
use Rattle.site_store.specs.Jobs.{are_home_from, has_job_failed}

pub false_more : (n : ℕ) → replicate n false ++ false ∷ [] ≡ replicate (n + 1) false
false_more zero = refl
false_more (suc n) = ap (λ (l : List Bool). false ∷ l) (false_more n) ∙ ap (λ (k : ℕ). replicate k false) next
  where
    next : suc (n + 1) ≡ suc n + 1
    next = omega arith

-- ---- jobs

module _ {V : Type 0} where
  is_home : (first : ℕ) (job : VolumeJob V) (jobs : List (VolumeJob V)) → job.device ≡ first → is_none job.disk ≡ true → are_home_from (suc first) jobs ≡ true → are_home_from first (job ∷ jobs) ≡ true
  is_home first job jobs device disk more = (λ i. (eq-eqb job.device first device i && disk i) && more i)

  -- One more goes after them.
  pub home_push : (first : ℕ) (jobs : List (VolumeJob V)) (job : VolumeJob V) → are_home_from first jobs ≡ true → job.device ≡ first + length jobs → is_none job.disk ≡ true → are_home_from first (jobs ++ job ∷ []) ≡ true
  home_push first [] job home device disk = is_home first job [] (device ∙ omega arith) disk refl
  home_push first (j ∷ jobs) job home device disk =
      let parts = and_parts (nat_eq j.device first && is_none j.disk) (are_home_from (suc first) jobs) home in
      let own = and_parts (nat_eq j.device first) (is_none j.disk) parts.0 in
      is_home first j (jobs ++ job ∷ []) (eqb-true j.device first own.0) own.1 (home_push (suc first) jobs job parts.1 (device ∙ omega arith) disk)

  pub failed_push : (jobs : List (VolumeJob V)) (job : VolumeJob V) → map has_job_failed (jobs ++ job ∷ []) ≡ map has_job_failed jobs ++ job.failed ∷ []
  failed_push [] job = refl
  failed_push (j ∷ jobs) job = ap (λ (l : List Bool). j.failed ∷ l) (failed_push jobs job)

both : (a b c : Bool) → a ≡ true → b ≡ true → c ≡ true → (a && b && c) ≡ true
both true true true a b c = refl
both true true false a b c = absurd cc
both true false c a b d = absurd cc
both false b c a d e = absurd cc

-- ---- jobs at their places

module _ {V : Type 0} where
  pub job_at : (first : ℕ) (jobs : List (VolumeJob V)) (i : ℕ) (d : VolumeJob V) → are_home_from first jobs ≡ true → i < length jobs → ((get_or jobs i d).device ≡ first + i) × (is_none (get_or jobs i d).disk ≡ true)
  job_at first [] i d home lt = absurd (omega (arith, lt))
  job_at first (j ∷ jobs) zero d home lt =
      let parts = and_parts (j.device == first && is_none j.disk) (are_home_from (suc first) jobs) home in
      let own = and_parts (j.device == first) (is_none j.disk) parts.0 in
      (omega (arith, eqb-true j.device first own.0), own.1)
  job_at first (j ∷ jobs) (suc i) d home lt =
      let parts = and_parts (j.device == first && is_none j.disk) (are_home_from (suc first) jobs) home in
      let more = job_at (suc first) jobs i d parts.1 (omega (arith, lt)) in
      (omega (arith, more.0), more.1)

  pub home_set : (first : ℕ) (jobs : List (VolumeJob V)) (i : ℕ) (job : VolumeJob V) → are_home_from first jobs ≡ true → i < length jobs → job.device ≡ first + i → is_none job.disk ≡ true → are_home_from first (set jobs i job) ≡ true
  home_set first [] i job home lt device away = absurd (omega (arith, lt))
  home_set first (j ∷ jobs) zero job home lt device away =
      let parts = and_parts (j.device == first && is_none j.disk) (are_home_from (suc first) jobs) home in
      both (job.device == first) (is_none job.disk) (are_home_from (suc first) jobs) (eq-eqb job.device first (omega (arith, device))) away parts.1
  home_set first (j ∷ jobs) (suc i) job home lt device away =
      let parts = and_parts (j.device == first && is_none j.disk) (are_home_from (suc first) jobs) home in
      let own = and_parts (j.device == first) (is_none j.disk) parts.0 in
      both (j.device == first) (is_none j.disk) (are_home_from (suc first) (set jobs i job)) own.0 own.1 (home_set (suc first) jobs i job parts.1 (omega (arith, lt)) (omega (arith, device)) away)

  pub map_set : (jobs : List (VolumeJob V)) (i : ℕ) (job : VolumeJob V) → map has_job_failed (set jobs i job) ≡ set (map has_job_failed jobs) i job.failed
  map_set [] i job = refl
  map_set (j ∷ jobs) zero job = refl
  map_set (j ∷ jobs) (suc i) job = ap (λ (l : List Bool). j.failed ∷ l) (map_set jobs i job)
