-- Calls that sync volumes, over plain states.
use Rattle.std.proofs.Common.{◌≡◌, ◌≢◌, inl, inr, ℕ, ◌+◌, ◌≤◌, ◌<◌, Bool, true, false, List, length, map, set, get_or, is_none, slice_index_or, refl, sym, ap, subst, ◌∙◌, arith, length-set, get_or-set_other, get_or-set_same}
use Rattle.std.proofs.lemmas.Bool.{cases_eq}
use Rattle.std.proofs.lemmas.List.{length-map}
use Rattle.crash_plant.specs.declared.device.Device.{Device}
use Rattle.crash_plant.specs.declared.device.Device.TheVariants.{Volume}
use Rattle.crash_plant.specs.Moments.{PlantState, on, Follows, IsDurable, Same}
use Rattle.crash_plant.specs.Calls.{WorksOn}
use Rattle.crash_plant.proofs.Choices.{device_cases}
use Rattle.crash_plant.proofs.Steps.{follows_here, follows_then, works_on_here, works_on_more, works_on_trans}
use Rattle.xrc_journal.specs.declared.job.VolumeJob.{VolumeJob}
use Rattle.site_store.specs.Causes.{FailsAlone}
use Rattle.site_store.specs.Jobs.{are_home_from, has_job_failed}
use Rattle.site_store.specs.Marking.{IsAmong, Syncs}
use Rattle.site_store.proofs.HitRows.{flag_at}
use Rattle.site_store.proofs.HomeJobs.{home_set, job_at, map_set}
use Rattle.site_store.proofs.Calls.{durable_same}

-- no call
pub syncs_here : (tells : Type 0) (among : Device → Type 0) (a : PlantState) → Syncs tells among a a
syncs_here tells among a = record { same = λ told d. refl; moments = λ told d. follows_here (on a d) Same (λ b now. refl); only = works_on_here tells among a }

-- one call
pub syncs_one : (tells : Type 0) (among : Device → Type 0) (device : Device) (old new : PlantState) → among device → (tells → new.bytes device ≡ old.bytes device) → (tells → Follows Same (on old device) (on new device)) → WorksOn tells (λ d. d ≡ device) old new
    → Syncs tells among old new
syncs_one tells among device old new here same moments only = record {
  same = λ told d. elim (device_cases d device) [
    | inl is ↦ subst (λ (e : Device). new.bytes e ≡ old.bytes e) (sym is) (same told)
    | inr other ↦ (only.others told d other).bytes
  ];
  moments = λ told d. elim (device_cases d device) [
    | inl is ↦ subst (λ (e : Device). Follows Same (on old e) (on new e)) (sym is) (moments told)
    | inr other ↦ (only.others told d other).images
  ];
  only = works_on_more tells (λ d. d ≡ device) among old new (λ d is. subst among (sym is) here) only;
}

-- one after another
pub syncs_trans : (tells : Type 0) (among : Device → Type 0) (a b c : PlantState) → Syncs tells among a b → Syncs tells among b c → Syncs tells among a c
syncs_trans tells among a b c x y = record {
  same = λ told d. y.same told d ∙ x.same told d;
  moments = λ told d.
      let first = (x.only.elapses told).kept d in
      follows_then (on a d) (on b d) (on c d) Same Same Same first.later (x.moments told d) ((y.only.elapses told).kept d) (y.moments told d) (λ p q here e. e) (λ p q r here there e more. more ∙ e);
  only = works_on_trans tells among a b c x.only y.only;
}

-- on more devices
pub syncs_more : (tells : Type 0) (among more : Device → Type 0) (a b : PlantState) → ((d : Device) → among d → more d) → Syncs tells among a b → Syncs tells more a b
syncs_more tells among more a b wider x = record { same = x.same; moments = x.moments; only = works_on_more tells among more a b wider x.only }

-- What is durable stays so.
pub durable_synced : (tells : Type 0) (told : tells) (among : Device → Type 0) (a b : PlantState) (d : Device) → Syncs tells among a b → IsDurable (on a d) → IsDurable (on b d)
durable_synced tells told among a b d x durable = durable_same a b d (x.moments told d) ((x.only.elapses told).kept d).later (x.same told d) durable

-- ---- jobs whose volumes are synced one after another

-- The job of one volume, and what a sync of it leaves.
pub record SyncsOne {V : Type 0} (tells : Type 0) (written : List Bool) (i : ℕ) (was is : VolumeJob V) (old new : PlantState) : Type 0 where
  pub job : is ≡ record was { failed = is.failed }
  pub syncs : Syncs tells (IsAmong written) old new
  pub durable : tells → slice_index_or written i false ≡ true → is.failed ≡ false → IsDurable (on new (Volume i))
  pub cause : FailsAlone was.failed is.failed (old.faults (Volume i)) (new.faults (Volume i))
  pub others : (d : ℕ) → d ≢ i → new.faults (Volume d) ≡ old.faults (Volume d)

pub record SyncedJobs {V : Type 0} (tells : Type 0) (written : List Bool) (first jobs : List (VolumeJob V)) (i : ℕ) (old now : PlantState) : Type 0 where
  pub size : length jobs ≡ length first
  pub home : are_home_from 0 jobs ≡ true
  pub syncs : Syncs tells (IsAmong written) old now
  pub durable : tells → (d : ℕ) → d < i → slice_index_or written d false ≡ true → slice_index_or (map has_job_failed jobs) d false ≡ false → IsDurable (on now (Volume d))
  pub done : (d : ℕ) → d < i → FailsAlone (slice_index_or (map has_job_failed first) d false) (slice_index_or (map has_job_failed jobs) d false) (old.faults (Volume d)) (now.faults (Volume d))
  pub later : (d : ℕ) → i ≤ d → (slice_index_or (map has_job_failed jobs) d false ≡ slice_index_or (map has_job_failed first) d false) × (now.faults (Volume d) ≡ old.faults (Volume d))

pub synced_none : {V : Type 0} (tells : Type 0) (written : List Bool) (jobs : List (VolumeJob V)) (a : PlantState) → are_home_from 0 jobs ≡ true → SyncedJobs tells written jobs jobs 0 a a
synced_none tells written jobs a home = record {
  size = refl;
  home = home;
  syncs = syncs_here tells (IsAmong written) a;
  durable = λ told d lt. absurd (omega (arith, lt));
  done = λ d lt. absurd (omega (arith, lt));
  later = λ d le. (refl, refl);
}

module _ {V : Type 0} (tells : Type 0) (written : List Bool) (first jobs : List (VolumeJob V)) (i : ℕ) (a b c : PlantState) (so_far : SyncedJobs tells written first jobs i a b) (was is : VolumeJob V) (at : get_or jobs i was ≡ was) (lt : i < length jobs) (one : SyncsOne tells written i was is b c) where
  abbrev flags : List Bool
  flags = map has_job_failed jobs

  abbrev now : (d : ℕ) → Bool
  now d = slice_index_or (map has_job_failed (set jobs i is)) d false

  here : now i ≡ is.failed
  here = ap (λ (l : List Bool). slice_index_or l i false) (map_set jobs i is) ∙ get_or-set_same flags i is.failed false (omega (arith, lt, length-map jobs has_job_failed))

  else_where : (d : ℕ) → d ≢ i → now d ≡ slice_index_or flags d false
  else_where d other = ap (λ (l : List Bool). slice_index_or l d false) (map_set jobs i is) ∙ get_or-set_other flags i d is.failed false other

  was_flag : was.failed ≡ slice_index_or (map has_job_failed first) i false
  was_flag = sym (ap (λ (j : VolumeJob V). j.failed) at) ∙ flag_at jobs i was lt ∙ (so_far.later i (omega arith)).0

  pub synced_job : SyncedJobs tells written first (set jobs i is) (i + 1) a c
  synced_job = record {
    size = length-set jobs i is ∙ so_far.size;
    home =
        let own = job_at 0 jobs i was so_far.home lt in
        home_set 0 jobs i is so_far.home lt (ap (λ (j : VolumeJob V). j.device) one.job ∙ sym (ap (λ (j : VolumeJob V). j.device) at) ∙ own.0)
        (ap (λ (j : VolumeJob V). is_none j.disk) one.job ∙ sym (ap (λ (j : VolumeJob V). is_none j.disk) at) ∙ own.1);
    syncs = syncs_trans tells (IsAmong written) a b c so_far.syncs one.syncs;
    durable = λ told d low marked good. elim (cases_eq d i) [
      | inl same ↦
          subst (λ (n : ℕ). IsDurable (on c (Volume n))) (sym same)
          (one.durable told (subst (λ (n : ℕ). slice_index_or written n false ≡ true) same marked) (sym here ∙ subst (λ (n : ℕ). now n ≡ false) same good))
      | inr other ↦ durable_synced tells told (IsAmong written) b c (Volume d) one.syncs (so_far.durable told d (omega (arith, low, other)) marked (sym (else_where d other) ∙ good))
    ];
    done = λ d low. elim (cases_eq d i) [
      | inl same ↦
          subst (λ (n : ℕ). FailsAlone (slice_index_or (map has_job_failed first) n false) (now n) (a.faults (Volume n)) (c.faults (Volume n))) (sym same)
          (subst (λ (k : ℕ). FailsAlone (slice_index_or (map has_job_failed first) i false) (now i) k (c.faults (Volume i))) (so_far.later i (omega arith)).1
          (subst (λ (x : Bool). FailsAlone (slice_index_or (map has_job_failed first) i false) x (b.faults (Volume i)) (c.faults (Volume i))) (sym here)
          (subst (λ (x : Bool). FailsAlone x is.failed (b.faults (Volume i)) (c.faults (Volume i))) was_flag one.cause)))
      | inr other ↦
          subst (λ (k : ℕ). FailsAlone (slice_index_or (map has_job_failed first) d false) (now d) (a.faults (Volume d)) k) (sym (one.others d other))
          (subst (λ (x : Bool). FailsAlone (slice_index_or (map has_job_failed first) d false) x (a.faults (Volume d)) (b.faults (Volume d))) (sym (else_where d other)) (so_far.done d (omega (arith, low, other))))
    ];
    later = λ d high.
        let other : d ≢ i = λ same. omega (arith, same, high) in
        let before = so_far.later d (omega (arith, high)) in
        (else_where d other ∙ before.0, one.others d other ∙ before.1);
  }

-- what a sync of the job's own volume leaves
pub one_sync : {V : Type 0} (tells : Type 0) (written : List Bool) (i : ℕ) (was is : VolumeJob V) (b c : PlantState) → was.device ≡ i → is ≡ record was { failed = is.failed } → Syncs tells (λ d. (d ≡ Volume was.device) × (slice_index_or written i false ≡ true)) b c
    → (tells → slice_index_or written i false ≡ true → is.failed ≡ false → IsDurable (on c (Volume was.device))) → FailsAlone was.failed is.failed (b.faults (Volume was.device)) (c.faults (Volume was.device)) → SyncsOne tells written i was is b c
one_sync tells written i was is b c own job syncs durable cause = record {
  job = job;
  syncs = syncs_more tells _ (IsAmong written) b c (λ d among. subst (λ (e : Device). IsAmong written e) (sym (among.0 ∙ ap (λ (n : ℕ). Volume n) own)) among.1) syncs;
  durable = λ told marked good. subst (λ (n : ℕ). IsDurable (on c (Volume n))) own (durable told marked good);
  cause = subst (λ (n : ℕ). FailsAlone was.failed is.failed (b.faults (Volume n)) (c.faults (Volume n))) own cause;
  others = λ d other. syncs.only.others_faults (Volume d) (λ among. let e : d ≡ was.device = cc among.0 in other (e ∙ own));
}
