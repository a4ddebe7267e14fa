-- Calls on the source and on the target, one after another.
use Rattle.std.proofs.Common.{◌≡◌, ◌≢◌, inl, inr, ◌≤◌, ℕ, List, refl, sym, ◌∙◌, subst, arith}
use Rattle.crash_plant.specs.declared.device.Device.{Device}
use Rattle.crash_plant.specs.declared.device.Device.TheVariants.{Volume}
use Rattle.crash_plant.specs.Moments.{PlantState, on, Follows, IsDurable, Same}
use Rattle.crash_plant.specs.Calls.{IsThere, WorksOn}
use Rattle.crash_plant.proofs.Steps.{follows_here, follows_then, none_lent_then, works_on_here, works_on_more, works_on_trans}
use Rattle.volume_copy.specs.declared.copy_job.CopyJob.{CopyJob}
use Rattle.volume_copy.specs.Copying.{IsCopyReady, IsOfCopy, WorksOnCopy}

-- It is ready after such calls, too.
pub ready_later : (tells : Type 0) (among : Device → Type 0) (job : CopyJob) (old new : PlantState) → WorksOn tells among old new → IsCopyReady old job → IsCopyReady new job
ready_later tells among job old new only ready = record {
  home = none_lent_then tells among old new only ready.home;
  source = omega (arith, ready.source, only.site.volumes);
  target = omega (arith, ready.target, only.site.volumes);
  apart = ready.apart;
  source_long = omega (arith, ready.source_long, only.site.lengths (Volume job.source));
  target_long = omega (arith, ready.target_long, only.site.lengths (Volume job.target));
  cylinders = ready.cylinders;
  whole = ready.whole;
}

pub source_there : (plant : PlantState) (job : CopyJob) → IsCopyReady plant job → IsThere plant (Volume job.source)
source_there plant job ready = (ready.source, ready.home job.source ready.source)

pub target_there : (plant : PlantState) (job : CopyJob) → IsCopyReady plant job → IsThere plant (Volume job.target)
target_there plant job ready = (ready.target, ready.home job.target ready.target)

module _ (tells : Type 0) (source target : ℕ) (apart : source ≢ target) where
  -- no call
  pub copy_here : (step : List ℕ → List ℕ → Type 0) (a : PlantState) → ((x : List ℕ) → step x x) → WorksOnCopy tells source target step a a
  copy_here step a same = record {
    only = works_on_here tells (IsOfCopy source target) a;
    source_bytes = λ told. refl;
    source_moments = λ told. follows_here (on a (Volume source)) Same (λ b now. refl);
    target_bytes = λ told. same (a.bytes (Volume target));
    target_moments = λ told. follows_here (on a (Volume target)) step (λ b now. same b);
  }

  -- a call on the source, which only reads it
  pub on_source : (step : List ℕ → List ℕ → Type 0) (a b : PlantState) → ((x y : List ℕ) → y ≡ x → step x y) → WorksOn tells (λ d. d ≡ Volume source) a b → (tells → b.bytes (Volume source) ≡ a.bytes (Volume source)) → (tells → Follows Same (on a (Volume source)) (on b (Volume source)))
      → WorksOnCopy tells source target step a b
  on_source step a b same only bytes moments = record {
    only = works_on_more tells (λ d. d ≡ Volume source) (IsOfCopy source target) a b (λ d is. inl is) only;
    source_bytes = bytes;
    source_moments = moments;
    target_bytes = λ told. same (a.bytes (Volume target)) (b.bytes (Volume target)) (only.others told (Volume target) other).bytes;
    target_moments = λ told t from to z left. let start = (only.others told (Volume target) other).images t from to z left in (start.0, start.1, same start.0 z start.2);
  }
    where
      other : Volume target ≢ Volume source
      other e = apart cc

  -- a call on the target
  pub on_target : (step : List ℕ → List ℕ → Type 0) (a b : PlantState) → WorksOn tells (λ d. d ≡ Volume target) a b → (tells → step (a.bytes (Volume target)) (b.bytes (Volume target))) → (tells → Follows step (on a (Volume target)) (on b (Volume target))) → WorksOnCopy tells source target step a b
  on_target step a b only bytes moments = record {
    only = works_on_more tells (λ d. d ≡ Volume target) (IsOfCopy source target) a b (λ d is. inr is) only;
    source_bytes = λ told. (only.others told (Volume source) other).bytes;
    source_moments = λ told. (only.others told (Volume source) other).images;
    target_bytes = bytes;
    target_moments = moments;
  }
    where
      other : Volume source ≢ Volume target
      other e = apart cc

  -- two calls
  pub copy_trans : (one two all : List ℕ → List ℕ → Type 0) (a b c : PlantState) → (tells → (x y : List ℕ) → a.images a.clock (Volume target) x → one x y → all x y)
      → (tells → (x y z : List ℕ) → a.images a.clock (Volume target) x → b.images b.clock (Volume target) y → one x y → two y z → all x z)
      → (tells → one (a.bytes (Volume target)) (b.bytes (Volume target)) → two (b.bytes (Volume target)) (c.bytes (Volume target)) → all (a.bytes (Volume target)) (c.bytes (Volume target)))
      → WorksOnCopy tells source target one a b → WorksOnCopy tells source target two b c → WorksOnCopy tells source target all a c
  copy_trans one two all a b c first then bytes x y = record {
    only = works_on_trans tells (IsOfCopy source target) a b c x.only y.only;
    source_bytes = λ told. y.source_bytes told ∙ x.source_bytes told;
    source_moments = λ told. follows_then (on a s) (on b s) (on c s) Same Same Same ((x.only.elapses told).kept s).later (x.source_moments told) ((y.only.elapses told).kept s) (y.source_moments told) (λ p q here e. e) (λ p q r here there e f. f ∙ e);
    target_bytes = λ told. bytes told (x.target_bytes told) (y.target_bytes told);
    target_moments = λ told. follows_then (on a t) (on b t) (on c t) one two all ((x.only.elapses told).kept t).later (x.target_moments told) ((y.only.elapses told).kept t) (y.target_moments told) (first told) (then told);
  }
    where
      s : Device
      s = Volume source

      t : Device
      t = Volume target

  -- two calls by one step that adds up
  pub copy_twice : (step : List ℕ → List ℕ → Type 0) (a b c : PlantState) → ((x y z : List ℕ) → step x y → step y z → step x z) → WorksOnCopy tells source target step a b → WorksOnCopy tells source target step b c → WorksOnCopy tells source target step a c
  copy_twice step a b c adds x y = copy_trans step step step a b c (λ told p q here s. s) (λ told p q r here there s t. adds p q r s t) (λ told s t. adds (a.bytes (Volume target)) (b.bytes (Volume target)) (c.bytes (Volume target)) s t) x y

  -- a wider step
  pub copy_wider : (one all : List ℕ → List ℕ → Type 0) (a b : PlantState) → (tells → (x y : List ℕ) → a.images a.clock (Volume target) x → one x y → all x y) → (tells → one (a.bytes (Volume target)) (b.bytes (Volume target)) → all (a.bytes (Volume target)) (b.bytes (Volume target))) → WorksOnCopy tells source target one a b → WorksOnCopy tells source target all a b
  copy_wider one all a b wider bytes x = record {
    only = x.only;
    source_bytes = x.source_bytes;
    source_moments = x.source_moments;
    target_bytes = λ told. bytes told (x.target_bytes told);
    target_moments = λ told s from to z left. let start = x.target_moments told s from to z left in (start.0, start.1, wider told start.0 z start.1 start.2);
  }

-- What is durable stays so while a device is only read.
pub durable_read : (a b : PlantState) (d : Device) → a.clock ≤ b.clock → Follows Same (on a d) (on b d) → b.bytes d ≡ a.bytes d → IsDurable (on a d) → IsDurable (on b d)
durable_read a b d later moments same durable c now = let start = moments b.clock later (omega arith) c now in start.2 ∙ durable start.0 start.1 ∙ sym same

-- What reads give comes by the step, too, where all was durable before.
pub read_step : (step : List ℕ → List ℕ → Type 0) (a b : PlantState) (d : Device) → a.clock ≤ b.clock → IsDurable (on a d) → Follows step (on a d) (on b d) → b.images b.clock d (b.bytes d) → step (a.bytes d) (b.bytes d)
read_step step a b d later durable moments image =
    let start = moments b.clock later (omega arith) (b.bytes d) image in
    subst (λ (l : List ℕ). step l (b.bytes d)) (durable start.0 start.1) start.2

-- A call on the target after others that began when it was durable.
pub then_target : (tells : Type 0) (source target : ℕ) → source ≢ target → (one two all : List ℕ → List ℕ → Type 0) (a b c : PlantState) → (tells → IsDurable (on a (Volume target))) → (tells → c.images c.clock (Volume target) (c.bytes (Volume target)))
    → (tells → (x y : List ℕ) → a.images a.clock (Volume target) x → one x y → all x y) → (tells → (x y z : List ℕ) → a.images a.clock (Volume target) x → one x y → two y z → all x z)
    → WorksOnCopy tells source target one a b → WorksOn tells (λ d. d ≡ Volume target) b c → (tells → Follows two (on b (Volume target)) (on c (Volume target))) → WorksOnCopy tells source target all a c
then_target tells source target apart one two all a b c durable image first then x only moments = record {
  only = works_on_trans tells (IsOfCopy source target) a b c x.only (works_on_more tells (λ d. d ≡ Volume target) (IsOfCopy source target) b c (λ d is. inr is) only);
  source_bytes = λ told. (only.others told (Volume source) other).bytes ∙ x.source_bytes told;
  source_moments = λ told. follows_then (on a s) (on b s) (on c s) Same Same Same ((x.only.elapses told).kept s).later (x.source_moments told) ((only.elapses told).kept s) (only.others told s other).images (λ p q here e. e) (λ p q r here there e f. f ∙ e);
  target_bytes = λ told. read_step all a c t (later told) (durable told) (all_moments told) (image told);
  target_moments = all_moments;
}
  where
    s : Device
    s = Volume source

    t : Device
    t = Volume target

    other : s ≢ t
    other e = apart cc

    all_moments : tells → Follows all (on a t) (on c t)
    all_moments told = follows_then (on a t) (on b t) (on c t) one two all ((x.only.elapses told).kept t).later (x.target_moments told) ((only.elapses told).kept t) (moments told) (first told) (λ p q r here there s u. then told p q r here s u)

    later : tells → a.clock ≤ c.clock
    later told = omega (arith, ((x.only.elapses told).kept t).later, ((only.elapses told).kept t).later)
