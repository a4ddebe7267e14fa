-- Calls that work one after another.
use Rattle.std.proofs.Common.{◌≡◌, ◌≢◌, ◌≤◌, inl, inr, ℕ, List, sym, ◌∙◌, ap, subst, arith}
use Rattle.std.proofs.lemmas.Bool.{cases_eq}
use Rattle.crash_plant.specs.declared.device.Device.{Device}
use Rattle.crash_plant.specs.declared.device.Device.TheVariants.{Control, State, Journal, Volume}
use Rattle.crash_plant.specs.Moments.{PlantState, on, Follows, Same}
use Rattle.crash_plant.specs.Calls.{WorksOn}
use Rattle.crash_plant.proofs.Steps.{elapses_trans, follows_then, none_lent_then, silent_trans, site_trans}
use Rattle.site_means.specs.Answers.{ReadsAll}
use Rattle.xrc_edge.specs.Causes.{Rose}
use Rattle.xrecover.specs.Works.{Nothing, OfOneVolume, Works}

-- two calls
pub works_trans : (tells : Type 0) (one two all : Device → List ℕ → List ℕ → Type 0) (a b c : PlantState) → ((d : Device) (x y z : List ℕ) → one d x y → two d y z → all d x z) → ((d : Device) (x y : List ℕ) → one d x y → all d x y) → Works tells one a b → Works tells two b c → Works tells all a c
works_trans tells one two all a b c then first x y = record {
  site = site_trans a b c x.site y.site;
  home = λ none. y.home (x.home none);
  elapses = λ told. elapses_trans Control a b c (x.elapses told) (y.elapses told);
  silent = λ told. silent_trans Control a b c (x.elapses told) (y.elapses told) (x.silent told) (y.silent told);
  bytes = λ told d. then d (a.bytes d) (b.bytes d) (c.bytes d) (x.bytes told d) (y.bytes told d);
  moments = λ told d. follows_then (on a d) (on b d) (on c d) (one d) (two d) (all d) ((x.elapses told).kept d).later (x.moments told d) ((y.elapses told).kept d) (y.moments told d) (λ p q here s. first d p q s) (λ p q r here there s t. then d p q r s t);
  console_faults = y.console_faults ∙ x.console_faults;
  faults = λ d. omega (arith, x.faults d, y.faults d);
}

-- a wider step
pub works_more : (tells : Type 0) (one all : Device → List ℕ → List ℕ → Type 0) (a b : PlantState) → (tells → (d : Device) (x y : List ℕ) → one d x y → all d x y) → Works tells one a b → Works tells all a b
works_more tells one all a b wider x = record {
  site = x.site;
  home = x.home;
  elapses = x.elapses;
  silent = x.silent;
  bytes = λ told d. wider told d (a.bytes d) (b.bytes d) (x.bytes told d);
  moments = λ told d t from to z left. let start = x.moments told d t from to z left in (start.0, start.1, wider told d start.0 z start.2);
  console_faults = x.console_faults;
  faults = x.faults;
}

-- calls that read
pub works_reads : (tells : Type 0) (a b : PlantState) → ReadsAll tells a b → Works tells Nothing a b
works_reads tells a b r = record {
  site = r.only.site;
  home = none_lent_then tells _ a b r.only;
  elapses = r.only.elapses;
  silent = r.only.silent;
  bytes = λ told d. r.same told d;
  moments = λ told d. r.moments told d;
  console_faults = r.only.console_faults;
  faults = r.only.faults;
}

-- a device by what is so of the volume, and of the others
pub on_volume : (v : ℕ) (step : List ℕ → List ℕ → Type 0) (d : Device) (b c : List ℕ) → (d ≡ Volume v → step b c) → (d ≢ Volume v → c ≡ b) → OfOneVolume v step d b c
on_volume v step Control b c here other = other (λ e. cc)
on_volume v step State b c here other = other (λ e. cc)
on_volume v step (Journal j) b c here other = other (λ e. cc)
on_volume v step (Volume w) b c here other = (λ e. here (ap Volume e), λ differs. other (λ e. differs cc))

follows_volume : (v : ℕ) (step : List ℕ → List ℕ → Type 0) (a b : PlantState) (d : Device) → (d ≡ Volume v → Follows step (on a d) (on b d)) → (d ≢ Volume v → Follows Same (on a d) (on b d)) → Follows (OfOneVolume v step d) (on a d) (on b d)
follows_volume v step a b Control here other = λ t from to z left. other (λ e. cc) t from to z left
follows_volume v step a b State here other = λ t from to z left. other (λ e. cc) t from to z left
follows_volume v step a b (Journal j) here other = λ t from to z left. other (λ e. cc) t from to z left
follows_volume v step a b (Volume w) here other = elim (cases_eq w v) [
  | inl is ↦ λ t from to z left. let start = here (ap Volume is) t from to z left in (start.0, start.1, (λ e. start.2, λ differs. absurd (differs is)))
  | inr differs ↦ λ t from to z left. let start = other (λ e. differs cc) t from to z left in (start.0, start.1, (λ e. absurd (differs e), λ again. start.2))
]

-- calls on one volume
pub works_one : (tells : Type 0) (v : ℕ) (step : List ℕ → List ℕ → Type 0) (a b : PlantState) → WorksOn tells (λ d. d ≡ Volume v) a b → (tells → step (a.bytes (Volume v)) (b.bytes (Volume v))) → (tells → Follows step (on a (Volume v)) (on b (Volume v))) → Works tells (OfOneVolume v step) a b
works_one tells v step a b w bytes moments = record {
  site = w.site;
  home = none_lent_then tells _ a b w;
  elapses = w.elapses;
  silent = w.silent;
  bytes = λ told d. on_volume v step d (a.bytes d) (b.bytes d) (λ e. subst (λ (f : Device). step (a.bytes f) (b.bytes f)) (sym e) (bytes told)) (λ other. (w.others told d other).bytes);
  moments = λ told d. follows_volume v step a b d (λ e. subst (λ (f : Device). Follows step (on a f) (on b f)) (sym e) (moments told)) (λ other. (w.others told d other).images);
  console_faults = w.console_faults;
  faults = w.faults;
}

-- a count that rose after others
pub rose_later : (before mid now : ℕ) → before ≤ mid → Rose mid now → Rose before now
rose_later before mid now le (inl less) = inl (omega (arith, le, less))
rose_later before mid now le (inr most) = inr most
