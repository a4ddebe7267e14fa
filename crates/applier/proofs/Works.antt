-- Calls on some devices, of which volumes may be lent and given back, one after another.
use Rattle.std.proofs.Common.{◌∙◌, arith}
use Rattle.crash_plant.specs.declared.device.Device.{Device}
use Rattle.crash_plant.specs.declared.device.Device.TheVariants.{Control}
use Rattle.crash_plant.specs.Moments.{PlantState, on}
use Rattle.crash_plant.specs.Calls.{NoneLent, WorksOn}
use Rattle.crash_plant.proofs.Steps.{site_trans, loan_trans, elapses_trans, silent_trans, stays_trans}
use Rattle.applier.specs.Returns.{WorksOnLent}

-- Calls that lend no volume are such calls.
pub lent_of_works : (tells : Type 0) (among : Device → Type 0) (a b : PlantState) → WorksOn tells among a b → WorksOnLent tells among a b
lent_of_works tells among a b x = record {
  site = x.site;
  is_lent = λ v. (x.loans v).is_lent;
  loans = λ v lent. x.loans v;
  elapses = x.elapses;
  silent = x.silent;
  others = x.others;
  others_faults = x.others_faults;
  console_faults = x.console_faults;
  faults = x.faults;
}

-- Two rows of such calls are one.
pub works_lent_trans : (tells : Type 0) (among : Device → Type 0) (a b c : PlantState) → WorksOnLent tells among a b → WorksOnLent tells among b c → WorksOnLent tells among a c
works_lent_trans tells among a b c x y = record {
  site = site_trans a b c x.site y.site;
  is_lent = λ v. y.is_lent v ∙ x.is_lent v;
  loans = λ v lent. loan_trans v a b c (x.loans v lent) (y.loans v (x.is_lent v ∙ lent));
  elapses = λ told. elapses_trans Control a b c (x.elapses told) (y.elapses told);
  silent = λ told. silent_trans Control a b c (x.elapses told) (y.elapses told) (x.silent told) (y.silent told);
  others = λ told d other. stays_trans (on a d) (on b d) (on c d) (x.others told d other) ((x.elapses told).kept d) ((y.elapses told).kept d) (y.others told d other);
  others_faults = λ d other. y.others_faults d other ∙ x.others_faults d other;
  console_faults = y.console_faults ∙ x.console_faults;
  faults = λ d. omega (arith, x.faults d, y.faults d);
}

-- Calls on some devices are calls on more of them.
pub works_lent_more : (tells : Type 0) (among more : Device → Type 0) (a b : PlantState) → ((d : Device) → among d → more d) → WorksOnLent tells among a b → WorksOnLent tells more a b
works_lent_more tells among more a b wider x = record {
  site = x.site;
  is_lent = x.is_lent;
  loans = x.loans;
  elapses = x.elapses;
  silent = x.silent;
  others = λ told d other. x.others told d (λ is. other (wider d is));
  others_faults = λ d other. x.others_faults d (λ is. other (wider d is));
  console_faults = x.console_faults;
  faults = x.faults;
}

-- Where no volume was lent none is.
pub none_lent_lent : (tells : Type 0) (among : Device → Type 0) (a b : PlantState) → WorksOnLent tells among a b → NoneLent a → NoneLent b
none_lent_lent tells among a b x home v there = x.is_lent v ∙ home v (omega (arith, there, x.site.volumes))
