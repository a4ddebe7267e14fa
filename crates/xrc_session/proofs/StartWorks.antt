-- The work for a start, as its callers tell it.
use Rattle.std.proofs.Common.{◌≡◌, ℕ, List, Result, Ok, Err, refl, ap}
use Rattle.std.specs.Prelude.{IfErr, IsErrOf}
use Rattle.crash_plant.specs.Calls.{NoneLent}
use Rattle.crash_plant.specs.declared.device.Device.TheVariants.{Volume}
use Rattle.crash_plant.specs.Moments.{PlantState, Same, on}
use Rattle.crash_plant.proofs.Steps.{follows_here, works_on_here}
use Rattle.site_store.specs.Records.{VolumesStay}
use Rattle.xrc_status.specs.declared.stop.Stop.{Stop}
use Rattle.xrc_status.specs.declared.stop.Stop.TheVariants.{Spent}
use Rattle.pair_table.specs.declared.level.Level.{Level}
use Rattle.xrc_session.specs.Starting.{IsSafeStart, IsWorkOfStart}
use Rattle.xrc_session.specs.Stops.{HasStopCause}
use Rattle.xrc_session.proofs.InTurn.{counts_as, none_risen_here, none_stop}

-- A result of another type stops so, too.
pub err_as : {T U : Type 0} (stop other : Stop) → (let r : Result T Stop = Err stop in IsErrOf r other) → (let r : Result U Stop = Err stop in IsErrOf r other)
err_as {T} {U} stop other is = let same : stop ≡ other = cc in ap (λ (x : Stop). let r : Result U Stop = Err x in r) same

pub works_err : {T U : Type 0} (tells : Type 0) (old new : PlantState) (stop : Stop) → (let r : Result T Stop = Err stop in IsWorkOfStart tells old new r) → (let r : Result U Stop = Err stop in IsWorkOfStart tells old new r)
works_err {T} {U} tells old new stop works = record {
  site = works.site;
  home = works.home;
  elapses = works.elapses;
  silent = works.silent;
  volumes = works.volumes;
  cause = works.cause;
  counts = counts_as old new (let r : Result T Stop = Err stop in r) (let r : Result U Stop = Err stop in r) (λ other is. err_as {T = T} {U = U} stop other is) works.counts;
  spent = λ told is. works.spent told (err_as {T = U} {U = T} stop Spent is);
}

pub safe_err : {T U : Type 0} (session : List ℕ) (level : Level) (at : ℕ) (old new : PlantState) (stop : Stop) → (let r : Result T Stop = Err stop in IsSafeStart session level at old new r) → (let r : Result U Stop = Err stop in IsSafeStart session level at old new r)
safe_err {T} {U} session level at old new stop start = record { safe = start.safe; spent = λ is. start.spent (err_as {T = U} {U = T} stop Spent is); formats = tt }

pub works_ok : {T U : Type 0} (tells : Type 0) (old new : PlantState) (value : T) (other : U) → (let r : Result T Stop = Ok value in IsWorkOfStart tells old new r) → (let r : Result U Stop = Ok other in IsWorkOfStart tells old new r)
works_ok {T} {U} tells old new value other works = record {
  site = works.site;
  home = works.home;
  elapses = works.elapses;
  silent = works.silent;
  volumes = works.volumes;
  cause = tt;
  counts = counts_as old new (let r : Result T Stop = Ok value in r) (let r : Result U Stop = Ok other in r) (λ stop is. absurd cc) works.counts;
  spent = λ told is. absurd cc;
}

-- Nothing was done.
pub volumes_here : (tells : Type 0) (old : PlantState) → VolumesStay tells old old
volumes_here tells old = record { bytes = λ told d. refl; images = λ told d. follows_here (on old (Volume d)) Same (λ b left. refl) }

pub works_none : {T : Type 0} (tells : Type 0) (old : PlantState) (result : Result T Stop) → NoneLent old → IfErr result (HasStopCause old old) → ¬ IsErrOf result Spent → IsWorkOfStart tells old old result
works_none {T} tells old result home cause other = record {
  site = (works_on_here tells (λ d. ⊥) old).site;
  home = home;
  elapses = (works_on_here tells (λ d. ⊥) old).elapses;
  silent = (works_on_here tells (λ d. ⊥) old).silent;
  volumes = volumes_here tells old;
  cause = cause;
  counts = none_stop old old result (none_risen_here old);
  spent = λ told is. absurd (other is);
}
