-- The stops of what a recovery answers.
use Rattle.std.proofs.Common.{◌≡◌, ◌≢◌, ◌⊎◌, inl, inr, ℕ, List, Some, None, Err, refl, sym, ◌∙◌, ap}
use Rattle.xrc_edge.specs.Causes.{Rose}
use Rattle.crash_plant.specs.declared.device.Device.{Device}
use Rattle.crash_plant.specs.declared.device.Device.TheVariants.{Control, State, Journal, Volume}
use Rattle.crash_plant.specs.Moments.{PlantState}
use Rattle.crash_plant.specs.Calls.{NoneRose}
use Rattle.control_set.specs.declared.value.Mark.{Mark}
use Rattle.site_means.specs.declared.means.Means.{Means}
use Rattle.site_means.specs.declared.site_error.SiteError.TheVariants.{NoSession as NoSessionError, Damaged as DamagedError, Fault, TooSmall as TooSmallError, NoMemory as NoMemoryError}
use Rattle.site_means.specs.Answers.{first_short, need}
use Rattle.site_means.specs.Meaning.{Meaning}
use Rattle.site_means.specs.Sight.{meant_by}
use Rattle.xrecover.specs.declared.recover_error.RecoverError.{RecoverError}
use Rattle.xrecover.specs.declared.recover_error.RecoverError.TheVariants.{Site, Other}
use Rattle.xrecover.specs.Answers.{EndsLate, IsGoodOrCalledFor, IsMeant, IsOther, IsRecoverable, IsTooSmall}
use Rattle.xrecover.specs.Pairs.{first_small}
use Rattle.xrecover.specs.RedoneVolumes.{meant_rows, rows_of}
use Rattle.xrc_status.specs.declared.stop.Stop.{Stop}
use Rattle.xrc_status.specs.declared.stop.Stop.TheVariants.{NoMemory, BadWords, ConsoleFault, BadLine, JournalFault, ControlFault, StateFault, BadHeader, HeaderFault, NoSession, OtherSession, Damaged, VolumeFault, TooSmall, BadSite, Spent}
use Rattle.xrc_recovery.specs.Stops.{CallsFor, HasRisen, StopsEarly, IsReady, stop_of}

-- An error's stop is called for where what reads give calls for the error.
pub calls_for : {X : Type 0} (plant : PlantState) (session : List ℕ) (good : X → Type 0) (e : RecoverError)
    → ((d : Device) → first_short plant ≡ Some d → e ≡ Site (TooSmallError d (need d))) → IsGoodOrCalledFor {X = X} plant session good (Err e) → CallsFor plant session (stop_of e)
calls_for plant session good (Other name) short says = says
calls_for plant session good (Site NoSessionError) short says = says
calls_for plant session good (Site (DamagedError d place)) short says = says
calls_for plant session good (Site (Fault Control)) short says = says.1
calls_for plant session good (Site (Fault State)) short says = says
calls_for plant session good (Site (Fault (Journal j))) short says = says
calls_for plant session good (Site (Fault (Volume v))) short says = says.0
calls_for plant session good (Site (TooSmallError d needed)) short (inl first) = inl (record { first = first; need_is = let same = short d first in cc })
calls_for plant session good (Site (TooSmallError d needed)) short (inr small) = inr small
calls_for plant session good (Site NoMemoryError) short says = says

-- The count of what it names rose.
pub has_risen : (a b : PlantState) (e : RecoverError) → ((d : Device) → e ≡ Site (Fault d) → Rose (a.faults d) (b.faults d)) → HasRisen a b (stop_of e)
has_risen a b (Other name) fault = tt
has_risen a b (Site NoSessionError) fault = tt
has_risen a b (Site (DamagedError d place)) fault = tt
has_risen a b (Site (Fault Control)) fault = fault Control refl
has_risen a b (Site (Fault State)) fault = fault State refl
has_risen a b (Site (Fault (Journal j))) fault = fault (Journal j) refl
has_risen a b (Site (Fault (Volume v))) fault = (v, fault (Volume v) refl)
has_risen a b (Site (TooSmallError d needed)) fault = tt
has_risen a b (Site NoMemoryError) fault = tt

-- An early stop is that of an early error.
pub is_early : (e : RecoverError) → StopsEarly (stop_of e) → ¬ EndsLate e
is_early (Other name) early = λ late. late
is_early (Site NoSessionError) early = λ late. late
is_early (Site (DamagedError d place)) early = λ late. late
is_early (Site (Fault Control)) early = λ late. late
is_early (Site (Fault State)) early = λ late. late
is_early (Site (Fault (Journal j))) early = absurd early
is_early (Site (Fault (Volume v))) early = absurd early
is_early (Site (TooSmallError d needed)) early = λ late. late
is_early (Site NoMemoryError) early = λ late. late

-- No error's stop is that of a bad site, or of the console.
pub not_site : (e : RecoverError) → stop_of e ≢ BadSite
not_site (Other name) = λ is. cc
not_site (Site NoSessionError) = λ is. cc
not_site (Site (DamagedError d place)) = λ is. cc
not_site (Site (Fault Control)) = λ is. cc
not_site (Site (Fault State)) = λ is. cc
not_site (Site (Fault (Journal j))) = λ is. cc
not_site (Site (Fault (Volume v))) = λ is. cc
not_site (Site (TooSmallError d needed)) = λ is. cc
not_site (Site NoMemoryError) = λ is. cc

pub not_console : (e : RecoverError) → stop_of e ≢ ConsoleFault
not_console (Other name) = λ is. cc
not_console (Site NoSessionError) = λ is. cc
not_console (Site (DamagedError d place)) = λ is. cc
not_console (Site (Fault Control)) = λ is. cc
not_console (Site (Fault State)) = λ is. cc
not_console (Site (Fault (Journal j))) = λ is. cc
not_console (Site (Fault (Volume v))) = λ is. cc
not_console (Site (TooSmallError d needed)) = λ is. cc
not_console (Site NoMemoryError) = λ is. cc

-- Only a volume's fault has its stop, and by what reads give there is none.
pub not_volume : {X : Type 0} (plant : PlantState) (session : List ℕ) (good : X → Type 0) (e : RecoverError) → IsGoodOrCalledFor {X = X} plant session good (Err e) → stop_of e ≢ VolumeFault
not_volume plant session good (Other name) says = λ is. cc
not_volume plant session good (Site NoSessionError) says = λ is. cc
not_volume plant session good (Site (DamagedError d place)) says = λ is. cc
not_volume plant session good (Site (Fault Control)) says = λ is. cc
not_volume plant session good (Site (Fault State)) says = λ is. cc
not_volume plant session good (Site (Fault (Journal j))) says = λ is. cc
not_volume plant session good (Site (Fault (Volume v))) says = λ is. says.1
not_volume plant session good (Site (TooSmallError d needed)) says = λ is. cc
not_volume plant session good (Site NoMemoryError) says = λ is. cc

-- ---- where nothing calls for a stop

module _ (old new : PlantState) (session : List ℕ) (long : first_short old ≡ None) (means : Means) (meant : IsMeant old session means) (none : NoneRose old new) where
  no_other : (name : List ℕ) → IsOther old session name → ⊥
  no_other name other =
      let of = meant.of in
      let same : of.mark ≡ other.mark = let p = of.chosen in let q = other.chosen in cc in
      other.differs (ap (λ (m : Mark). m.session) (sym same) ∙ of.same)

  -- A stop is for want of memory, or there is a volume that is too small.
  pub memory_or_small : (stop : Stop) → stop ≢ BadSite → CallsFor old session stop → HasRisen old new stop → (stop ≡ NoMemory) ⊎ ((d : Device) × (needed : ℕ) × (stop ≡ TooSmall d needed) × IsTooSmall old session d needed)
  memory_or_small NoMemory site calls risen = inl refl
  memory_or_small BadWords site calls risen = absurd calls
  memory_or_small ConsoleFault site calls risen = absurd (none.console risen)
  memory_or_small (BadLine n) site calls risen = absurd calls
  memory_or_small (JournalFault j) site calls risen = absurd (none.devices (Journal j) risen)
  memory_or_small ControlFault site calls risen = absurd (none.devices Control risen)
  memory_or_small StateFault site calls risen = absurd (none.devices State risen)
  memory_or_small (BadHeader trace place) site calls risen = absurd calls
  memory_or_small (HeaderFault trace) site calls risen = absurd calls
  memory_or_small NoSession site calls risen = absurd (let mean = meant.mean.1 in cc)
  memory_or_small (OtherSession name) site calls risen = absurd (no_other name calls)
  memory_or_small (Damaged d place) site calls risen = absurd (let mean = meant.mean.1 in let damaged = calls.0 in cc)
  memory_or_small VolumeFault site calls risen = absurd (none.devices (Volume risen.0) risen.1)
  memory_or_small (TooSmall d needed) site (inl short) risen = absurd (let none = long in let first = short.first in cc)
  memory_or_small (TooSmall d needed) site (inr small) risen = inr (d, needed, refl, small)
  memory_or_small BadSite site calls risen = absurd (site refl)
  memory_or_small Spent site calls risen = absurd calls

module _ (old new : PlantState) (session : List ℕ) (ready : IsReady old session) (none : NoneRose old new) where
  no_small : (d : Device) (needed : ℕ) → IsTooSmall old session d needed → ⊥
  no_small d needed small =
      let mean = ready.is_meant.meant.mean in
      let found = small.mean in
      let same : Some ready.means ≡ Some small.means = sym (ap meant_by mean.1) ∙ ap meant_by found.1 in
      let means_are : ready.means ≡ small.means = cc in
      let long : first_small old small.means.table.rows ≡ None = ap (λ (m : Means). first_small old m.table.rows) (sym means_are) ∙ ready.is_meant.long in
      let first = small.first in
      cc

  pub only_memory : (stop : Stop) → stop ≢ BadSite → CallsFor old session stop → HasRisen old new stop → stop ≡ NoMemory
  only_memory stop site calls risen = elim (memory_or_small old new session ready.long ready.means ready.is_meant.meant none stop site calls risen) [
    | inl memory ↦ memory
    | inr small ↦ absurd (no_small small.0 small.1 small.3)
  ]

-- The rows of what is meant.
pub rows_meant : (plant : PlantState) (session : List ℕ) (means : Means) → IsRecoverable plant session means → meant_rows plant plant.bytes ≡ means.table.rows
rows_meant plant session means is = ap (λ (m : Meaning). rows_of (meant_by m)) is.meant.mean.1
