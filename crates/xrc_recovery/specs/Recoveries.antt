-- What a recovery has done where it is done or stopped.
use Rattle.std.specs.Prelude.{◌≡◌, ◌≢◌, ◌≤◌, ◌+◌, ◌↔◌, ◌⊎◌, ℕ, List, [], Some, Result, Ok, Err, OnOk, IfErr, IfOk, IsErrOf}
use Rattle.crash_plant.specs.declared.device.Device.{Device}
use Rattle.crash_plant.specs.declared.device.Device.TheVariants.{Control, State, Journal, Volume}
use Rattle.crash_plant.specs.Moments.{PlantState}
use Rattle.crash_plant.specs.Calls.{NoneRose}
use Rattle.crash_plant.specs.Choices.{AllFollow, AtNow}
use Rattle.site_means.specs.Answers.{IsStore, first_short, need}
use Rattle.site_means.specs.Sight.{walked}
use Rattle.site_means.specs.declared.site_error.SiteError.TheVariants.{Fault, TooSmall as TooSmallError}
use Rattle.xrecover.specs.declared.labelling.Labelling.{Labelling}
use Rattle.xrecover.specs.declared.outcome.Outcome.{Outcome}
use Rattle.xrecover.specs.declared.recover_error.RecoverError.{RecoverError}
use Rattle.xrecover.specs.declared.recover_error.RecoverError.TheVariants.{Site}
use Rattle.xrecover.specs.Answers.{CountsVolumes, IsEarly, IsGoodOrCalledFor, IsRecoverable, TellsFaults}
use Rattle.xrecover.specs.Pairs.{AreFaulty, SparesOthers}
use Rattle.xrecover.specs.RedoneVolumes.{Recovers, Redone, meant_rows}
use Rattle.xrecover.specs.Sights.{ChoosesAsRead, MeansAsRead, SeesSame, TellsLasting}
use Rattle.xrecover.specs.Works.{Nothing, Works}
use Rattle.xrecover.specs.Labels.{TreatsLabels}
use Rattle.xrc_status.specs.declared.stop.Stop.{Stop}
use Rattle.xrc_status.specs.declared.stop.Stop.TheVariants.{NoMemory, BadWords, ConsoleFault, BadLine, JournalFault, ControlFault, StateFault, BadHeader, HeaderFault, NoSession, OtherSession, Damaged, VolumeFault, TooSmall, BadSite, Spent}
use Rattle.xrc_recovery.specs.Stops.{CallsFor, HasLines, HasRisen, StopsEarly, IsReady, IsSite, fault_of}
use Rattle.xrc_recovery.specs.Reports.{Changes, Reports, ReportsAll}

-- On the devices of duplex pairs only labels, and slots of tracks of which the walk has an item, may differ, and nothing elsewhere.
abbrev pub RecoversMeant : PlantState → Device → List ℕ → List ℕ → Type 0
RecoversMeant plant = Recovers (meant_rows plant plant.bytes) (walked plant plant.bytes)

-- What a stop tells of the devices is so of whatever a crash leaves now. After a journal's fault nothing was written, or the rest is so.
abbrev pub StopLasts : (tells : Type 0) → (old new : PlantState) → Stop → Type 0
StopLasts tells old new NoSession = AtNow (MeansAsRead old) new
StopLasts tells old new (OtherSession name) = AtNow (ChoosesAsRead old) new
StopLasts tells old new (Damaged d place) = AtNow (MeansAsRead old) new
StopLasts tells old new (JournalFault j) = Changes tells Nothing old new ⊎ AtNow (MeansAsRead old) new
StopLasts tells old new VolumeFault = AtNow (MeansAsRead old) new
StopLasts tells old new ConsoleFault = AtNow (MeansAsRead old) new
StopLasts tells old new NoMemory = Unit {0}
StopLasts tells old new ControlFault = Unit {0}
StopLasts tells old new StateFault = Unit {0}
StopLasts tells old new (TooSmall (Volume v) needed) = AtNow (MeansAsRead old) new
StopLasts tells old new (TooSmall Control needed) = Unit {0}
StopLasts tells old new (TooSmall State needed) = Unit {0}
StopLasts tells old new (TooSmall (Journal j) needed) = Unit {0}
StopLasts tells old new BadSite = Unit {0}
StopLasts tells old new BadWords = Unit {0}
StopLasts tells old new (BadLine n) = Unit {0}
StopLasts tells old new (BadHeader trace place) = Unit {0}
StopLasts tells old new (HeaderFault trace) = Unit {0}
StopLasts tells old new Spent = Unit {0}

-- Done, a crash leaves now what means what reads gave; or the stop's part lasts.
abbrev pub ResultLasts : (tells : Type 0) → (old new : PlantState) → Result (Unit {0}) Stop → Type 0
ResultLasts tells old new (Ok done) = AtNow (MeansAsRead old) new
ResultLasts tells old new (Err stop) = StopLasts tells old new stop

-- What a site's devices are once a session was redone, or was not.
pub record RedoesSession (tells : Type 0) (labelling : Labelling) (session : List ℕ) (old new : PlantState) (result : Result Outcome RecoverError) : Type 0 where
  pub says : tells → IsGoodOrCalledFor old session (λ o. IsRecoverable old session o.means) result
  pub short : (d : Device) → first_short old ≡ Some d → result ≡ Err (Site (TooSmallError d (need d)))
  pub cause : TellsFaults old.faults new.faults (λ d. IsErrOf result (Site (Fault d)))
  pub failed : IfOk result (λ o. AreFaulty o.means.table.rows old.faults new.faults o.failed)
  pub volumes : CountsVolumes tells (meant_rows old old.bytes) old.faults new.faults result
  pub redone : tells → IfOk result (λ o. Redone labelling (meant_rows old old.bytes) (walked old old.bytes) o.failed old new)
  pub works : Works tells (RecoversMeant old) old new
  pub labels : tells → TreatsLabels labelling (meant_rows old old.bytes) (walked old old.bytes) old new
  pub moments : tells → AllFollow (SeesSame old) old new
  pub lasts : tells → TellsLasting tells old new result
  pub unwritten : (e : RecoverError) → IsErrOf result e → IsEarly e → Works tells Nothing old new

-- What is so where a recovery of a session is done, or was stopped; one that leaves labels as they are is an advance.
pub record RecoversSession (tells : Type 0) (labelling : Labelling) (session : List ℕ) (old new : PlantState) (result : Result (Unit {0}) Stop) : Type 0 where
  -- The numbers of journals and volumes come first, and then the lengths of the control, the state and the journals.
  pub site : (result ≡ Err BadSite) ↔ ¬ IsSite old
  pub short : IsSite old → (d : Device) → first_short old ≡ Some d → result ≡ Err (TooSmall d (need d))
  -- Each stop is called for by what reads gave, and each fault has its cause; a count of the control, the state or a journal changes only
  -- with its own stop. Where nothing calls for a stop there is none, but for want of memory.
  pub called_for : tells → IfErr result (λ stop. CallsFor old session stop)
  pub causes : IfErr result (λ stop. HasRisen old new stop)
  pub counts : (d : Device) → IsStore d → result ≢ Err (fault_of d) → new.faults d ≡ old.faults d
  pub complete : tells → IsSite old → IsReady old session → NoneRose old new → IfErr result (λ stop. stop ≡ NoMemory)
  -- Done: every duplex pair is redone, and so it was said. Where volumes failed the others are redone, and so it was said. Where the
  -- console failed it was said in part. At each other stop nothing is said.
  pub done : tells → OnOk result (ReportsAll labelling session [] old new)
  pub failed : tells → result ≡ Err VolumeFault → (failed : List ℕ) × (failed ≢ []) × ReportsAll labelling session failed old new
  pub in_part : tells → result ≡ Err ConsoleFault → (failed : List ℕ) × Reports labelling session failed old new
  pub silent : IfErr result (λ stop. ¬ HasLines stop → Works tells (RecoversMeant old) old new)
  pub console_count : result ≢ Err ConsoleFault → new.console_faults ≡ old.console_faults
  pub console_once : new.console_faults ≤ old.console_faults + 1
  -- A volume is left at its first fault. No other volume is called than those of duplex pairs, and none where a stop comes before anything
  -- is written.
  pub once : (v : ℕ) → new.faults (Volume v) ≤ old.faults (Volume v) + 1
  pub spared : tells → SparesOthers (meant_rows old old.bytes) old.faults new.faults
  pub early : tells → IfErr result (λ stop. StopsEarly stop → (v : ℕ) → new.faults (Volume v) ≡ old.faults (Volume v))
  -- At every moment only labels of duplex pairs' volumes, and slots of tracks of which the walk has an item, differ; a crash leaves what
  -- means the same, with the same tracks. Want of memory comes before anything is written, as most stops do.
  pub changes : Changes tells (RecoversMeant old) old new
  pub moments : tells → AllFollow (SeesSame old) old new
  -- What is told lasts, so that a later recovery tells the same.
  pub lasts : tells → ResultLasts tells old new result
  pub unwritten : IfErr result (λ stop. StopsEarly stop → Works tells Nothing old new)
  -- A label is written once the slots of its volume are redone and durable, and in the end a duplex pair's volume has the label that it
  -- had, or its primary's, but where its count rose. Or each label stays.
  pub labels : tells → TreatsLabels labelling (meant_rows old old.bytes) (walked old old.bytes) old new
