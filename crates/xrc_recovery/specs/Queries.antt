-- The report of what a site's devices mean: what calls for a stop of it, and the status that it ends with.
use Rattle.std.specs.Prelude.{◌≡◌, ◌≢◌, ◌≤◌, ◌+◌, ◌↔◌, ◌⊎◌, ◌==◌, ◌||◌, ℕ, List, [], Bool, IsTrue, Some, None, Result, Err, OnOk, IfErr}
use Rattle.crash_plant.specs.declared.device.Device.{Device}
use Rattle.crash_plant.specs.declared.device.Device.TheVariants.{Volume}
use Rattle.crash_plant.specs.Moments.{PlantState}
use Rattle.crash_plant.specs.Calls.{NoneRose, Says, WorksOnConsole}
use Rattle.site_means.specs.declared.means.Means.{Means}
use Rattle.site_means.specs.Answers.{first_short, need}
use Rattle.xquery_report.specs.Reports.{report_text}
use Rattle.xrecover.specs.Answers.{IsMeant}
use Rattle.xrecover.specs.Works.{Nothing, Works}
use Rattle.xrc_status.specs.declared.stop.Stop.{Stop}
use Rattle.xrc_status.specs.declared.stop.Stop.TheVariants.{BadSite, ConsoleFault, NoMemory, TooSmall, VolumeFault}
use Rattle.xrc_status.specs.Saying.{SaidWhole}
use Rattle.xrc_recovery.specs.Stops.{CallsFor, HasLines, HasRisen, IsShort, IsSite, fault_of}
use Rattle.xrc_recovery.specs.Reports.{Changes}
use Rattle.xrc_recovery.specs.Statuses.{EndsBy, EndsSo}

-- ---- stops

-- What calls for a stop of a query calls for it in a recovery, but no length of a volume counts, and no volume fails.
pub record CallsForQuery (plant : PlantState) (session : List ℕ) (stop : Stop) : Type 0 where
  pub calls : CallsFor plant session stop
  pub short : (d : Device) (needed : ℕ) → stop ≡ TooSmall d needed → IsShort plant d needed
  pub no_volume : stop ≢ VolumeFault

-- Nothing calls for a stop: the devices mean something of this session, and the control, the state and each journal are long enough.
pub record HasMeaning (plant : PlantState) (session : List ℕ) : Type 0 where
  pub long : first_short plant ≡ None
  pub means : Means
  pub is_meant : IsMeant plant session means

-- ---- what is said

-- the report of what is meant, which has no line of a controller
abbrev pub meaning_report : Means → List ℕ
meaning_report means = report_text means.table means.level means.time.0 []

-- At every moment a front of the report of what the devices of the session mean was said, and nothing else.
pub record SaysReport (session : List ℕ) (old new : PlantState) : Type 0 where
  pub means : Means
  pub is_meant : IsMeant old session means
  pub says : Says (meaning_report means) old new

-- It was said whole.
pub record SaysReportWhole (session : List ℕ) (old new : PlantState) : Type 0 where
  pub report : SaysReport session old new
  pub whole : SaidWhole (meaning_report report.means) old new

-- ---- the query

-- What is so where a query of a session is done, or was stopped. Each field is as that of a recovery.
pub record QueriesSession (tells : Type 0) (session : List ℕ) (old new : PlantState) (result : Result (Unit {0}) Stop) : Type 0 where
  pub site : (result ≡ Err BadSite) ↔ ¬ IsSite old
  pub short : IsSite old → (d : Device) → first_short old ≡ Some d → result ≡ Err (TooSmall d (need d))
  pub of_short : (d : Device) (needed : ℕ) → result ≡ Err (TooSmall d needed) → first_short old ≡ Some d
  pub called_for : tells → IfErr result (λ stop. CallsForQuery old session stop)
  pub causes : IfErr result (λ stop. HasRisen old new stop)
  pub no_volume : IfErr result (λ stop. stop ≢ VolumeFault)
  pub counts : (d : Device) → result ≢ Err (fault_of d) → new.faults d ≡ old.faults d
  pub complete : tells → IsSite old → HasMeaning old session → NoneRose old new → IfErr result (λ stop. stop ≡ NoMemory)
  pub done : tells → OnOk result (SaysReportWhole session old new)
  pub in_part : tells → result ≡ Err ConsoleFault → SaysReport session old new
  pub silent : IfErr result (λ stop. ¬ HasLines stop → Works tells Nothing old new)
  pub console_count : result ≢ Err ConsoleFault → new.console_faults ≡ old.console_faults
  pub console_once : new.console_faults ≤ old.console_faults + 1
  pub changes : Changes tells Nothing old new

-- whether a query can end with a status
abbrev pub ends_query : (status : ℕ) → Bool
ends_query status = status == 0 || status == 1 || status == 3 || status == 5 || status == 6 || status == 7 || status == 10 || status == 11 || status == 12 || status == 14 || status == 16

-- What is so where a query of a session has ended with a status.
pub record EndsQuery (tells : Type 0) (session : List ℕ) (old new : PlantState) (status : ℕ) : Type 0 where
  pub known : IsTrue (ends_query status)
  -- The numbers of journals and volumes come first, and then the lengths of the control, the state and the journals. No other length
  -- counts.
  pub site : (status ≡ 16) ↔ ¬ IsSite old
  pub untouched : status ≡ 16 → WorksOnConsole tells old new
  pub short : IsSite old → (d : Device) → first_short old ≡ Some d → EndsSo tells (TooSmall d (need d)) old new status
  pub of_short : status ≡ 14 → (d : Device) × (first_short old ≡ Some d)
  -- Each other status than 0 has its stop, and where nothing calls for one it is 0, but for want of memory.
  pub stopped : status ≢ 0 → EndsBy tells (CallsForQuery old session) old new status
  pub complete : tells → IsSite old → HasMeaning old session → NoneRose old new → (status ≡ 0) ⊎ (status ≡ 1)
  -- Done: the report of what the devices mean was said, and nothing else. Where the console failed it was said in part.
  pub done : tells → status ≡ 0 → SaysReportWhole session old new
  pub in_part : tells → status ≡ 3 → SaysReport session old new
  -- Done, no count rose. No call on the console comes after one that failed.
  pub counts : status ≡ 0 → (d : Device) → new.faults d ≡ old.faults d
  pub console_count : status ≡ 0 → new.console_faults ≡ old.console_faults
  pub console_once : new.console_faults ≤ old.console_faults + 1
  -- What reads give stays, and at every moment a crash leaves nothing that it couldn't leave before. No volume is worked on.
  pub changes : Changes tells Nothing old new
  pub volumes : (v : ℕ) → new.faults (Volume v) ≡ old.faults (Volume v)
