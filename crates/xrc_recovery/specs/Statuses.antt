-- The status that a recovery or an advance ends with: what it stands for, and what was done and said by then.
use Rattle.std.specs.Prelude.{◌≡◌, ◌≢◌, ◌≤◌, ◌+◌, ◌↔◌, ◌⊎◌, ◌++◌, ◌==◌, ◌||◌, ℕ, List, [], Bool, IsTrue, Some, None, length, take}
use Rattle.xrc_edge.specs.Causes.{Rose}
use Rattle.crash_plant.specs.declared.device.Device.{Device}
use Rattle.crash_plant.specs.declared.device.Device.TheVariants.{Volume}
use Rattle.crash_plant.specs.Moments.{PlantState}
use Rattle.crash_plant.specs.Calls.{NoneRose, Says, WorksOnConsole}
use Rattle.crash_plant.specs.Choices.{AllFollow, AtNow}
use Rattle.site_means.specs.Answers.{IsStore, first_short, need}
use Rattle.site_means.specs.Sight.{walked}
use Rattle.xrecover.specs.declared.labelling.Labelling.{Labelling}
use Rattle.xrecover.specs.Pairs.{SparesOthers}
use Rattle.xrecover.specs.RedoneVolumes.{Recovers, meant_rows}
use Rattle.xrecover.specs.Sights.{ChoosesAsRead, MeansAsRead, SeesSame}
use Rattle.xrecover.specs.Works.{Nothing}
use Rattle.xrecover.specs.Labels.{TreatsLabels}
use Rattle.xrc_status.specs.declared.stop.Stop.{Stop}
use Rattle.xrc_status.specs.declared.stop.Stop.TheVariants.{TooSmall, VolumeFault}
use Rattle.xrc_status.specs.Saying.{SaidWhole}
use Rattle.xrc_status.specs.Stops.{last_line, status_of}
use Rattle.xrc_recovery.specs.Stops.{CallsFor, HasLines, HasRisen, IsReady, IsSite, fault_of}
use Rattle.xrc_recovery.specs.Reports.{Changes, RedoesPairs, Reports, ReportsAll, report_of}

-- ---- what was said

-- A text was said whole, and a front of a line after it.
abbrev pub SaidUpTo : (text line : List ℕ) → PlantState → PlantState → Type 0
SaidUpTo text line old new = (k : ℕ) × (k ≤ length line) × (new.said new.clock ≡ old.said old.clock ++ (text ++ take k line))

-- A text was said whole, and a line after it, whole too, or in part where the console's count rose.
pub record SaysThen (text line : List ℕ) (old new : PlantState) : Type 0 where
  pub says : Says (text ++ line) old new
  pub whole : SaidWhole (text ++ line) old new ⊎ (SaidUpTo text line old new × Rose old.console_faults new.console_faults)

-- The pairs were redone but those of these devices; so it was said whole, and a line after it.
pub record ReportsThen (labelling : Labelling) (session failed line : List ℕ) (old new : PlantState) : Type 0 where
  pub pairs : RedoesPairs labelling session failed old new
  pub says : SaysThen (report_of labelling session failed pairs) line old new

-- ---- stops

-- The status is this stop's, and nothing but its line was said, unless the stop comes after other lines.
pub record EndsSo (tells : Type 0) (stop : Stop) (old new : PlantState) (status : ℕ) : Type 0 where
  pub status_is : status ≡ status_of stop
  pub says : tells → ¬ HasLines stop → SaysThen [] (last_line stop) old new

-- It ends by a stop that what reads gave calls for. The count of what failed rose, and no other of the control, the state and the
-- journals changed.
pub record EndsBy (tells : Type 0) (calls_for : Stop → Type 0) (old new : PlantState) (status : ℕ) : Type 0 where
  pub stop : Stop
  pub ends : EndsSo tells stop old new status
  pub called_for : tells → calls_for stop
  pub risen : HasRisen old new stop
  pub counts : (d : Device) → IsStore d → stop ≢ fault_of d → new.faults d ≡ old.faults d

-- ---- the whole

-- whether a recovery can end with a status
abbrev pub ends_recovery : (status : ℕ) → Bool
ends_recovery status = status == 0 || status == 1 || status == 3 || status == 5 || status == 6 || status == 7 || status == 10 || status == 11 || status == 12 || status == 13 || status == 14 || status == 16

-- whether a status tells what the devices mean, or why they mean nothing
abbrev pub tells_meaning : (status : ℕ) → Bool
tells_meaning status = status == 0 || status == 3 || status == 10 || status == 12 || status == 13

-- What is so where a recovery of a session has ended with a status. One that leaves labels as they are is an advance.
pub record EndsRecovery (tells : Type 0) (labelling : Labelling) (session : List ℕ) (old new : PlantState) (status : ℕ) : Type 0 where
  pub known : IsTrue (ends_recovery status)
  -- The numbers of journals and volumes come first, and then the lengths of the control, the state and the journals.
  pub site : (status ≡ 16) ↔ ¬ IsSite old
  pub untouched : status ≡ 16 → WorksOnConsole tells old new
  pub short : IsSite old → (d : Device) → first_short old ≡ Some d → EndsSo tells (TooSmall d (need d)) old new status
  -- Each other status than 0 has its stop, and where nothing calls for one it is 0, but for want of memory.
  pub stopped : status ≢ 0 → EndsBy tells (CallsFor old session) old new status
  pub complete : tells → IsSite old → IsReady old session → NoneRose old new → (status ≡ 0) ⊎ (status ≡ 1)
  -- Done: every duplex pair is redone, and so it was said. Where volumes failed the others are redone, and so it was said. Where the
  -- console failed it was said in part.
  pub done : tells → status ≡ 0 → ReportsAll labelling session [] old new
  pub failed : tells → status ≡ 13 → (failed : List ℕ) × (failed ≢ []) × ReportsThen labelling session failed (last_line VolumeFault) old new
  pub in_part : tells → status ≡ 3 → (failed : List ℕ) × Reports labelling session failed old new
  -- Done, no count rose but those of volumes. No call on the console comes after one that failed.
  pub counts : status ≡ 0 → (d : Device) → IsStore d → new.faults d ≡ old.faults d
  pub console_count : status ≡ 0 → new.console_faults ≡ old.console_faults
  pub console_once : new.console_faults ≤ old.console_faults + 1
  -- A volume is left at its first fault. No other volume is called than those of duplex pairs, and at most statuses none.
  pub once : (v : ℕ) → new.faults (Volume v) ≤ old.faults (Volume v) + 1
  pub spared : tells → SparesOthers (meant_rows old old.bytes) old.faults new.faults
  pub uncalled : tells → status ≢ 0 → status ≢ 3 → status ≢ 5 → status ≢ 13 → (v : ℕ) → new.faults (Volume v) ≡ old.faults (Volume v)
  -- At every moment only labels of duplex pairs' volumes, and slots of tracks of which the walk has an item, differ; a crash leaves
  -- what means the same, with the same tracks. At most statuses nothing was written.
  pub changes : Changes tells (Recovers (meant_rows old old.bytes) (walked old old.bytes)) old new
  pub moments : tells → AllFollow (SeesSame old) old new
  -- What a status tells of the devices is so of whatever a crash leaves now, so that a later recovery tells the same: at 14 of a volume,
  -- too. At a journal's fault nothing was written, or the rest is so.
  pub lasts : tells → IsTrue (tells_meaning status) → AtNow (MeansAsRead old) new
  pub small : tells → first_short old ≡ None → status ≡ 14 → AtNow (MeansAsRead old) new
  pub other : tells → status ≡ 11 → AtNow (ChoosesAsRead old) new
  pub late : tells → status ≡ 5 → Changes tells Nothing old new ⊎ AtNow (MeansAsRead old) new
  -- A recovery writes a label once the slots of its volume are redone and durable, and at each status a duplex pair's volume has the
  -- label that it had, or its primary's, but where its count rose. In an advance each label stays.
  pub labels : tells → TreatsLabels labelling (meant_rows old old.bytes) (walked old old.bytes) old new
  pub unwritten : status ≢ 0 → status ≢ 3 → status ≢ 5 → status ≢ 13 → Changes tells Nothing old new
