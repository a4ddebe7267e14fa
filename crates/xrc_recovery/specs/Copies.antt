-- The status that a copy ends with: what it stands for, and what was copied and said by then.
use Rattle.std.specs.Prelude.{◌≡◌, ◌≢◌, ◌≤◌, ◌+◌, ◌↔◌, ◌⊎◌, ◌==◌, ◌||◌, ℕ, List, [], true, Bool, IsTrue, Some, None, Result, Ok, Err, OnOk, IfErr}
use Rattle.crash_plant.specs.declared.device.Device.{Device}
use Rattle.crash_plant.specs.declared.device.Device.TheVariants.{Volume}
use Rattle.crash_plant.specs.Moments.{PlantState}
use Rattle.crash_plant.specs.Calls.{NoneRose, Says, WorksOnConsole}
use Rattle.crash_plant.specs.Choices.{AllFollow, AtNow}
use Rattle.pair_table.specs.declared.row.PairRow.{PairRow}
use Rattle.pair_table.specs.Devices.{is_among}
use Rattle.site_means.specs.declared.means.Means.{Means}
use Rattle.site_means.specs.Answers.{IsStore, first_short, need}
use Rattle.site_means.specs.Sight.{walked}
use Rattle.third_copy.specs.declared.copy_error.CopyError.{CopyError}
use Rattle.third_copy.specs.declared.copy_error.CopyError.TheVariants.{NoTarget as NoTargetError, Recover}
use Rattle.third_copy.specs.Answers.{AreFaultyPairs, CopiesSite, CountsPairs, IsRedoneOrFailed, KeepsCopied, SeesSameRows}
use Rattle.third_copy.specs.Pairs.{IsCopied, IsFirstWithout, IsPair, NoneIsWithout}
use Rattle.third_copy.specs.Targets.{IsWithoutTarget, target_of}
use Rattle.xrecover.specs.declared.labelling.Labelling.TheVariants.{AsItIs}
use Rattle.xrecover.specs.Answers.{IsRecoverable}
use Rattle.xrecover.specs.Labels.{KeepsLabels}
use Rattle.xrecover.specs.RedoneVolumes.{IsRedone, meant_rows}
use Rattle.xrecover.specs.Sights.{ChoosesAsRead, MeansAsRead}
use Rattle.xrecover.specs.Works.{Nothing, Works}
use Rattle.xrc_edge.specs.Causes.{Rose}
use Rattle.xrc_status.specs.declared.stop.Stop.TheVariants.{BadSite, ConsoleFault, NoMemory, TooSmall, VolumeFault}
use Rattle.xrc_status.specs.Saying.{SaidWhole}
use Rattle.xrc_status.specs.Stops.{last_line, status_of}
use Rattle.xrc_recovery.specs.declared.copying.CopyStop.{CopyStop}
use Rattle.xrc_recovery.specs.declared.copying.CopyStop.TheVariants.{NoTarget, Stopped}
use Rattle.xrc_recovery.specs.Recoveries.{StopLasts}
use Rattle.xrc_recovery.specs.Reports.{Changes}
use Rattle.xrc_recovery.specs.Statuses.{EndsBy, EndsSo, SaysThen, ends_recovery, tells_meaning}
use Rattle.xrc_recovery.specs.Stops.{CallsFor, HasLines, HasRisen, IsReady, IsSite, StopsEarly, fault_of, stop_of}
use Rattle.xrc_recovery.specs.Texts.{copied_text, no_target_line, no_target_status}

-- ---- targets

-- A duplex pair of the session lacks a target, by what reads give, and this is the device of the first one that does.
pub record LacksTarget (old new : PlantState) (session : List ℕ) (shift device : ℕ) : Type 0 where
  pub means : Means
  pub is_meant : IsRecoverable old session means
  pub first : IsFirstWithout old new means.table.rows shift device

-- The devices mean something of this session, each is long enough, and each duplex pair has a target.
pub record IsReadyToCopy (plant : PlantState) (session : List ℕ) (shift : ℕ) : Type 0 where
  pub ready : IsReady plant session
  pub targets : (r : PairRow) → IsPair ready.means.table.rows r → ¬ IsWithoutTarget plant ready.means.table.rows shift r

-- ---- what was copied

-- From the moment on at which something was said, a crash leaves of the target of each pair that is copied what reads give at the end.
abbrev pub IsCopiedBefore : List PairRow → (shift : ℕ) → (copied : List ℕ) → (old new : PlantState) → Type 0
IsCopiedBefore rows shift copied old new = (t : ℕ) → old.clock ≤ t → t ≤ new.clock → new.said t ≢ old.said old.clock
    → (r : PairRow) → IsPair rows r → is_among r.device copied ≡ true → (c : List ℕ) → new.images t (Volume (target_of shift r)) c → c ≡ new.bytes (Volume (target_of shift r))

-- From that moment on a crash leaves of each pair's volume, too, what reads give at the end, but where the volume's own count rose.
abbrev pub IsRedoneBefore : List PairRow → (old new : PlantState) → Type 0
IsRedoneBefore rows old new = (t : ℕ) → old.clock ≤ t → t ≤ new.clock → new.said t ≢ old.said old.clock
    → (r : PairRow) → IsPair rows r → ((c : List ℕ) → new.images t (Volume r.device) c → c ≡ new.bytes (Volume r.device)) ⊎ Rose (old.faults (Volume r.device)) (new.faults (Volume r.device))

-- The duplex pairs were copied but those of these devices, of which the volume or the target failed, by its count, before anything was said. No pair
-- lacks a target. A pair that is copied has all its tracks on its target, in every image, and its volume is redone. Of each other pair the volume is
-- redone, too, or its own count rose.
pub record CopiesPairs (session : List ℕ) (shift : ℕ) (failed : List ℕ) (old new : PlantState) : Type 0 where
  pub means : Means
  pub is_meant : IsRecoverable old session means
  pub targets : NoneIsWithout old new means.table.rows shift
  pub copied : List ℕ
  pub faulty : AreFaultyPairs means.table.rows shift old.faults new.faults copied failed
  pub are_copied : (r : PairRow) → IsPair means.table.rows r → is_among r.device copied ≡ true → IsCopied means shift new r × IsRedone AsItIs r (walked old old.bytes) old new
  pub copied_before : IsCopiedBefore means.table.rows shift copied old new
  pub redone : (r : PairRow) → IsPair means.table.rows r → IsRedoneOrFailed old new r
  pub redone_before : IsRedoneBefore means.table.rows old new

-- what is to be said of it
abbrev pub copies_of : (session : List ℕ) (shift : ℕ) (failed : List ℕ) {old new : PlantState} → CopiesPairs session shift failed old new → List ℕ
copies_of session shift failed pairs = copied_text session pairs.means.time.0 pairs.means.table.rows failed

-- So it was, and at every moment a front of what is to be said of it was said.
pub record SaysCopies (session : List ℕ) (shift : ℕ) (failed : List ℕ) (old new : PlantState) : Type 0 where
  pub pairs : CopiesPairs session shift failed old new
  pub says : Says (copies_of session shift failed pairs) old new

-- It was said whole.
pub record SaysCopiesWhole (session : List ℕ) (shift : ℕ) (failed : List ℕ) (old new : PlantState) : Type 0 where
  pub copies : SaysCopies session shift failed old new
  pub whole : SaidWhole (copies_of session shift failed copies.pairs) old new

-- So it was said whole, and a line after it.
pub record SaysCopiesThen (session : List ℕ) (shift : ℕ) (failed line : List ℕ) (old new : PlantState) : Type 0 where
  pub pairs : CopiesPairs session shift failed old new
  pub says : SaysThen (copies_of session shift failed pairs) line old new

-- ---- stops

abbrev pub stop_of_copy : CopyError → CopyStop
stop_of_copy (Recover e) = Stopped (stop_of e)
stop_of_copy (NoTargetError d) = NoTarget d

-- Each has its status and its line.
abbrev pub copy_status : CopyStop → ℕ
copy_status (Stopped stop) = status_of stop
copy_status (NoTarget d) = no_target_status

abbrev pub copy_line : CopyStop → List ℕ
copy_line (Stopped stop) = last_line stop
copy_line (NoTarget d) = no_target_line d

-- A stop comes where a recovery's would, or a pair lacks a target.
abbrev pub CallsForCopy : (old new : PlantState) → (session : List ℕ) → (shift : ℕ) → CopyStop → Type 0
CallsForCopy old new session shift (Stopped stop) = CallsFor old session stop
CallsForCopy old new session shift (NoTarget d) = LacksTarget old new session shift d

abbrev pub HasRisenIn : (old new : PlantState) → CopyStop → Type 0
HasRisenIn old new (Stopped stop) = HasRisen old new stop
HasRisenIn old new (NoTarget d) = Unit {0}

abbrev pub HasCopyLines : CopyStop → Type 0
HasCopyLines (Stopped stop) = HasLines stop
HasCopyLines (NoTarget d) = ⊥

abbrev pub StopsCopyEarly : CopyStop → Type 0
StopsCopyEarly (Stopped stop) = StopsEarly stop
StopsCopyEarly (NoTarget d) = Unit {0}

-- Done, or where a pair lacks a target, a crash leaves now what means what reads gave; or the stop's part lasts.
abbrev pub CopyLasts : (tells : Type 0) → (old new : PlantState) → Result (Unit {0}) CopyStop → Type 0
CopyLasts tells old new (Ok done) = AtNow (MeansAsRead old) new
CopyLasts tells old new (Err (Stopped stop)) = StopLasts tells old new stop
CopyLasts tells old new (Err (NoTarget d)) = AtNow (MeansAsRead old) new

-- What is so where a copy of a session is done, or was stopped. Each field is as that of a recovery, or as the last ones of what a copy ends with.
pub record CopiesSession (tells : Type 0) (session : List ℕ) (shift : ℕ) (old new : PlantState) (result : Result (Unit {0}) CopyStop) : Type 0 where
  pub site : (result ≡ Err (Stopped BadSite)) ↔ ¬ IsSite old
  pub short : IsSite old → (d : Device) → first_short old ≡ Some d → result ≡ Err (Stopped (TooSmall d (need d)))
  pub called_for : tells → IfErr result (λ stop. CallsForCopy old new session shift stop)
  pub causes : IfErr result (λ stop. HasRisenIn old new stop)
  pub counts : (d : Device) → IsStore d → result ≢ Err (Stopped (fault_of d)) → new.faults d ≡ old.faults d
  pub complete : tells → IsSite old → IsReadyToCopy old session shift → NoneRose old new → IfErr result (λ stop. stop ≡ Stopped NoMemory)
  pub done : tells → OnOk result (SaysCopiesWhole session shift [] old new)
  pub failed : tells → result ≡ Err (Stopped VolumeFault) → (failed : List ℕ) × (failed ≢ []) × SaysCopiesWhole session shift failed old new
  pub in_part : tells → result ≡ Err (Stopped ConsoleFault) → (failed : List ℕ) × SaysCopies session shift failed old new
  pub silent : IfErr result (λ stop. ¬ HasCopyLines stop → Works tells (CopiesSite old shift) old new)
  pub console_count : result ≢ Err (Stopped ConsoleFault) → new.console_faults ≡ old.console_faults
  pub console_once : new.console_faults ≤ old.console_faults + 1
  pub volumes : tells → CountsPairs (meant_rows old old.bytes) shift old.faults new.faults
  pub changes : Changes tells (CopiesSite old shift) old new
  pub labels : tells → KeepsLabels old new
  pub progress : tells → KeepsCopied shift old new
  pub moments : tells → AllFollow (SeesSameRows old) old new
  pub lasts : tells → CopyLasts tells old new result
  pub unwritten : IfErr result (λ stop. StopsCopyEarly stop → Works tells Nothing old new)

-- ---- the whole

-- Only the line of a pair without a target was said. No count of the control, the state or a journal changed.
pub record EndsWithoutTarget (tells : Type 0) (session : List ℕ) (shift : ℕ) (old new : PlantState) : Type 0 where
  pub device : ℕ
  pub called_for : tells → LacksTarget old new session shift device
  pub counts : (d : Device) → IsStore d → new.faults d ≡ old.faults d
  pub says : tells → SaysThen [] (no_target_line device) old new

-- whether a copy can end with a status
abbrev pub ends_copy : (status : ℕ) → Bool
ends_copy status = ends_recovery status || status == no_target_status

-- What is so where a copy of a session has ended with a status.
pub record EndsCopy (tells : Type 0) (session : List ℕ) (shift : ℕ) (old new : PlantState) (status : ℕ) : Type 0 where
  pub known : IsTrue (ends_copy status)
  -- The numbers of journals and volumes come first, and then the lengths of the control, the state and the journals.
  pub site : (status ≡ 16) ↔ ¬ IsSite old
  pub untouched : status ≡ 16 → WorksOnConsole tells old new
  pub short : IsSite old → (d : Device) → first_short old ≡ Some d → EndsSo tells (TooSmall d (need d)) old new status
  -- Each other status than 0 has its stop, or it is that of a pair without a target. Where nothing calls for a stop and each pair has a target it is
  -- 0, but for want of memory.
  pub stopped : status ≢ 0 → status ≢ no_target_status → EndsBy tells (CallsFor old session) old new status
  pub no_target : status ≡ no_target_status → EndsWithoutTarget tells session shift old new
  pub complete : tells → IsSite old → IsReadyToCopy old session shift → NoneRose old new → (status ≡ 0) ⊎ (status ≡ 1)
  -- Done: every duplex pair is copied, and so it was said. Where volumes or targets failed the other pairs are copied, and so it was said. Where the
  -- console failed it was said in part.
  pub done : tells → status ≡ 0 → SaysCopiesWhole session shift [] old new
  pub failed : tells → status ≡ 13 → (failed : List ℕ) × (failed ≢ []) × SaysCopiesThen session shift failed (last_line VolumeFault) old new
  pub in_part : tells → status ≡ 3 → (failed : List ℕ) × SaysCopies session shift failed old new
  -- Done, no count rose but those of volumes. No call on the console comes after one that failed.
  pub counts : status ≡ 0 → (d : Device) → IsStore d → new.faults d ≡ old.faults d
  pub console_count : status ≡ 0 → new.console_faults ≡ old.console_faults
  pub console_once : new.console_faults ≤ old.console_faults + 1
  -- A volume is left at its first fault. No other volume is called than those of duplex pairs and their targets.
  pub volumes : tells → CountsPairs (meant_rows old old.bytes) shift old.faults new.faults
  -- At every moment only what a redo may change of the pairs' volumes, and a copy of targets, differs, and each label stays. All that is done on a target begins with the
  -- images of the pair's content, if it did in each image when the copy began. A crash leaves what means the same, with the same tracks of rows.
  pub changes : Changes tells (CopiesSite old shift) old new
  pub labels : tells → KeepsLabels old new
  pub progress : tells → KeepsCopied shift old new
  pub moments : tells → AllFollow (SeesSameRows old) old new
  -- What a status tells of the devices is so of whatever a crash leaves now, so that a later copy tells the same. At a journal's fault nothing was
  -- written, or the rest is so. At most statuses nothing was written.
  pub lasts : tells → IsTrue (tells_meaning status || status == no_target_status) → AtNow (MeansAsRead old) new
  pub small : tells → first_short old ≡ None → status ≡ 14 → AtNow (MeansAsRead old) new
  pub other : tells → status ≡ 11 → AtNow (ChoosesAsRead old) new
  pub late : tells → status ≡ 5 → Changes tells Nothing old new ⊎ AtNow (MeansAsRead old) new
  pub unwritten : status ≢ 0 → status ≢ 3 → status ≢ 5 → status ≢ 13 → Changes tells Nothing old new
