-- How a run of a script ends.
use Rattle.std.specs.Prelude.{◌≡◌, ◌⊎◌, ℕ, ◌+◌, ◌<◌, ◌≤◌, List, [], ◌∷◌, ◌++◌, length, take, Option, Some, None, Result, Ok, Err, false, OnOk, IfSome, IsTrue}
use Rattle.std.specs.List.{All}
use Rattle.xrc_edge.specs.Causes.{Rose}
use Rattle.crash_plant.specs.declared.device.Device.TheVariants.{Volume}
use Rattle.crash_plant.specs.Moments.{PlantState}
use Rattle.pair_table.specs.declared.names.NamedDevice.{NamedDevice}
use Rattle.pair_table.specs.Naming.{Naming}
use Rattle.volume_label.specs.Labels.{label_of}
use Rattle.volume_label.specs.declared.label.Label.{Label}
use Rattle.consistency.specs.Stages.{ScriptRun}
use Rattle.consistency.specs.Courses.{Answered, last_line_time, stage_at}
use Rattle.script_lines.specs.NextLines.{IsNextLine}
use Rattle.script_lines.specs.Texts.{has_feed}
use Rattle.script_lines.specs.declared.next.Next.TheVariants.{Bad}
use Rattle.xrc_status.specs.declared.stop.Stop.{Stop}
use Rattle.xrc_status.specs.declared.stop.Stop.TheVariants.{BadLine, ConsoleFault}
use Rattle.xrc_session.specs.Ends.{IsRunDone, StopsInLine}
use Rattle.mover.specs.declared.lane.Lane.{Lane}
use Rattle.mover.specs.Moves.{most_faults}
use Rattle.xrc_session.specs.AppliedEnds.{StaysApplied}
use Rattle.xrc_session.specs.LinePauses.{HasAnswered, IsRunOver}
use Rattle.xrc_session.specs.States.{SessionState}
use Rattle.xrc_session.specs.Stops.{IsStopAfterEnd}
use Rattle.xrc_session.specs.Lanes.{AllTold, AreTracesGiven, SourceBytes}
use Rattle.xrc_session.specs.Openings.{opening_stop}
use Rattle.xrc_session.specs.Trails.{Trail}

-- ---- the run

abbrev pub named_by : (device : ℕ) → Option Label → List NamedDevice
named_by d None = []
named_by d (Some label) = record { device = d; serial = label.serial; cylinders = label.cylinders } ∷ []

-- the bytes in which a volume's label stands
abbrev pub front_of_volume : PlantState → (device : ℕ) → List ℕ
front_of_volume plant d = take 14 (plant.bytes (Volume d))

-- What a volume gives to the labels: its valid label, if it began with one. It may give none if its count rose.
abbrev pub GivesLabel : (old new : PlantState) → (device : ℕ) → List NamedDevice → Type 0
GivesLabel old new d labels = (labels ≡ named_by d (label_of (old.lengths (Volume d)) (front_of_volume old d))) ⊎ ((labels ≡ []) × Rose (old.faults (Volume d)) (new.faults (Volume d)))

-- Labels are those that the volumes from this one on give, in order.
pub data AreLabels (old new : PlantState) : (device : ℕ) → List NamedDevice → Type 0 where
  Last : (d : ℕ) → old.volumes ≤ d → AreLabels old new d []
  Given : (d : ℕ) (labels more : List NamedDevice) → d < old.volumes → GivesLabel old new d labels → AreLabels old new (d + 1) more → AreLabels old new d (labels ++ more)

-- The volume that gave a label had no fault: its count is as before.
abbrev pub IsFaultless : (old new : PlantState) → NamedDevice → Type 0
IsFaultless old new label = new.faults (Volume label.device) ≡ old.faults (Volume label.device)

-- These labels were read: each valid one, in order. A volume whose count rose meanwhile gives none.
pub record AreLabelsRead (old new : PlantState) (labels : List NamedDevice) : Type 0 where
  pub are : AreLabels old new 0 labels
  pub faultless : All (IsFaultless old new) labels

-- A volume was named by its label, after others. If it gave one, its count is as before.
pub record NamesLabel (old new : PlantState) (device : ℕ) (names named : Naming) : Type 0 where
  pub labels : List NamedDevice
  pub gives : GivesLabel old new device labels
  pub faultless : All (IsFaultless old new) labels
  pub are : named ≡ record names { labels = names.labels ++ labels }

-- A run is what a script was run over: the session's name, the traces of what the sources gave, the labels that volumes had, and as many faults of
-- volumes as their counts rose by. Its level is that of the start that was answered.
pub record IsRunOfScript (session : List ℕ) (sources : List SourceBytes) (old new : PlantState) (run : ScriptRun) : Type 0 where
  pub name : run.session ≡ session
  pub traces : AreTracesGiven sources run.traces
  pub labels : AreLabels old new 0 run.labels
  pub rises : (d : ℕ) → old.faults (Volume d) + run.rises d ≡ new.faults (Volume d)

-- ---- a bad line

-- What was heard after the answered lines is no line that counts: it is too long, outside the grammar, before the last one's time, or number
-- 100,001.
abbrev pub IsBadAfter : (tells : Type 0) → List Answered → (text left : List ℕ) → Type 0
IsBadAfter tells lines text left = IsNextLine tells (length lines + 1) (last_line_time lines (length lines)) text left Bad

-- A run stopped after its lines. The stop is that of a bad line exactly if one was heard, with its number. A last line without a line feed is heard
-- only once the script's end was told, which the console may fail to do. After a line after which the session has ended all stays applied,
-- and no device stops the run.
pub record StopsAtLine (tells : Type 0) (run : ScriptRun) (lines : List Answered) (text : List ℕ) (began now : PlantState) (stop : Stop) : Type 0 where
  pub stops : StopsInLine run lines text began now stop
  pub bad : IsBadAfter tells lines text now.script → (stop ≡ BadLine (length lines + 1)) ⊎ ((stop ≡ ConsoleFault) × (has_feed text ≡ false))
  pub of_bad : (n : ℕ) → stop ≡ BadLine n → (n ≡ length lines + 1) × IsBadAfter tells lines text now.script
  pub applied : StaysApplied run lines began now
  pub after_end : IsTrue (stage_at run lines (length lines)).table.is_ended → IsStopAfterEnd stop

-- How the lines of a script end: the script was heard to its end and each line was answered, or the run stopped after its lines.
abbrev pub EndsLines : {S : Type 0} → (tells : Type 0) → ScriptRun → SessionState → List (Lane S) → (began now : PlantState) → Result (Unit {0}) Stop → Type 0
EndsLines tells run s lanes began now (Ok done) = (lines : List Answered) × ((trail : Trail) × HasAnswered run lines trail [] s lanes began now) × (now.script ≡ [])
EndsLines tells run s lanes began now (Err stop) = (lines : List Answered) × ((text : List ℕ) × StopsAtLine tells run lines text began now stop)

-- ---- the whole

-- The counts of volumes end below the largest number.
abbrev pub AreCountsBelow : PlantState → Type 0
AreCountsBelow plant = (d : ℕ) → plant.faults (Volume d) < most_faults

-- How a run of a script ends: done, or stopped after its lines, where so much was heard of the next one.
abbrev pub EndsScript : (tells : Type 0) → ScriptRun → List Answered → (text : List ℕ) → (began now : PlantState) → Result (Unit {0}) Stop → Type 0
EndsScript tells run lines text began now (Ok done) = (text ≡ []) × ((trail : Trail) × IsRunDone run lines trail began now) × StaysApplied run lines began now
EndsScript tells run lines text began now (Err stop) = StopsAtLine tells run lines text began now stop

-- What a run of a script has done when it ends, once its headers were good: its run, the lines that it answered, and what was heard of the next one.
pub record RunsScript (tells : Type 0) (session : List ℕ) (sources : List SourceBytes) (old new : PlantState) (result : Result (Unit {0}) Stop) : Type 0 where
  pub run : ScriptRun
  pub over : IsRunOfScript session sources old new run
  pub lines : List Answered
  pub text : List ℕ
  pub ends : EndsScript tells run lines text old new result

-- A session by which runs are known: its name is this, and its labels are those that volumes began with.
pub record IsKnownSession (session : List ℕ) (old new : PlantState) (s : SessionState) : Type 0 where
  pub name : s.session ≡ session
  pub labels : IfSome s.site (λ site. AreLabels old new 0 s.names.labels)

-- In each run over what its lanes read and its volumes failed, the lines are answered to the script's end, or the run stops after some.
--   known: the session by which such a run is known. It is the one after the lines, if they were all answered
pub record RunsLines {S : Type 0} (tells : Type 0) (left : S → Option (List ℕ)) (session : List ℕ) (next : SessionState) (lanes after : List (Lane S)) (old new : PlantState) (result : Result (Unit {0}) Stop) : Type 0 where
  pub known : SessionState
  pub is_known : IsKnownSession session old new known
  pub last : OnOk result (known ≡ next)
  pub each : (run : ScriptRun) → IsRunOver left run known lanes after old new → EndsLines tells run next after old new result

-- Over sources that tell their bytes, and whose headers are good, where counts end below the largest number, the script is run.
abbrev pub RunsTold : {S : Type 0} → (tells : Type 0) → (left : S → Option (List ℕ)) → (faults : S → ℕ) → (session : List ℕ) → (storage : ℕ) → (before now : List (Lane S)) → (old new : PlantState) → Result (Unit {0}) Stop → Type 0
RunsTold tells left faults session storage before now old new result = (sources : List SourceBytes) → AreCountsBelow new → AllTold left faults before now sources → opening_stop storage old sources ≡ None
    → RunsScript tells session sources old new result
