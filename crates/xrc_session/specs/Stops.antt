-- Why a session stops, and how its run stands then.
use Rattle.std.specs.Prelude.{◌≡◌, ◌⊎◌, ℕ, ◌+◌, ◌≤◌, ◌<◌, List, [], ◌∷◌, ◌++◌, length, take, Option, Some, None, Ok, Result, IsErrOf, IsTrue}
use Rattle.xrc_edge.specs.Causes.{Rose}
use Rattle.crash_plant.specs.declared.device.Device.{Device}
use Rattle.crash_plant.specs.declared.device.Device.TheVariants.{Control, State, Journal, Volume}
use Rattle.crash_plant.specs.Choices.{AtNow}
use Rattle.crash_plant.specs.Moments.{PlantState}
use Rattle.control_set.specs.declared.value.Mark.{Mark}
use Rattle.site_means.specs.declared.means.Means.{Means}
use Rattle.site_means.specs.Images.{shape_of}
use Rattle.site_means.specs.Meaning.{chosen_in, meaning}
use Rattle.site_means.specs.Meaning.Meaning.{Meant}
use Rattle.site_means.specs.Walk.{Walk}
use Rattle.xrc_command.specs.declared.line.Line.{Line}
use Rattle.site_store.specs.declared.store_error.StoreError.{StoreError}
use Rattle.site_store.specs.declared.store_error.StoreError.TheVariants as store
use Rattle.site_store.specs.Records.{IsStore}
use Rattle.site_store.specs.Placements.{most}
use Rattle.consistency.specs.Stages.{ScriptRun}
use Rattle.consistency.specs.Courses.{Answered, AreAsked, IsCourse, replies_of, texts_of}
use Rattle.consistency.specs.Moments.{BearsThroughout, BearsTime}
use Rattle.consistency.specs.Pauses.{RunGoesOn}
use Rattle.consistency.specs.Leads.{Point}
use Rattle.xrc_status.specs.declared.stop.Stop.{Stop}
use Rattle.xrc_status.specs.declared.stop.Stop.TheVariants as stops
use Rattle.xrc_session.specs.AppliedEnds.{IsAllApplied, StaysAppliedAfter}
use Rattle.xrc_session.specs.LinePauses.{stage_after_text}
use Rattle.xrc_session.specs.Trails.{AreExact, GoesForth, Trail, HasBegunTrail, StandsOnTrail}

-- ---- which stop

-- a device that failed; a volume that fails stops no session
abbrev pub stop_of_device : Device → Stop
stop_of_device Control = stops.ControlFault
stop_of_device State = stops.StateFault
stop_of_device (Journal j) = stops.JournalFault j
stop_of_device (Volume v) = stops.VolumeFault

-- a site that can't go on
abbrev pub stop_of_store : StoreError → Stop
stop_of_store (store.Fault d) = stop_of_device d
stop_of_store store.Spent = stops.Spent
stop_of_store store.NoMemory = stops.NoMemory

-- ---- why

-- What is so where a line stops a session: the count of what failed rose. Memory is free, and numbers are told by the devices.
abbrev pub HasStopCause : (old new : PlantState) → Stop → Type 0
HasStopCause old new stops.ConsoleFault = Rose old.console_faults new.console_faults
HasStopCause old new (stops.JournalFault j) = Rose (old.faults (Journal j)) (new.faults (Journal j))
HasStopCause old new stops.ControlFault = Rose (old.faults Control) (new.faults Control)
HasStopCause old new stops.StateFault = Rose (old.faults State) (new.faults State)
HasStopCause old new stops.Spent = Unit {0}
HasStopCause old new stops.NoMemory = Unit {0}
HasStopCause old new (stops.BadLine n) = ⊥
HasStopCause old new stops.BadWords = ⊥
HasStopCause old new (stops.BadHeader k place) = ⊥
HasStopCause old new (stops.HeaderFault k) = ⊥
HasStopCause old new stops.NoSession = ⊥
HasStopCause old new (stops.OtherSession name) = ⊥
HasStopCause old new (stops.Damaged d place) = ⊥
HasStopCause old new stops.VolumeFault = ⊥
HasStopCause old new (stops.TooSmall d needed) = ⊥
HasStopCause old new stops.BadSite = ⊥

-- The same of a run of a script, which may stop at a bad line, too.
abbrev pub HasRunCause : (old new : PlantState) → Stop → Type 0
HasRunCause old new stop = HasStopCause old new stop ⊎ ((n : ℕ) × (stop ≡ stops.BadLine n))

-- The stops of a run whose session has ended, where no device is called: a want of memory, a fault of the console, or a bad line.
abbrev pub IsStopAfterEnd : Stop → Type 0
IsStopAfterEnd stop = (stop ≡ stops.NoMemory) ⊎ ((stop ≡ stops.ConsoleFault) ⊎ ((n : ℕ) × (stop ≡ stops.BadLine n)))

-- No count of the console, the control, the state or a journal rises but with its own stop, and none falls. The console's rises by one at most.
pub record StopsByCount {T : Type 0} (old new : PlantState) (result : Result T Stop) : Type 0 where
  pub devices : (d : Device) → IsStore d → ¬ IsErrOf result (stop_of_device d) → new.faults d ≡ old.faults d
  pub console : ¬ IsErrOf result stops.ConsoleFault → new.console_faults ≡ old.console_faults
  pub later : (d : Device) → old.faults d ≤ new.faults d
  pub console_later : old.console_faults ≤ new.console_faults
  pub console_once : new.console_faults ≤ old.console_faults + 1

-- ---- numbers

-- The mark that counts has the greatest number, or the next record would need a number after the greatest, with the switch that it may need.
pub record AreNumbersSpent (plant : PlantState) (images : (d : Device) → List ℕ) : Type 0 where
  pub mark : Mark
  pub chosen : chosen_in (shape_of plant) images ≡ Ok (Some mark)
  pub means : Means
  pub walk : Walk
  pub meant : meaning plant images ≡ Meant means walk
  pub spent : (mark.number ≡ most) ⊎ (most ≤ walk.at.number)

-- So it is with whatever a crash leaves now.
abbrev pub IsSpentNow : PlantState → Type 0
IsSpentNow plant = AtNow (AreNumbersSpent plant) plant

-- ---- how a run stands

-- The console failed within the reply to a line: a front of it was said after the replies to the lines before, and each moment bears.
--   applied: where the session has ended after the line, all is applied and marked
--   stays: if the plant keeps its past, so it was from the first byte of the line's reply on
--   bears_now: whatever a crash leaves bears a time after the line, also on a plant that keeps no past
pub record RepliesInPart (run : ScriptRun) (lines : List Answered) (a : Answered) (began now : PlantState) : Type 0 where
  pub course : IsCourse run (lines ++ a ∷ [])
  pub asked : AreAsked began.script (lines ++ a ∷ [])
  pub heard : now.heard now.clock ≡ began.heard began.clock ++ texts_of (lines ++ a ∷ [])
  pub script : began.script ≡ texts_of (lines ++ a ∷ []) ++ now.script
  pub front : (k : ℕ) × (k ≤ length a.reply) × (now.said now.clock ≡ began.said began.clock ++ (replies_of lines ++ take k a.reply))
  pub bears : 0 < began.clock → BearsThroughout run (lines ++ a ∷ []) began now
  pub applied : IsTrue (stage_after_text run (lines ++ a ∷ []) [] began).table.is_ended → IsAllApplied now now.clock
  pub stays : 0 < began.clock → IsTrue (stage_after_text run (lines ++ a ∷ []) [] began).table.is_ended → StaysAppliedAfter lines began now
  pub bears_now : let s = stage_after_text run (lines ++ a ∷ []) [] began in IsTrue s.table.is_started → AtNow (BearsTime run s (replies_of (lines ++ a ∷ [])) now) now

-- How a run stands when a call stops it: the replies to the answered lines were said and nothing more, and so much was heard of the next line.
-- Only where the console failed part of that line's reply may have been said.
abbrev pub StandsStopped : ScriptRun → List Answered → (text : List ℕ) → (part : Option Answered) → (began now : PlantState) → Stop → Type 0
StandsStopped run lines text None began now stop = RunGoesOn run lines text began now
StandsStopped run lines text (Some a) began now stop = (stop ≡ stops.ConsoleFault) × (a.text ≡ text) × RepliesInPart run lines a began now

-- the lines of which something was said, and the one that was heard whole after them
abbrev pub lines_said : List Answered → (part : Option Answered) → List Answered
lines_said lines None = lines
lines_said lines (Some a) = lines ++ a ∷ []

abbrev pub line_asked : (heard : Option Line) → (part : Option Answered) → Option Line
line_asked heard None = heard
line_asked heard (Some a) = None

-- A run is stopped. Its devices have gone forth, if the session has started, and each reply of which something was said is exact. Without a start
-- no point was passed.
pub record IsStopped (run : ScriptRun) (lines : List Answered) (trail : Trail) (text : List ℕ) (began now : PlantState) (stop : Stop) : Type 0 where
  pub part : Option Answered
  pub stands : StandsStopped run lines text part began now stop
  pub exact : AreExact run (lines_said lines part) trail
  pub unstarted : trail.started ≡ 0 → trail.points ≡ []
  pub begun : HasBegunTrail run (lines_said lines part) trail
  pub next : Option Point
  pub on_trail : 0 < trail.started → StandsOnTrail run (lines_said lines part) (line_asked (stage_after_text run lines text began).next part) trail next now
  pub goes_forth : 0 < began.clock → 0 < trail.started → GoesForth run (lines_said lines part) (line_asked (stage_after_text run lines text began).next part) trail next began now
