-- The status that the run of a generated input ends with, and what was said by then.
use Rattle.std.specs.Prelude.{◌≡◌, ℕ, ◌+◌, ◌≤◌, List, [], None, Some, map}
use Rattle.xrc_edge.specs.Causes.{Rose}
use Rattle.xrc_edge.specs.MemorySources.{MemoryState}
use Rattle.crash_plant.specs.declared.plain_plant.PlainPlant.{PlainPlant}
use Rattle.crash_plant.specs.Moments.{PlantState}
use Rattle.crash_plant.specs.PlainPlant.{plain_state}
use Rattle.site_means.specs.declared.means.Means.{Means}
use Rattle.site_means.specs.Answers.{Mean}
use Rattle.site_means.specs.Meaning.{meaning}
use Rattle.mover.specs.declared.lane.Lane.{Lane}
use Rattle.workload.specs.declared.layout.TheConstants.{CONTROLS}
use Rattle.workload.specs.Scripts.{generated_session}
use Rattle.workload.specs.Sites.{HoldsInput}
use Rattle.workload.specs.Summaries.{summary_line}
use Rattle.workload.specs.Traces.{generated_sources}
use Rattle.xrc_status.specs.declared.stop.Stop.TheVariants.{NoMemory}
use Rattle.xrc_status.specs.Saying.{SaysFront, SaysLast, SaysWhole}
use Rattle.xrc_status.specs.Stops.{last_line}
use Rattle.xrc_cli.specs.Statuses.{EndsScriptRun}

-- ---- the run in memory

-- No call on a source in memory is marked to fail.
abbrev pub HasNoMarks : MemoryState → Type 0
HasNoMarks source = source.fails ≡ []

-- a lane whose source wasn't called yet
abbrev pub unread_lane : MemoryState → Lane MemoryState
unread_lane source = record { source = source; reader = None }

-- A line sums up what the devices of a plant mean and hold.
pub record SumsUp (number : ℕ) (plant : PlantState) (line : List ℕ) : Type 0 where
  pub means : Means
  pub meant : Mean (meaning plant plant.bytes) means
  pub is : line ≡ summary_line number plant.bytes means

-- A line sums up what a run of the input of a number left: the generated script was run over the generated traces and devices, as the command that
-- runs a session does it, to status 0.
--   done: a generated source never fails, and its count of faults is always 0
pub record SumsUpRun (number : ℕ) (line : List ℕ) : Type 0 where
  pub made : PlainPlant
  pub ran : PlainPlant
  pub lanes : List (Lane MemoryState)
  pub input : HoldsInput (plain_state made)
  pub done : EndsScriptRun (Unit {0}) plain_state (λ source. Some source.left) (λ source. 0) generated_session CONTROLS (map unread_lane (generated_sources number)) lanes made ran 0
  pub sums : SumsUp number (plain_state ran) line

-- ---- the whole

-- What is so where the command has ended with a status, which is 0, 1 or 3. Of the plant only the console is called.
pub data EndsGenerating (tells : Type 0) (number : ℕ) (old new : PlantState) : (status : ℕ) → Type 0 where
  -- The line of a run was said whole, and nothing else.
  Done : (line : List ℕ) → SumsUpRun number line → SaysWhole tells line old new → EndsGenerating tells number old new 0
  -- There was no memory for the run.
  WantsMemory : SaysLast tells (last_line NoMemory) old new → EndsGenerating tells number old new 1
  -- The console failed, its count rose by one at most, and at every moment a front of the line of a run was said.
  ConsoleFailed : (line : List ℕ) → SumsUpRun number line → SaysFront tells line old new → Rose old.console_faults new.console_faults → new.console_faults ≤ old.console_faults + 1 → EndsGenerating tells number old new 3
