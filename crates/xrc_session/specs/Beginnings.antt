-- What a session has that has just started.
use Rattle.std.specs.Prelude.{◌≡◌, ℕ, ◌≤◌, [], length, false, Option}
use Rattle.ckd_track.specs.declared.layout.TheConstants.{WRITES_OF_RUN}
use Rattle.xrc_edge.specs.declared.limits.TheConstants.{MOST_CONTROLS}
use Rattle.tod_stamp.specs.declared.stamp.Stamp.{Stamp}
use Rattle.crash_plant.specs.declared.device.Device.TheVariants.{Volume}
use Rattle.crash_plant.specs.Moments.{PlantState}
use Rattle.xrc_command.specs.declared.line.Line.{Line}
use Rattle.state_set.specs.Slots.{started_table}
use Rattle.group_state.specs.Groups.{Group, new_group}
use Rattle.consistency.specs.Stages.{ScriptRun, Stage}
use Rattle.fed_logs.specs.Logs.{Sizes}
use Rattle.consistency.specs.Ways.{leg_at}
use Rattle.site_store.specs.Sites.{SiteState, new_site}
use Rattle.site_store.specs.Standing.{FitsPlant, SiteStands, none_excepted}
use Rattle.mover.specs.Bearing.{RunSoFar, StandsSoFar}

-- the stage of a session that has just started at a time: it has no row, nothing has changed yet, and this line comes next
abbrev pub stage_at_start : ScriptRun → (time : ℕ) → (next : Option Line) → Stage
stage_at_start run time next = record { table = started_table run.session []; replied = time; past = []; next = next }

-- the run so far, after so many lines: no track is excepted, and no plan is known to be done
abbrev pub run_at_start : ScriptRun → Stage → (answered : ℕ) → Sizes → (counts : (device : ℕ) → ℕ) → RunSoFar
run_at_start run stage answered size counts =
    record { run = run; stage = stage; leg = leg_at stage answered; size = size; counts = counts; excepted = none_excepted; done = λ k v. false }

-- A run's session has just started at a time, on a plant that tells its bytes. A new state is shared for it, with a controller for each trace.
pub record HasJustStarted (tells : Type 0) (run : ScriptRun) (time : Stamp) (counts : (device : ℕ) → ℕ) (group : Group) (site : SiteState) (plant : PlantState) : Type 0 where
  pub told : tells
  pub controls : ℕ
  pub records : ℕ
  pub blocks : ℕ
  pub some : 1 ≤ controls
  pub few : controls ≤ MOST_CONTROLS
  pub most : records ≤ WRITES_OF_RUN
  pub shared : group ≡ new_group controls records blocks
  pub many : length run.traces ≡ controls
  pub volumes : ℕ
  pub is_new : site ≡ new_site controls volumes run.session run.level time
  pub fits : FitsPlant site plant
  pub stands : SiteStands none_excepted site plant
  pub counted : (d : ℕ) → counts d ≤ plant.faults (Volume d)

-- It has what an epoch begins with, whatever line comes next.
abbrev pub StartedSessionsStand : (tells : Type 0) → PlantState → Type 0
StartedSessionsStand tells plant =
    (run : ScriptRun) (time : Stamp) (next : Option Line) (answered : ℕ) (size : Sizes) (counts : (device : ℕ) → ℕ) (group : Group) (site : SiteState) → HasJustStarted tells run time counts group site plant
    → StandsSoFar (run_at_start run (stage_at_start run time.0 next) answered size counts) group site plant
