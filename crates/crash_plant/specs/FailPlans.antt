-- The counts of a plant whose calls fail by plan, and what is planned there.
use Rattle.std.specs.Prelude.{◌≡◌, ◌≢◌, ◌<◌, ◌||◌, ℕ, Bool, List, [], length, map}
use Rattle.std.specs.List.{list_any}
use Rattle.crash_plant.specs.declared.device.Device.{Device}
use Rattle.crash_plant.specs.declared.device.Device.TheVariants.{Control, State, Journal, Volume}
use Rattle.crash_plant.specs.declared.fail_plan.FailPlan.{FailPlan}
use Rattle.crash_plant.specs.declared.fail_plan.Planned.{Planned}
use Rattle.crash_plant.specs.declared.fail_plans.FailPlans.{FailPlans}
use Rattle.crash_plant.specs.Devices.{seen_of}
use Rattle.crash_plant.specs.Failures.{after_call, fails_now, is_stopping}

abbrev pub plan_faults : FailPlan → ℕ
plan_faults plan = plan.faults

abbrev pub plan_items : FailPlan → List Planned
plan_items plan = plan.planned.items

abbrev pub faults_of : FailPlans → Device → ℕ
faults_of plans d = seen_of plan_faults plan_faults 0 plans.control plans.state plans.journals.items plans.volumes.items d

abbrev pub planned_of : FailPlans → Device → List Planned
planned_of plans d = seen_of plan_items plan_items [] plans.control plans.state plans.journals.items plans.volumes.items d

-- there is a plan for the device
abbrev pub IsPlanned : FailPlans → Device → Type 0
IsPlanned plans Control = Unit {0}
IsPlanned plans State = Unit {0}
IsPlanned plans (Journal j) = j < length plans.journals.items
IsPlanned plans (Volume v) = v < length plans.volumes.items

-- whether a call on the device fails that is made when so many bytes are said
abbrev pub is_failing : FailPlans → ℕ → Device → Bool
is_failing plans said device = plans.is_stopped || list_any (fails_now said) (planned_of plans device)

-- whether such a call on the console fails
abbrev pub is_console_failing : FailPlans → ℕ → Bool
is_console_failing plans said = plans.is_stopped || list_any (fails_now said) plans.console.planned.items

-- A call on the device was counted, and no other.
pub record Counts (said : ℕ) (device : Device) (old new : FailPlans) : Type 0 where
  pub here : planned_of new device ≡ map (after_call said) (planned_of old device)
  pub others : (d : Device) → d ≢ device → planned_of new d ≡ planned_of old d
  pub console : new.console.planned.items ≡ old.console.planned.items
  pub stops : new.is_stopped ≡ (old.is_stopped || list_any (is_stopping said) (planned_of old device))

-- A call on the console was counted, and no other.
pub record CountsConsole (said : ℕ) (old new : FailPlans) : Type 0 where
  pub here : new.console.planned.items ≡ map (after_call said) old.console.planned.items
  pub devices : (d : Device) → planned_of new d ≡ planned_of old d
  pub stops : new.is_stopped ≡ (old.is_stopped || list_any (is_stopping said) old.console.planned.items)
