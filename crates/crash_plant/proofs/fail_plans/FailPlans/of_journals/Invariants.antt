use Rattle.std.proofs.Common.{◌≡◌, ◌<◌, ℕ, [], length}
use Rattle.std.specs.Prelude.{Some}
use Rattle.crash_plant.specs.declared.device.Device.TheVariants.{Journal}
use Rattle.crash_plant.specs.Devices.{seen_at}
use Rattle.crash_plant.specs.Failures.{planned_at}
use Rattle.crash_plant.specs.FailPlans.{plan_faults, plan_items}
use Rattle.crash_plant.proofs.fail_plans.FailPlans.of_journals.Given as goal

abbrev pub invariant-loop-i : goal.invariant-loop-i
invariant-loop-i l = record {
  number : length l.plans.items ≡ l.i;
  faults : (j : ℕ) → j < l.i → seen_at plan_faults 0 l.plans.items j ≡ 0;
  planned : (j : ℕ) → j < l.i → seen_at plan_items [] l.plans.items j ≡ planned_at (Some (Journal j)) l.fails;
}
