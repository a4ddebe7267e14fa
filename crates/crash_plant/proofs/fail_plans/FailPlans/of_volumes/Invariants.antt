use Rattle.std.proofs.Common.{◌≡◌, ◌<◌, ℕ, [], length}
use Rattle.std.specs.Prelude.{Some}
use Rattle.crash_plant.specs.declared.device.Device.TheVariants.{Volume}
use Rattle.crash_plant.specs.Devices.{seen_at}
use Rattle.crash_plant.specs.Failures.{planned_at}
use Rattle.crash_plant.specs.FailPlans.{plan_faults, plan_items}
use Rattle.crash_plant.proofs.fail_plans.FailPlans.of_volumes.Given as goal

abbrev pub invariant-loop-i : goal.invariant-loop-i
invariant-loop-i l = record {
  number : length l.plans.items ≡ l.i;
  faults : (v : ℕ) → v < l.i → seen_at plan_faults 0 l.plans.items v ≡ 0;
  planned : (v : ℕ) → v < l.i → seen_at plan_items [] l.plans.items v ≡ planned_at (Some (Volume v)) l.fails;
}
