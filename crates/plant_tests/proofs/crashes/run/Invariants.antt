use Rattle.crash_plant.specs.Calls.{NoneLent}
use Rattle.crash_plant.specs.MemoryPlant.{memory_state}
use Rattle.plant_tests.proofs.crashes.run.Given as goal

abbrev pub invariant-loop-step : goal.invariant-loop-step
invariant-loop-step g l = NoneLent (memory_state l.plant)
