use Rattle.crash_plant.specs.Calls.{NoneLent}
use Rattle.crash_plant.specs.MemoryPlant.{memory_state}
use Rattle.plant_tests.proofs.plants.run.Given as goal

abbrev pub invariant-loop-number : goal.invariant-loop-number
invariant-loop-number g l = NoneLent (memory_state l.plant)
