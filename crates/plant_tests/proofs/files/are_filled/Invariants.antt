use Rattle.crash_plant.specs.Calls.{NoneLent}
use Rattle.plant_tests.proofs.files.are_filled.Given as goal

abbrev pub invariant-loop-device : goal.invariant-loop-device
invariant-loop-device g l = NoneLent (g.P.Plant.state l.plant)
