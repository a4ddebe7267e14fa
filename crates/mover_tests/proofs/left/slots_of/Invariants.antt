use Rattle.crash_plant.specs.Calls.{NoneLent}
use Rattle.mover_tests.proofs.left.slots_of.Given as goal

abbrev pub invariant-loop-track : goal.invariant-loop-track
invariant-loop-track g l = NoneLent (g.P.Plant.state l.plant)
