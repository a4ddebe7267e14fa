use Rattle.crash_plant.specs.Calls.{NoneLent}
use Rattle.crash_plant.specs.FilePlant.{file_state}
use Rattle.plant_tests.proofs.files.files_are_a_plant.Given as goal

abbrev pub invariant-loop-name : goal.invariant-loop-name
invariant-loop-name g l = NoneLent (file_state l.plant.control l.plant.state l.plant.journals.items l.plant.volumes.items l.plant.console.faults)
