use Rattle.crash_plant.specs.Calls.{NoneLent}
use Rattle.crash_plant.specs.PlainPlant.{plain_state}
use Rattle.workload_tests.proofs.inputs.devices_are_labelled.Given as goal

-- No volume is lent.
abbrev pub invariant-loop-device : goal.invariant-loop-device
invariant-loop-device g l = NoneLent (plain_state l.plant)
