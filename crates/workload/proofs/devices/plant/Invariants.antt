use Rattle.crash_plant.specs.PlainPlant.{plain_state}
use Rattle.workload.specs.Sites.{IsLabelledUpTo}
use Rattle.workload.proofs.devices.plant.Given as goal

-- the volumes before this one
abbrev pub invariant-loop-device : goal.invariant-loop-device
invariant-loop-device l = IsLabelledUpTo l.device (plain_state l.initial.plant) (plain_state l.plant)
