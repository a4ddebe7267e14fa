use Rattle.crash_plant.specs.Calls.{NoneLent}
use Rattle.crash_plant.specs.PlainPlant.{plain_state}
use Rattle.workload_tests.proofs.finished.put_tracks.Given as goal

-- No volume is lent.
abbrev pub invariant-loop-place : goal.invariant-loop-place
invariant-loop-place g l = NoneLent (plain_state l.plant)
