use Rattle.std.proofs.Common.{◌≡◌, map}
use Rattle.std.specs.List.{range_with_len}
use Rattle.workload.specs.Traces.{generated_volume}
use Rattle.workload.proofs.traces.volumes.Given as goal

-- the volumes so far
abbrev pub invariant-loop-volume : goal.invariant-loop-volume
invariant-loop-volume l = l.volumes ≡ map (generated_volume l.control) (range_with_len 0 l.volume)
