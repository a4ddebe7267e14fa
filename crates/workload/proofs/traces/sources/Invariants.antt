use Rattle.std.proofs.Common.{◌≡◌, map}
use Rattle.std.specs.List.{range_with_len}
use Rattle.workload.specs.Traces.{generated_source}
use Rattle.workload.proofs.traces.sources.Given as goal

-- the sources so far
abbrev pub invariant-loop-control : goal.invariant-loop-control
invariant-loop-control l = l.sources.items ≡ map (generated_source l.number) (range_with_len 0 l.control)
