use Rattle.std.proofs.Common.{◌≡◌, map}
use Rattle.std.specs.List.{range_with_len}
use Rattle.workload.specs.Traces.{generated_base}
use Rattle.workload.proofs.traces.base_tracks.Given as goal

-- the tracks so far
abbrev pub invariant-loop-number : goal.invariant-loop-number
invariant-loop-number l = l.base ≡ map generated_base (range_with_len 0 l.number)
