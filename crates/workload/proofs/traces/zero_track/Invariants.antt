use Rattle.std.proofs.Common.{◌≡◌, map}
use Rattle.std.specs.List.{range_with_len}
use Rattle.workload.specs.Traces.{zero_record}
use Rattle.workload.proofs.traces.zero_track.Given as goal

-- the records so far
abbrev pub invariant-loop-number : goal.invariant-loop-number
invariant-loop-number l = l.track ≡ map zero_record (range_with_len 1 l.number)
