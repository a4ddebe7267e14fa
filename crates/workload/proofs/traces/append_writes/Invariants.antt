use Rattle.std.proofs.Common.{◌≡◌, ◌++◌, map}
use Rattle.std.specs.List.{flat_map, range_with_len}
use Rattle.write_trace.specs.Entries.{entry_spelling}
use Rattle.workload.specs.Traces.{generated_entry}
use Rattle.workload.proofs.traces.append_writes.Given as goal

-- the entries so far
abbrev pub invariant-loop-place : goal.invariant-loop-place
invariant-loop-place l = l.out ≡ l.fn.out ++ flat_map (entry_spelling 1) (map (generated_entry l.number l.control) (range_with_len 0 l.place))
