use Rattle.std.proofs.Common.{arith}
use Rattle.workload.specs.Traces.{generated_bases, generated_entries, generated_volumes}
use Rattle.workload.proofs.Entries.{entries_keep_rules, trace_length}
use Rattle.workload.proofs.GoodTraces.{spelled_is_trace}
use Rattle.workload.proofs.Headers.{headers_keep_rules, volumes_keep_rules}
use Rattle.workload.proofs.laws.traces_are_good.Goals as goal

pub returns : goal.returns
returns c = λ number control few.
    spelled_is_trace (generated_volumes control) generated_bases (generated_entries number control) (headers_keep_rules control few) (omega arith) (volumes_keep_rules control few) (entries_keep_rules number control few)
    (omega (arith, trace_length number control))
