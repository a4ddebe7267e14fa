use Rattle.std.proofs.Common.{◌≡◌, [], List, ℕ, IfOk, subst}
use Rattle.xrc_edge.specs.MemorySources.{MemoryState, fresh}
use Rattle.workload.specs.declared.layout.TheConstants.{MOST_OF_PULL}
use Rattle.workload.proofs.traces.source.Goals as goal

pub returns : goal.returns
returns c =
    let same = λ (b f : List ℕ). IfOk c.make-2.result (λ (s : MemoryState). s ≡ fresh b MOST_OF_PULL f) in
    subst (λ (b : List ℕ). same b []) c.in_ok-bytes.ensures (subst (λ (f : List ℕ). same c.in_ok-bytes.bytes f) c.make.ensures c.make-2.ensures)
