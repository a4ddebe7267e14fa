use Rattle.std.proofs.Common.{◌++◌, ◌∙◌, List, ℕ, sym, subst, ap}
use Rattle.std.specs.List.{flat_map}
use Rattle.std.specs.Prelude.{IsTrue}
use Rattle.write_trace.specs.declared.header.Header.{Header}
use Rattle.write_trace.specs.Entries.{entry_spelling}
use Rattle.write_trace.specs.Headers.{header_spelling, is_header}
use Rattle.workload.specs.Traces.{generated_entries}
use Rattle.workload.proofs.Headers.{headers_keep_rules}
use Rattle.workload.proofs.traces.trace.Goals as goal

pub header-requires-2 : goal.header-requires-2
header-requires-2 c = subst (λ (h : Header). IsTrue (is_header h)) (sym c.in_ok-header.ensures) (headers_keep_rules c.args.control c.requires)

pub returns : goal.returns
returns c =
    let entries = flat_map (entry_spelling 1) (generated_entries c.args.number c.args.control) in
    c.in_ok-append_writes.ensures ∙ ap (λ (l : List ℕ). l ++ entries) (c.in_ok-header-2.ensures.ok ∙ ap (λ (l : List ℕ). l ++ header_spelling c.in_ok-header.field-0) c.make-bytes.ensures)
    ∙ ap (λ (h : Header). header_spelling h ++ entries) c.in_ok-header.ensures
