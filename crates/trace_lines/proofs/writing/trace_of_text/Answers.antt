use Rattle.std.proofs.Common.{rules, ◌≡◌, ℕ, List, ◌++◌, length, nat_eq, false, ap, Ok, ◌∙◌}
use Rattle.write_trace.specs.Headers.{header_spelling}
use Rattle.trace_lines.specs.Traces.{said_by}
use Rattle.trace_lines.proofs.Drafts.{trace_said}
use Rattle.trace_lines.proofs.writing.trace_of_text.Goals as goal

pub returns : goal.returns
returns c =
    let none : length c.loop-rest.rest.now ≡ 0 = search rules in
    let some : nat_eq (length c.loop-rest.draft.header.volumes) 0 ≡ false = search rules in
    let bytes : header_spelling c.loop-rest.draft.header ++ c.loop-rest.draft.entries ≡ c.in_ok-into_trace.field-0 = search rules in
    trace_said c.loop-rest.number (said_by c.loop-rest.draft) c.args.text.now c.loop-rest.rest.now none some c.loop-rest.invariant.0 ∙ ap (λ (b : List ℕ). Ok b) bytes
