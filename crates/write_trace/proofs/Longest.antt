-- The entries of a trace are the longest row that its bytes begin with.
use Rattle.std.proofs.Common.{◌≡◌, ℕ, ◌+◌, ◌-◌, ◌≤◌, Bool, true, ◌&&◌, List, [], ◌++◌, length, take, drop, Result, Ok, Err, refl, sym, ap, subst, ◌∙◌, append_assoc, length-append, length-take, arith}
use Rattle.std.specs.List.{flat_map}
use Rattle.std.proofs.lemmas.Bool.{leb-true}
use Rattle.std.proofs.lemmas.List.{take-append-drop}
use Rattle.std.proofs.Math.Seq.{take-append-add}
use Rattle.tod_stamp.specs.Fields.{IsBytes, Left, Bad, within, is_version}
use Rattle.tod_stamp.proofs.FieldLaws.{IsBytes-take, at_place, Takes-then}
use Rattle.write_trace.specs.declared.header.Header.{Header}
use Rattle.write_trace.specs.declared.entry.Entry.{Entry}
use Rattle.write_trace.specs.declared.trace.Trace.{Trace}
use Rattle.write_trace.specs.declared.trace.HeaderError.{HeaderError}
use Rattle.write_trace.specs.Headers.{header_spelling, are_volumes, are_bases, is_header, header_at}
use Rattle.write_trace.specs.Entries.{entry_spelling}
use Rattle.write_trace.specs.WholeTraces.{most_bytes, whole_trace, bad_start, entries_from, after_header, trace_of}
use Rattle.write_trace.specs.Laws.{BeginsWithEntries, EntriesAreLongest, TracesAreFound}
use Rattle.write_trace.proofs.FieldSteps.{both_true}
use Rattle.write_trace.proofs.HeaderReads.{header_takes}
use Rattle.write_trace.proofs.HeaderAgain.{headers_back}
use Rattle.write_trace.proofs.EntryRows.{row_takes, row_again, row_length}

-- the first bytes of some text, and those that stand within a limit after it
front_within : (n : ℕ) (text rest : List ℕ) → length text ≤ n → take n (text ++ rest) ≡ text ++ take (n - length text) rest
front_within n text rest le =
    let whole : n ≡ length text + (n - length text) = omega arith in
    ap (λ k. take k (text ++ rest)) whole ∙ take-append-add text rest (n - length text)

-- the rules of a header's volumes
header_volumes : (h : Header) → is_header h ≡ true → (length h.volumes ≤ 32) × (are_volumes h.version [] h.volumes ≡ true)
header_volumes h is =
    let a = both_true (is_version h.version && within 1 32 (length h.volumes) && are_volumes h.version [] h.volumes) (are_bases h.volumes (0, 0) h.base) is in
    let b = both_true (is_version h.version && within 1 32 (length h.volumes)) (are_volumes h.version [] h.volumes) a.0 in
    let c = both_true (is_version h.version) (within 1 32 (length h.volumes)) b.0 in
    (leb-true (length h.volumes) 32 (both_true _ _ c.1).1, b.1)

-- ---- what a trace is, by its header

-- the header and entries that were read from what is left after the header
abbrev trace_after : (failed : Bool) → List ℕ → Header × Left → Trace
trace_after failed given h = after_header failed given h.0 (entries_from (length h.1.bytes) h.0.version h.0.volumes 0 h.1)

abbrev trace_with : (failed : Bool) → List ℕ → Result (Header × Left) Bad → Result Trace HeaderError
trace_with failed given r = elim r [
  | Ok h ↦ Ok (trace_after failed given h)
  | Err bad ↦ Err (bad_start failed given bad)
]

trace_is : (failed : Bool) (given : List ℕ) → trace_of failed given ≡ trace_with failed given (header_at (whole_trace given))
unfolding trace_of
trace_is failed given = refl

same_trace : (a b : Trace) → (let x : Result Trace HeaderError = Ok a in let y : Result Trace HeaderError = Ok b in x ≡ y) → a ≡ b
same_trace a b e = cc

-- ---- the entries that are read follow

begins_after : (failed : Bool) (given : List ℕ) (h : Header) (left : Left) → IsBytes given → header_at (whole_trace given) ≡ Ok (h, left)
    → BeginsWithEntries given h (trace_after failed given (h, left)).entries
begins_after failed given h left fits e =
    let header = header_takes (whole_trace given) h left (IsBytes-take most_bytes given fits) e in
    let read = entries_from (length left.bytes) h.version h.volumes 0 left in
    let row = row_takes (length left.bytes) h.version h.volumes 0 left header.takes.rest_bytes in
    let text = flat_map (entry_spelling h.version) read.0 in
    let whole = Takes-then (whole_trace given) (header_spelling h) left text read.1 header.takes row.takes in
    let spelled : given ≡ (header_spelling h ++ text) ++ (read.1.bytes ++ drop most_bytes given) =
    sym (take-append-drop most_bytes given) ∙ ap (λ (t : List ℕ). t ++ drop most_bytes given) whole.parts ∙ append_assoc (header_spelling h ++ text) read.1.bytes (drop most_bytes given) in
    let short : length (header_spelling h ++ text) ≤ most_bytes = omega (arith, ap length whole.parts, length-append (header_spelling h ++ text) read.1.bytes, length-take most_bytes given) in
    record {
      rest = read.1.bytes ++ drop most_bytes given;
      spelled = spelled;
      within = short;
      header = header.kept;
      kept = row.kept;
    }

begins_with : (failed : Bool) (given : List ℕ) (t : Trace) (r : Result (Header × Left) Bad) → IsBytes given → header_at (whole_trace given) ≡ r → trace_with failed given r ≡ Ok t → BeginsWithEntries given t.header t.entries
begins_with failed given t (Ok h) fits read e =
    subst (λ (t : Trace). BeginsWithEntries given t.header t.entries) (same_trace (trace_after failed given h) t e) (begins_after failed given h.0 h.1 fits read)
begins_with failed given t (Err bad) fits read e = absurd cc

-- ---- no others do

-- what is read where bytes begin with a header and entries
record Found (failed : Bool) (given : List ℕ) (h : Header) (some : List Entry) : Type 0 where
  trace : Trace
  read : trace_of failed given ≡ Ok trace
  same : h ≡ trace.header
  more : List Entry
  entries : trace.entries ≡ some ++ more

found : (failed : Bool) (given : List ℕ) (h : Header) (some : List Entry) → BeginsWithEntries given h some → Found failed given h some
found failed given h some begins =
    let text = flat_map (entry_spelling h.version) some in
    let front = header_spelling h ++ text in
    let rest = take (most_bytes - length front) begins.rest in
    let bytes : take most_bytes given ≡ header_spelling h ++ (text ++ rest) =
    ap (take most_bytes) begins.spelled ∙ front_within most_bytes front begins.rest begins.within ∙ append_assoc (header_spelling h) text rest in
    let start = 0 + length (header_spelling h) in
    let read : header_at (whole_trace given) ≡ Ok (h, at_place start (text ++ rest)) =
    ap (λ (t : List ℕ). header_at (at_place 0 t)) bytes ∙ headers_back 0 h (text ++ rest) begins.header in
    let volumes = header_volumes h begins.header in
    let turns = length (text ++ rest) in
    let row = row_again turns h.version start 0 h.volumes some rest volumes.0 volumes.1 begins.kept (omega (arith, row_length h.version some, length-append text rest)) in
    record {
      trace = trace_after failed given (h, at_place start (text ++ rest));
      read = trace_is failed given ∙ ap (trace_with failed given) read;
      same = refl;
      more = row.0;
      entries = row.1;
    }

only : (failed : Bool) (given : List ℕ) (t : Trace) (h : Header) (some : List Entry) → trace_of failed given ≡ Ok t → Found failed given h some → (h ≡ t.header) × ((more : List Entry) × (t.entries ≡ some ++ more))
only failed given t h some read is =
    let same = same_trace is.trace t (sym is.read ∙ read) in
    subst (λ (t : Trace). (h ≡ t.header) × ((more : List Entry) × (t.entries ≡ some ++ more))) same (is.same, (is.more, is.entries))

pub are_longest : EntriesAreLongest
are_longest failed given t fits read = (
  begins_with failed given t (header_at (whole_trace given)) fits refl (sym (trace_is failed given) ∙ read),
  λ other some begins. only failed given t other some read (found failed given other some begins),
)

pub are_found : TracesAreFound
are_found failed given h begins = let is = found failed given h [] begins in (is.trace, is.read)
