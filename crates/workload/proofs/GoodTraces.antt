-- Traces that are spelled whole are read whole, and end cleanly.
use Rattle.std.proofs.Common.{◌≡◌, ◌≤◌, ℕ, ◌+◌, ◌-◌, true, false, Bool, cond, List, [], ◌++◌, length, take, Result, Ok, Err, IsTrue, refl, sym, ap, ◌∙◌, append-nil, length-append, arith}
use Rattle.std.proofs.lemmas.Bool.{eq-eqb}
use Rattle.std.proofs.lemmas.List.{take_all}
use Rattle.tod_stamp.specs.Fields.{Left, Bad, number_at}
use Rattle.tod_stamp.specs.Fields.Bad.{Cut}
use Rattle.tod_stamp.proofs.FieldLaws.{at_place}
use Rattle.write_trace.specs.declared.header.Header.{Header}
use Rattle.write_trace.specs.declared.header.VolumeHead.{VolumeHead}
use Rattle.write_trace.specs.declared.entry.Entry.{Entry}
use Rattle.write_trace.specs.declared.trace.HeaderError.{HeaderError}
use Rattle.write_trace.specs.declared.trace.Trace.{Trace}
use Rattle.write_trace.specs.declared.trace.TraceEnd.TheVariants.{Ended}
use Rattle.write_trace.specs.Headers.{Base, are_volumes, header_at, header_spelling, is_header}
use Rattle.write_trace.specs.Entries.{are_entries, entry_at}
use Rattle.write_trace.specs.WholeTraces.{after_header, bad_end, bad_start, entries_from, last_entry_stamp, most_bytes, trace_of, whole_trace}
use Rattle.write_trace.specs.UnreadBytes.{seen}
use Rattle.write_trace.proofs.HeaderAgain.{headers_back}
use Rattle.write_trace.proofs.Rows.{row, row_is_all}

-- No entry begins where no byte is left.
none_left : (volumes : List VolumeHead) (last place : ℕ) → entry_at 1 volumes last (at_place place []) ≡ Err (Cut place)
unfolding entry_at number_at
none_left volumes last place = refl

abbrev trace_with : List ℕ → Result (Header × Left) Bad → Result Trace HeaderError
trace_with given read = elim read [
  | Ok h ↦ Ok (after_header false given h.0 (entries_from (length h.1.bytes) h.0.version h.0.volumes 0 h.1))
  | Err bad ↦ Err (bad_start false given bad)
]

trace_is : (given : List ℕ) → trace_of false given ≡ trace_with given (header_at (whole_trace given))
unfolding trace_of
trace_is given = refl

-- The spellings of a header and of entries that keep the rules are that trace.
pub spelled_is_trace : (volumes : List VolumeHead) (base : List Base) (entries : List Entry)
    → (let h : Header = record { version = 1; volumes = volumes; base = base } in
    IsTrue (is_header h) → length volumes ≤ 32 → are_volumes 1 [] volumes ≡ true → are_entries volumes 0 entries ≡ true → length (header_spelling h ++ row 1 entries) ≤ most_bytes
    → trace_of false (header_spelling h ++ row 1 entries) ≡ Ok (record { header = h; entries = entries; end = Ended }))
spelled_is_trace volumes base entries rules few are kept short =
    let h : Header = record { version = 1; volumes = volumes; base = base } in
    let text = row 1 entries in
    let given = header_spelling h ++ text in
    let start = 0 + length (header_spelling h) in
    let end = start + length text in
    let long : length given ≡ end = omega (arith, length-append (header_spelling h) text) in
    let read : header_at (whole_trace given) ≡ Ok (h, at_place start text) = ap (λ (t : List ℕ). header_at (at_place 0 t)) (take_all most_bytes given short) ∙ headers_back 0 h text rules in
    let all : take (most_bytes - start) (text ++ []) ≡ text = ap (λ (t : List ℕ). take (most_bytes - start) t) (append-nil text) ∙ take_all (most_bytes - start) text (omega (arith, short, long)) in
    let last = last_entry_stamp 0 entries in
    let none : entry_at 1 volumes last (seen end []) ≡ Err (Cut end) = ap (λ (t : List ℕ). entry_at 1 volumes last (at_place end t)) (take_all (most_bytes - end) [] (omega arith)) ∙ none_left volumes last end in
    let rest : entries_from (length text) 1 volumes 0 (at_place start text) ≡ (entries, seen end []) =
    ap (λ (t : List ℕ). entries_from (length t) 1 volumes 0 (at_place start t)) (sym all) ∙ row_is_all 1 entries start 0 volumes [] (Cut end) few are kept (omega (arith, short, long)) none in
    trace_is given ∙ ap (trace_with given) read ∙ ap (λ (found : List Entry × Left). Ok (after_header false given h found)) rest
    ∙ ap (λ (b : Bool). Ok (record { header = h; entries = entries; end = cond b Ended (bad_end false given end (entry_at 1 volumes last (seen end []))) })) (eq-eqb end (length given) (sym long))
