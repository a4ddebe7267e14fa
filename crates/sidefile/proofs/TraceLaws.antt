-- What is ahead of the reader after a trace's header is the trace.
use Rattle.std.proofs.Common.{◌≡◌, ℕ, ◌+◌, ◌-◌, ◌≤◌, Bool, true, false, cond, nat_eq, nat_le, List, length, take, None, Result, Ok, Err, refl, sym, ap, ◌∙◌, arith, length-append, length-take}
use Rattle.std.proofs.lemmas.Bool.{leb-true}
use Rattle.tod_stamp.specs.Fields.{Left, Bad}
use Rattle.tod_stamp.specs.Fields.Bad.{Cut, Broken}
use Rattle.write_trace.specs.declared.header.VolumeHead.{VolumeHead}
use Rattle.write_trace.specs.declared.header.Header.{Header}
use Rattle.write_trace.specs.declared.entry.Entry.{Entry}
use Rattle.write_trace.specs.declared.trace.Trace.{Trace}
use Rattle.write_trace.specs.declared.trace.HeaderError.{HeaderError}
use Rattle.write_trace.specs.declared.trace.TraceEnd.{TraceEnd}
use Rattle.write_trace.specs.declared.trace.TraceEnd.TheVariants.{Ended, BadTrace, ReadFault}
use Rattle.write_trace.specs.Headers.{header_at}
use Rattle.write_trace.specs.Entries.{entry_at}
use Rattle.write_trace.specs.WholeTraces.{most_bytes, whole_trace, entries_from, bad_start, after_header, end_of, bad_end, last_entry_stamp, trace_of}
use Rattle.write_trace.specs.UnreadBytes.{seen}
use Rattle.sidefile.specs.Breaks.{cause_of}
use Rattle.sidefile.specs.AheadEntries.{read_of, end_at, ahead, IsFault, cause_ahead}
use Rattle.sidefile.proofs.FirstTurns.{ahead_none}
use Rattle.sidefile.proofs.Steps.{cause_open}
use Rattle.sidefile.proofs.LocalHeaders.{header_of_front}
use Rattle.write_trace.specs.Answers.{ReaderState}
use Rattle.std.specs.Prelude.{◌++◌}

-- the trace by what was read as its header
abbrev trace_by : (failed : Bool) → List ℕ → Result (Header × Left) Bad → Result Trace HeaderError
trace_by failed given (Ok h) = Ok (after_header failed given h.0 (entries_from (length h.1.bytes) h.0.version h.0.volumes 0 h.1))
trace_by failed given (Err bad) = Err (bad_start failed given bad)

by_header : (failed : Bool) (given : List ℕ) → trace_of failed given ≡ trace_by failed given (header_at (whole_trace given))
unfolding trace_of
by_header failed given = refl

-- where the source didn't fail, an end that isn't clean is bad
bad_without : (given : List ℕ) (place : ℕ) (r : Result (Entry × Left) Bad) → bad_end false given place r ≡ BadTrace place
bad_without given place (Ok e) = refl
bad_without given place (Err (Cut at)) = refl
bad_without given place (Err (Broken at)) = refl

end_without : (given : List ℕ) (version : ℕ) (volumes : List VolumeHead) (last : ℕ) (left : Left) (bytes_end : ℕ) → length given ≡ bytes_end → end_of false given version volumes last left ≡ end_at bytes_end left
end_without given version volumes last left bytes_end e =
    ap (λ n. cond (nat_eq left.place n) Ended (bad_end false given left.place (entry_at version volumes last left))) e
    ∙ ap (λ (x : TraceEnd). cond (nat_eq left.place bytes_end) Ended x) (bad_without given left.place (entry_at version volumes last left))

one_trace : (a b : Trace) → (let x : Result Trace HeaderError = Ok a in let y : Result Trace HeaderError = Ok b in x ≡ y) → a ≡ b
one_trace a b e = cc

-- What is ahead of the reader that stands after a trace's header are the trace's entries, with the trace's end: where the source
-- didn't fail, and where it failed after these bytes.
pub ahead_trace : (failed : Bool) (given rest : List ℕ) (header : Header) (reader : ReaderState) (trace : Trace) →
    header_at (whole_trace given) ≡ Ok (header, seen reader.left.place rest) → length given ≡ reader.left.place + length rest →
    reader.version ≡ header.version → reader.volumes ≡ header.volumes → reader.last ≡ 0 → reader.stopped ≡ None →
    trace_of failed given ≡ Ok trace →
    (ahead None reader rest ≡ trace.entries) × (failed ≡ false → cause_ahead reader rest ≡ cause_of trace.end) × (failed ≡ true → IsFault reader rest → trace.end ≡ ReadFault)
ahead_trace failed given rest header reader trace read len version volumes last goes is =
    let left = seen reader.left.place rest in
    let n = length left.bytes in
    let whole = sym (by_header failed given ∙ ap (trace_by failed given) read) ∙ is in
    let found = entries_from n header.version header.volumes 0 left in
    let made = after_header failed given header found in
    let trace_is : made ≡ trace = one_trace made trace whole in
    let same : read_of reader rest ≡ found =
    ap (λ k. entries_from n k reader.volumes reader.last left) version ∙ ap (λ (v : List VolumeHead). entries_from n header.version v reader.last left) volumes
    ∙ ap (λ s. entries_from n header.version header.volumes s left) last in
    let end = end_of failed given header.version header.volumes (last_entry_stamp 0 found.0) found.1 in (
      ahead_none reader rest goes ∙ ap (λ (p : List Entry × Left). p.0) same ∙ ap (λ (t : Trace). t.entries) trace_is,
      λ clean. cause_open reader rest goes
          ∙ ap (λ (p : List Entry × Left). cause_of (end_at (reader.left.place + length rest) p.1)) same
          ∙ ap (λ (x : TraceEnd). cause_of x) (sym (end_without given header.version header.volumes (last_entry_stamp 0 found.0) found.1 (reader.left.place + length rest) len))
          ∙ ap (λ b. cause_of (end_of b given header.version header.volumes (last_entry_stamp 0 found.0) found.1)) (sym clean)
          ∙ ap (λ (t : Trace). cause_of t.end) trace_is,
      λ fails fault. sym (ap (λ (t : Trace). t.end) trace_is)
          ∙ ap (λ b. end_of b given header.version header.volumes (last_entry_stamp 0 found.0) found.1) fails
          ∙ ap (λ k. end_of true given k header.volumes (last_entry_stamp 0 found.0) found.1) (sym version)
          ∙ ap (λ (v : List VolumeHead). end_of true given reader.version v (last_entry_stamp 0 found.0) found.1) (sym volumes)
          ∙ ap (λ s. end_of true given reader.version reader.volumes (last_entry_stamp s found.0) found.1) (sym last)
          ∙ ap (λ (p : List Entry × Left). end_of true given reader.version reader.volumes (last_entry_stamp reader.last p.0) p.1) (sym same)
          ∙ fault given len,
    )

-- ---- the bytes that the source gave

-- A source that failed had given no more than a trace's bytes.
fault_within : (given : List ℕ) (place : ℕ) (r : Result (Entry × Left) Bad) → bad_end true given place r ≡ ReadFault → length given ≤ most_bytes
fault_within given place (Ok e) h = absurd cc
fault_within given place (Err (Broken at)) h = absurd cc
fault_within given place (Err (Cut at)) h = within (nat_le (length given) most_bytes) refl h
  where
    within : (t : Bool) → nat_le (length given) most_bytes ≡ t → cond t ReadFault (BadTrace place) ≡ ReadFault → length given ≤ most_bytes
    within true is h = leb-true (length given) most_bytes is
    within false is h = absurd cc

-- Where the header of all bytes was read, and the source failed after a front of those that follow it: the trace of the bytes that
-- it gave has this header, the entries that are read of the front, and ends by the fault.
pub given_trace : (bytes rest front left : List ℕ) (header : Header) (reader : ReaderState) →
    header_at (whole_trace bytes) ≡ Ok (header, seen reader.left.place rest) → length bytes ≡ reader.left.place + length rest →
    reader.version ≡ header.version → reader.volumes ≡ header.volumes → reader.last ≡ 0 → reader.stopped ≡ None →
    rest ≡ front ++ left → IsFault reader front →
    trace_of true (take (length bytes - length left) bytes) ≡ Ok (record { header = header; entries = ahead None reader front; end = ReadFault })
given_trace bytes rest front left header reader read len version volumes last goes split fault =
    let place = reader.left.place in
    let n = place + length front in
    let less : length bytes - length left ≡ n = omega (arith, len, ap length split, length-append front left) in
    let long : length (take n bytes) ≡ n = omega (arith, length-take n bytes, len, ap length split, length-append front left) in
    let found = read_of reader front in
    let within = fault_within (take n bytes) found.1.place (entry_at reader.version reader.volumes (last_entry_stamp reader.last found.0) found.1) (fault (take n bytes) long) in
    let (given, is, same) = header_of_front bytes rest front left header place read split (omega (arith, long, within)) in
    let trace = after_header true given header (entries_from (length (seen place front).bytes) header.version header.volumes 0 (seen place front)) in
    let made : trace_of true given ≡ Ok trace = by_header true given ∙ ap (trace_by true given) same in
    let known = ahead_trace true given front header reader trace same (ap length (sym is) ∙ long) version volumes last goes made in
    ap (λ k. trace_of true (take k bytes)) less
    ∙ ap (trace_of true) is
    ∙ made
    ∙ ap (λ (es : List Entry). Ok (record { header = header; entries = es; end = trace.end })) (sym known.0)
    ∙ ap (λ (x : TraceEnd). Ok (record { header = header; entries = ahead None reader front; end = x })) (known.2 refl fault)
