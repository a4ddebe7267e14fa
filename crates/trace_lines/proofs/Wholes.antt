-- What was read of a source in memory is the trace of its bytes.
use Rattle.std.proofs.Common.{◌≡◌, ℕ, List, length, false, Option, Some, Result, Ok, Err, refl, sym, subst, ap, ◌∙◌}
use Rattle.tod_stamp.specs.Fields.{Left, Bad, place_of}
use Rattle.tod_stamp.specs.Fields.Bad.{Cut, Broken}
use Rattle.write_trace.specs.declared.header.VolumeHead.{VolumeHead}
use Rattle.write_trace.specs.declared.header.Header.{Header}
use Rattle.write_trace.specs.declared.entry.Entry.{Entry}
use Rattle.write_trace.specs.declared.trace.Trace.{Trace}
use Rattle.write_trace.specs.declared.trace.HeaderError.{HeaderError}
use Rattle.write_trace.specs.declared.trace.HeaderError.TheVariants as headers
use Rattle.write_trace.specs.declared.trace.TraceEnd.{TraceEnd}
use Rattle.write_trace.specs.declared.trace.TraceEnd.TheVariants.{Ended, BadTrace, ReadFault}
use Rattle.write_trace.specs.Headers.{header_at}
use Rattle.write_trace.specs.Starts.{ReadsHeader, Starts}
use Rattle.write_trace.specs.WholeTraces.{whole_trace, entries_from, bad_start, after_header, end_of, last_entry_stamp, trace_of}
use Rattle.write_trace.specs.UnreadBytes.{seen}
use Rattle.write_trace.specs.Answers.{ReaderState}
use Rattle.write_trace.specs.Rests.{rest_of, IsRestOfAll, ReadsRest}
use Rattle.trace_lines.specs.Refusals.{HasTraceEnd, IsCause, unread_of}

-- the trace by what was read as its header
abbrev trace_by : List ℕ → Result (Header × Left) Bad → Result Trace HeaderError
trace_by bytes (Ok h) = Ok (after_header false bytes h.0 (entries_from (length h.1.bytes) h.0.version h.0.volumes 0 h.1))
trace_by bytes (Err bad) = Err (bad_start false bytes bad)

by_header : (bytes : List ℕ) → trace_of false bytes ≡ trace_by bytes (header_at (whole_trace bytes))
unfolding trace_of
by_header bytes = refl

-- a source that didn't fail has a bad field
bad_field : (bytes : List ℕ) (bad : Bad) → bad_start false bytes bad ≡ headers.BadHeader (place_of bad)
bad_field bytes (Cut place) = refl
bad_field bytes (Broken place) = refl

pub bad_header : (bytes : List ℕ) (now : Option (List ℕ)) (faults risen : ℕ) (error : HeaderError) → Starts (Some bytes) now faults risen (Err error) → IsCause bytes (unread_of error)
bad_header bytes now faults risen (headers.BadHeader place) starts =
    let bad = starts.0 bytes refl in
    by_header bytes ∙ ap (trace_by bytes) bad.1 ∙ ap (λ (e : HeaderError). Err e) (bad_field bytes bad.0 ∙ ap headers.BadHeader bad.2)
bad_header bytes now faults risen headers.HeaderFault starts = search
bad_header bytes now faults risen headers.NoMemory starts = search

-- the end after a header of this version, with these volumes
abbrev end_by : List ℕ → (version last : ℕ) → List VolumeHead → Left → TraceEnd
end_by bytes version last volumes left = let found = entries_from (length left.bytes) version volumes last left in end_of false bytes version volumes (last_entry_stamp last found.0) found.1

whole_ends : (bytes : List ℕ) (now : Option (List ℕ)) (h : Header) (r : ReaderState) (entries : List Entry) (end : TraceEnd) → ReadsHeader (Some bytes) now h r → IsRestOfAll now r entries end → HasTraceEnd bytes end
whole_ends bytes now h r entries end header rest =
    let ahead = header.reads bytes refl in
    let is = rest ahead.0 ahead.1 in
    let left = seen r.left.place ahead.0 in
    let read = rest_of r ahead.0 in
    let found = entries_from (length left.bytes) h.version h.volumes 0 left in
    let ends : end_by bytes r.version r.last r.volumes left ≡ end = ap (λ (es : List Entry). end_of false bytes r.version r.volumes (last_entry_stamp r.last es) read.1) is.good ∙ is.ends bytes (sym ahead.3) in
    let same : end_by bytes h.version 0 h.volumes left ≡ end_by bytes r.version r.last r.volumes left =
    ap (λ (n : ℕ). end_by bytes n 0 h.volumes left) (sym header.version)
    ∙ ap (λ (n : ℕ). end_by bytes r.version n h.volumes left) (sym header.last)
    ∙ ap (λ (vs : List VolumeHead). end_by bytes r.version r.last vs left) (sym header.volumes) in
    (after_header false bytes h found, by_header bytes ∙ ap (trace_by bytes) ahead.2, same ∙ ends)

pub whole_trace_ends : (bytes : List ℕ) (given now after : Option (List ℕ)) (faults risen : ℕ) (h : Header) (r : ReaderState) (entries : List Entry) (end : TraceEnd) → given ≡ Some bytes → end ≡ Ended → ReadsHeader given now h r → ReadsRest now after faults risen r entries end → HasTraceEnd bytes Ended
whole_trace_ends bytes given now after faults risen h r entries Ended told is header rest = whole_ends bytes now h r entries Ended (subst (λ (b : Option (List ℕ)). ReadsHeader b now h r) told header) rest.0
whole_trace_ends bytes given now after faults risen h r entries (BadTrace place) told is header rest = absurd cc
whole_trace_ends bytes given now after faults risen h r entries ReadFault told is header rest = absurd cc

pub bad_entry : (bytes : List ℕ) (given now after : Option (List ℕ)) (faults risen place : ℕ) (h : Header) (r : ReaderState) (entries : List Entry) (end : TraceEnd) → given ≡ Some bytes → end ≡ BadTrace place → ReadsHeader given now h r → ReadsRest now after faults risen r entries end → HasTraceEnd bytes (BadTrace place)
bad_entry bytes given now after faults risen place h r entries Ended told is header rest = absurd cc
bad_entry bytes given now after faults risen place h r entries (BadTrace at) told is header rest = subst (λ (e : TraceEnd). HasTraceEnd bytes e) is (whole_ends bytes now h r entries (BadTrace at) (subst (λ (b : Option (List ℕ)). ReadsHeader b now h r) told header) rest.0)
bad_entry bytes given now after faults risen place h r entries ReadFault told is header rest = absurd cc
