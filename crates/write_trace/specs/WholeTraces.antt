-- What a trace is, by the bytes that its source gave and whether the source failed: its header, its good entries, and how it
-- ends.
use Rattle.std.specs.Prelude.{ℕ, zero, suc, ◌==◌, ◌&&◌, List, [], ◌∷◌, length, take, Bool, false, not, Result, Ok, Err, nat_le, if◌then◌else◌}
use Rattle.xrc_edge.specs.declared.limits.TheConstants.{LONGEST_TRACE}
use Rattle.tod_stamp.specs.Fields.{Left, Bad, place_of}
use Rattle.tod_stamp.specs.Fields.Bad.{Cut, Broken}
use Rattle.write_trace.specs.declared.header.VolumeHead.{VolumeHead}
use Rattle.write_trace.specs.declared.header.Header.{Header}
use Rattle.write_trace.specs.declared.entry.Entry.{Entry}
use Rattle.write_trace.specs.declared.trace.Trace.{Trace}
use Rattle.write_trace.specs.declared.trace.HeaderError.{HeaderError}
use Rattle.write_trace.specs.declared.trace.HeaderError.TheVariants.{BadHeader, HeaderFault}
use Rattle.write_trace.specs.declared.trace.TraceEnd.{TraceEnd}
use Rattle.write_trace.specs.declared.trace.TraceEnd.TheVariants.{Ended, BadTrace, ReadFault}
use Rattle.write_trace.specs.Headers.{header_at}
use Rattle.write_trace.specs.Entries.{entry_at, stamp_of}

-- No field of a trace ends past its first bytes, so many: one that would is cut there.
abbrev pub most_bytes : ℕ
most_bytes = LONGEST_TRACE

abbrev pub whole_trace : List ℕ → Left
whole_trace given = record { place = 0; bytes = take most_bytes given }

-- A cut is a fault where the source failed and hadn't given more than a trace's bytes.
abbrev pub is_fault : (failed : Bool) → List ℕ → Bad → Bool
is_fault failed given (Cut place) = failed && nat_le (length given) most_bytes
is_fault failed given (Broken place) = false

abbrev pub bad_start : (failed : Bool) → List ℕ → Bad → HeaderError
bad_start failed given bad = if is_fault failed given bad then HeaderFault else BadHeader (place_of bad)

-- The entries that follow, each read after the one before, and what is left where none is read. Each takes a byte at
-- least, so as many turns as there are bytes reach the end.
unfoldable pub entries_from : (turns version : ℕ) → List VolumeHead → (last : ℕ) → Left → List Entry × Left
entries_from zero version volumes last left = ([], left)
entries_from (suc turns) version volumes last left = elim (entry_at version volumes last left) [
  | Ok e ↦ let rest = entries_from turns version volumes (stamp_of e.0) e.1 in (e.0 ∷ rest.0, rest.1)
  | Err bad ↦ ([], left)
]

abbrev pub bad_end : (failed : Bool) → List ℕ → (place : ℕ) → Result (Entry × Left) Bad → TraceEnd
bad_end failed given place (Ok e) = BadTrace place
bad_end failed given place (Err bad) = if is_fault failed given bad then ReadFault else BadTrace place

-- A trace ends where no byte is left after its entries and the source didn't fail. It ends by a fault where the source
-- failed and no field that is whole breaks a rule. Else the entry that begins there is bad.
abbrev pub end_of : (failed : Bool) → List ℕ → (version : ℕ) → List VolumeHead → (last : ℕ) → Left → TraceEnd
end_of failed given version volumes last left =
    if not failed && left.place == length given then Ended
    else bad_end failed given left.place (entry_at version volumes last left)

-- the stamp of the last entry, where `last` stands before the first
abbrev pub last_entry_stamp : (last : ℕ) → List Entry → ℕ
last_entry_stamp last [] = last
last_entry_stamp last (e ∷ entries) = last_entry_stamp (stamp_of e) entries

abbrev pub after_header : (failed : Bool) → List ℕ → Header → List Entry × Left → Trace
after_header failed given h read = record {
  header = h;
  entries = read.0;
  end = end_of failed given h.version h.volumes (last_entry_stamp 0 read.0) read.1;
}

-- The trace that was given: its header and, by the longest row of good entries, its end.
unfoldable pub trace_of : (failed : Bool) → List ℕ → Result Trace HeaderError
trace_of failed given = elim (header_at (whole_trace given)) [
  | Ok h ↦ Ok (after_header failed given h.0 (entries_from (length h.1.bytes) h.0.version h.0.volumes 0 h.1))
  | Err bad ↦ Err (bad_start failed given bad)
]
