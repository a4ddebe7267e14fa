-- The laws of traces: what is spelled is read again, what is read was spelled so, and the entries of a trace are the longest.
use Rattle.std.specs.Prelude.{◌≡◌, ℕ, ◌+◌, ◌≤◌, List, [], ◌++◌, length, take, drop, Bool, Ok, Some, IsTrue, slice_get}
use Rattle.xrc_edge.specs.declared.limits.TheConstants.{MOST_CONTROL_VOLUMES}
use Rattle.std.specs.List.{flat_map}
use Rattle.tod_stamp.specs.Fields.{IsBytes, Left}
use Rattle.tod_stamp.specs.Names.{serial_field}
use Rattle.write_trace.specs.declared.header.VolumeHead.{VolumeHead}
use Rattle.write_trace.specs.declared.header.Header.{Header}
use Rattle.write_trace.specs.declared.entry.Entry.{Entry}
use Rattle.write_trace.specs.declared.trace.Trace.{Trace}
use Rattle.write_trace.specs.Headers.{are_volumes, header_spelling, is_header, header_at, serial_place}
use Rattle.write_trace.specs.Entries.{entry_spelling, is_entry, are_entries, entry_at}
use Rattle.write_trace.specs.WholeTraces.{most_bytes, trace_of}

-- What a header that keeps the rules spells is read again, whatever follows.
abbrev pub HeadersReadBack : Type 0
HeadersReadBack = (place : ℕ) (h : Header) (rest : List ℕ) → IsTrue (is_header h) →
    header_at (record { place = place; bytes = header_spelling h ++ rest }) ≡ Ok (h, record { place = place + length (header_spelling h); bytes = rest })

-- What is read as a header keeps the rules and was spelled so.
abbrev pub HeadersAreSpelled : Type 0
HeadersAreSpelled = (place : ℕ) (bytes : List ℕ) (h : Header) (left : Left) →
    IsBytes bytes → header_at (record { place = place; bytes = bytes }) ≡ Ok (h, left) →
    IsTrue (is_header h) × (bytes ≡ header_spelling h ++ left.bytes) × (left.place ≡ place + length (header_spelling h))

-- The serial of each volume stands at its place in what a header spells.
abbrev pub SerialsStandThere : Type 0
SerialsStandThere = (h : Header) (volume : ℕ) (head : VolumeHead) → IsTrue (is_header h) → slice_get h.volumes volume ≡ Some head →
    take 6 (drop (serial_place h.version volume) (header_spelling h)) ≡ serial_field head.serial

-- What an entry that keeps the rules spells is read again, whatever follows.
abbrev pub EntriesReadBack : Type 0
EntriesReadBack = (version place last : ℕ) (volumes : List VolumeHead) (e : Entry) (rest : List ℕ) →
    length volumes ≤ MOST_CONTROL_VOLUMES → IsTrue (are_volumes version [] volumes) → IsTrue (is_entry volumes last e) →
    entry_at version volumes last (record { place = place; bytes = entry_spelling version e ++ rest }) ≡ Ok (e, record { place = place + length (entry_spelling version e); bytes = rest })

-- What is read as an entry keeps the rules and was spelled so.
abbrev pub EntriesAreSpelled : Type 0
EntriesAreSpelled = (version place last : ℕ) (volumes : List VolumeHead) (bytes : List ℕ) (e : Entry) (left : Left) →
    IsBytes bytes → entry_at version volumes last (record { place = place; bytes = bytes }) ≡ Ok (e, left) →
    IsTrue (is_entry volumes last e) × (bytes ≡ entry_spelling version e ++ left.bytes) × (left.place ≡ place + length (entry_spelling version e))

-- The bytes begin with this header and these entries: they keep the rules, and are spelled at the front, within the most bytes
-- of a trace.
pub record BeginsWithEntries (given : List ℕ) (h : Header) (entries : List Entry) : Type 0 where
  pub rest : List ℕ
  pub spelled : given ≡ header_spelling h ++ flat_map (entry_spelling h.version) entries ++ rest
  pub within : length (header_spelling h ++ flat_map (entry_spelling h.version) entries) ≤ most_bytes
  pub header : IsTrue (is_header h)
  pub kept : IsTrue (are_entries h.volumes 0 entries)

-- The bytes begin with them, and with no other header, and all entries that they begin with are the first of these.
abbrev pub AreLongest : List ℕ → Header → List Entry → Type 0
AreLongest given h entries = BeginsWithEntries given h entries
    × ((other : Header) (some : List Entry) → BeginsWithEntries given other some → (other ≡ h) × ((more : List Entry) × (entries ≡ some ++ more)))

-- The entries of a trace are the longest row that its bytes begin with.
abbrev pub EntriesAreLongest : Type 0
EntriesAreLongest = (failed : Bool) (given : List ℕ) (t : Trace) → IsBytes given → trace_of failed given ≡ Ok t → AreLongest given t.header t.entries

-- Bytes that begin with a header are a trace.
abbrev pub TracesAreFound : Type 0
TracesAreFound = (failed : Bool) (given : List ℕ) (h : Header) → BeginsWithEntries given h [] → (t : Trace) × (trace_of failed given ≡ Ok t)
