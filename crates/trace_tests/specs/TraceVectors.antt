-- Worked traces: their bytes, and the values that they spell.
use Rattle.std.specs.Prelude.{ℕ, List, [], ◌∷◌, ◌++◌, codes, false, Result, Ok}
use Rattle.test_fixtures.specs.Hex.{hex}
use Rattle.ckd_track.specs.declared.rec.Rec.{Rec}
use Rattle.ckd_track.specs.declared.write.Kind.{Kind}
use Rattle.ckd_track.specs.declared.write.Kind.TheVariants.{Update, Whole}
use Rattle.write_trace.specs.declared.header.Header.{Header}
use Rattle.write_trace.specs.declared.entry.Entry.{Entry}
use Rattle.write_trace.specs.declared.entry.Entry.TheVariants.{Written}
use Rattle.write_trace.specs.declared.trace.Trace.{Trace}
use Rattle.write_trace.specs.declared.trace.HeaderError.{HeaderError}
use Rattle.write_trace.specs.declared.trace.TraceEnd.{TraceEnd}
use Rattle.write_trace.specs.Headers.{Base}
use Rattle.write_trace.specs.WholeTraces.{trace_of}

-- A header of one volume of one cylinder, a whole track at 64 and an update at 6E: 60 bytes.
abbrev pub one_trace : List ℕ
one_trace = hex (codes "58545231 0001 5052494D3031 0001 00000000")
    ++ hex (codes "04 0000000000000064 0000 0000 0003 0001010000024142")
    ++ hex (codes "02 000000000000006E 0000 0000 0003 01 0001 5A")

-- a header of one volume with that many cylinders
abbrev pub header_with : (cylinders : ℕ) → List Base → Header
header_with cylinders base = record { version = 1; volumes = record { serial = codes "PRIM01"; cylinders = cylinders } ∷ []; base = base }

abbrev pub one_header : Header
one_header = header_with 1 []

-- a record without key
abbrev pub plain : (number : ℕ) → List ℕ → Rec
plain number content = record { number = number; key = []; content = content }

-- a write to track 3 of the first volume
abbrev pub on_three : (stamp : ℕ) → Kind → Entry
on_three stamp kind = Written (record { volume = 0; track = 3; stamp = record { 0 = stamp }; kind = kind })

abbrev pub first_entry : Entry
first_entry = on_three 0x64 (Whole (plain 1 (codes "AB") ∷ []))

abbrev pub second_entry : Entry
second_entry = on_three 0x6E (Update 1 (codes "Z"))

-- what these bytes are, from a source that didn't fail
abbrev pub read_one : List ℕ → Result Trace HeaderError
read_one given = trace_of false given

-- the header of one volume, these entries and this end
abbrev pub one_with : List Entry → TraceEnd → Result Trace HeaderError
one_with entries end = Ok (record { header = one_header; entries = entries; end = end })

-- A header of one volume of two cylinders with two base tracks: an empty track 3 at place 18, and these bytes from place 26.
abbrev pub two_bases : List ℕ → List ℕ
two_bases second = hex (codes "58545231 0001 5052494D3031 0002 00000002 0000 0000 0003 0000") ++ second

-- A header of the second version with one volume of 70,000 cylinders, and a whole track on its last track.
abbrev pub large_header : Header
large_header = record { version = 2; volumes = record { serial = codes "PRIM01"; cylinders = 70000 } ∷ []; base = [] }

abbrev pub last_track : Entry
last_track = Written (record { volume = 0; track = 1049999; stamp = record { 0 = 0x64 }; kind = Whole (plain 1 (codes "AB") ∷ []) })
