-- The traces of a generated input. Each controller has two volumes of one cylinder, whose tracks hold four records of zeros at first,
-- and 500 writes, each of eight equal bytes to one record.
use Rattle.std.specs.Prelude.{ℕ, ◌+◌, ◌*◌, ◌/◌, ◌%◌, List, [], ◌∷◌, ◌++◌, map, replicate, codes}
use Rattle.std.specs.List.{flat_map, range_with_len}
use Rattle.xrc_edge.specs.MemorySources.{MemoryState, fresh}
use Rattle.xrc_edge.specs.declared.limits.TheConstants.{TRACKS_OF_CYLINDER}
use Rattle.ckd_track.specs.declared.rec.Rec.{Rec}
use Rattle.ckd_track.specs.declared.write.Kind.TheVariants.{Update}
use Rattle.ckd_track.specs.declared.write.Write.{Write}
use Rattle.write_trace.specs.declared.header.VolumeHead.{VolumeHead}
use Rattle.write_trace.specs.declared.header.Header.{Header}
use Rattle.write_trace.specs.declared.entry.Entry.{Entry}
use Rattle.write_trace.specs.declared.entry.Entry.TheVariants.{Written}
use Rattle.write_trace.specs.Headers.{Base, header_spelling}
use Rattle.write_trace.specs.Entries.{entry_spelling}
use Rattle.workload.specs.declared.layout.TheConstants.{CONTENT, CONTROLS, CYLINDERS, FIRST_STAMP, MOST_OF_PULL, RECORDS, TRACKS, VOLUMES, WRITES}

-- ---- headers

-- `GP` and the digit of a number below 10
abbrev pub primary_named : (number : ℕ) → List ℕ
primary_named number = codes "GP" ++ (48 + number) ∷ []

abbrev pub generated_volume : (control volume : ℕ) → VolumeHead
generated_volume control volume = record { serial = primary_named (VOLUMES * control + volume); cylinders = CYLINDERS }

-- The primaries of all controllers are numbered in order.
abbrev pub generated_volumes : (control : ℕ) → List VolumeHead
generated_volumes control = map (generated_volume control) (range_with_len 0 VOLUMES)

abbrev pub zero_record : (number : ℕ) → Rec
zero_record number = record { number = number; key = []; content = replicate CONTENT 0 }

-- what each track holds before the first write
abbrev pub zero_records : List Rec
zero_records = map zero_record (range_with_len 1 RECORDS)

-- the track of that number among those of a controller, volume by volume
abbrev pub generated_base : (number : ℕ) → Base
generated_base number = (number / TRACKS_OF_CYLINDER, number % TRACKS_OF_CYLINDER, zero_records)

abbrev pub generated_bases : List Base
generated_bases = map generated_base (range_with_len 0 TRACKS)

abbrev pub generated_header : (control : ℕ) → Header
generated_header control = record { version = 1; volumes = generated_volumes control; base = generated_bases }

-- ---- writes

-- the write with these choices of volume, track, record and byte
abbrev pub chosen_write : (stamp chosen : ℕ) → Write
chosen_write stamp chosen = record {
  volume = chosen % VOLUMES;
  track = (chosen / VOLUMES) % TRACKS_OF_CYLINDER;
  stamp = record { 0 = stamp };
  kind = Update (1 + (chosen / TRACKS) % RECORDS) (replicate CONTENT (chosen % 256));
}

-- The write of a controller at a place, counted from 0. Stamps go round the controllers. The sum of place and number chooses volume, then
-- track, then record, and the byte.
abbrev pub generated_write : (number control place : ℕ) → Write
generated_write number control place = chosen_write (FIRST_STAMP + CONTROLS * place + control) (number + place)

abbrev pub generated_entry : (number control place : ℕ) → Entry
generated_entry number control place = Written (generated_write number control place)

abbrev pub generated_entries : (number control : ℕ) → List Entry
generated_entries number control = map (generated_entry number control) (range_with_len 0 WRITES)

-- ---- traces

abbrev pub generated_trace : (number control : ℕ) → List ℕ
generated_trace number control = header_spelling (generated_header control) ++ flat_map (entry_spelling 1) (generated_entries number control)

-- a source of the trace, of which no call fails
abbrev pub generated_source : (number control : ℕ) → MemoryState
generated_source number control = fresh (generated_trace number control) MOST_OF_PULL []

-- the sources of all controllers, in order
abbrev pub generated_sources : (number : ℕ) → List MemoryState
generated_sources number = map (generated_source number) (range_with_len 0 CONTROLS)
