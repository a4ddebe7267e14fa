-- Which volume of a trace has a serial, and whether a write may follow the trace's entries.
use Rattle.std.specs.Prelude.{◌≡◌, ℕ, List, Option, Some, None, Result, Ok, Err, bytes_eq, nat_lt, if◌then◌else◌}
use Rattle.std.specs.List.{position}
use Rattle.tod_stamp.specs.Fields.{◌>>=◌}
use Rattle.tod_stamp.specs.declared.stamp.Stamp.{Stamp}
use Rattle.xrc_edge.specs.declared.outcome.NoMemory.{NoMemory as MemoryError}
use Rattle.write_trace.specs.declared.header.VolumeHead.{VolumeHead}
use Rattle.write_trace.specs.declared.entry.Entry.{Entry}
use Rattle.write_trace.specs.declared.trace.Trace.{Trace}
use Rattle.write_trace.specs.declared.trace.HeaderError.{HeaderError}
use Rattle.write_trace.specs.declared.trace.HeaderError.TheVariants as header
use Rattle.write_trace.specs.declared.trace.TraceEnd.{TraceEnd}
use Rattle.write_trace.specs.declared.trace.TraceEnd.TheVariants as ends
use Rattle.write_trace.specs.Headers.{cylinders_of}
use Rattle.write_trace.specs.WholeTraces.{last_entry_stamp}
use Rattle.write_trace.specs.Answers.{ReaderState}
use Rattle.write_trace.specs.Rests.{ReadsRest}
use Rattle.ckd_bridge.specs.declared.named_volume.NamedVolume.{NamedVolume}
use Rattle.ckd_bridge.specs.declared.stop.Refusal.TheVariants.{BadHeader, BadTrace, EarlierStamp, NoVolume}
use Rattle.ckd_bridge.specs.declared.stop.Stop.{Stop}
use Rattle.ckd_bridge.specs.declared.stop.Stop.TheVariants.{NoMemory, ReadFault, WriteFault, Refused}

-- the number of the first volume of this serial
abbrev pub first_of_serial : (serial : List ℕ) → List VolumeHead → Option ℕ
first_of_serial serial volumes = position (λ v. bytes_eq v.serial serial) volumes

-- the volume of that number in a trace of a version; there is none if no number is found
abbrev pub volume_numbered : (version : ℕ) → List VolumeHead → Option ℕ → Result NamedVolume Stop
volume_numbered version volumes (Some number) = Ok (record { version = version; number = number; cylinders = cylinders_of volumes number })
volume_numbered version volumes None = Err (Refused NoVolume)

-- A write may follow a trace that is good to its end, if its stamp isn't below the last entry's.
abbrev pub volume_at_end : NamedVolume → (stamp last : ℕ) → TraceEnd → Result NamedVolume Stop
volume_at_end volume stamp last ends.Ended = if nat_lt stamp last then Err (Refused EarlierStamp) else Ok volume
volume_at_end volume stamp last (ends.BadTrace place) = Err (Refused (BadTrace place))
volume_at_end volume stamp last ends.ReadFault = Err ReadFault

abbrev pub stop_of_bad_header : HeaderError → Stop
stop_of_bad_header (header.BadHeader place) = Refused (BadHeader place)
stop_of_bad_header header.HeaderFault = ReadFault
stop_of_bad_header header.NoMemory = NoMemory

-- the volume of this serial in a trace that a write of this stamp may follow, or what is wrong first: the header, the serial, the
-- entries, or the stamp
abbrev pub volume_to_follow : (serial : List ℕ) → (stamp : ℕ) → Result Trace HeaderError → Result NamedVolume Stop
volume_to_follow serial stamp (Ok t) = volume_numbered t.header.version t.header.volumes (first_of_serial serial t.header.volumes) >>= λ volume. volume_at_end volume stamp (last_entry_stamp 0 t.entries) t.end
volume_to_follow serial stamp (Err error) = Err (stop_of_bad_header error)

-- What was found is what is to be found, unless the file failed or memory ran out.
abbrev pub GivesVolume : Result NamedVolume Stop → (wanted : Result NamedVolume Stop) → Type 0
GivesVolume (Ok volume) wanted = wanted ≡ Ok volume
GivesVolume (Err NoMemory) wanted = Unit {0}
GivesVolume (Err ReadFault) wanted = Unit {0}
GivesVolume (Err WriteFault) wanted = Unit {0}
GivesVolume (Err (Refused refusal)) wanted = wanted ≡ Err (Refused refusal)

-- The stamp is that of the last entry that is left, and the trace ends so after it. Without memory no file has failed.
abbrev pub EndsEntries : (before now : Option (List ℕ)) → (faults risen : ℕ) → ReaderState → Result (Stamp × TraceEnd) MemoryError → Type 0
EndsEntries before now faults risen reader (Ok read) = (entries : List Entry) × ReadsRest before now faults risen reader entries read.1 × (read.0.0 ≡ last_entry_stamp reader.last entries)
EndsEntries before now faults risen reader (Err error) = risen ≡ faults
