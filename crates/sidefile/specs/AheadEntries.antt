-- What is ahead of a sidefile: the entry that waits, the good entries that its reader will read, and how they end.
use Rattle.std.specs.Prelude.{◌≡◌, ℕ, ◌+◌, ◌==◌, List, [], ◌∷◌, length, true, Option, Some, None, if◌then◌else◌}
use Rattle.tod_stamp.specs.Fields.{Left}
use Rattle.ckd_track.specs.declared.write.Cause.{Cause}
use Rattle.write_trace.specs.declared.entry.Entry.{Entry}
use Rattle.write_trace.specs.declared.trace.TraceEnd.{TraceEnd}
use Rattle.write_trace.specs.declared.trace.TraceEnd.TheVariants.{Ended, BadTrace, ReadFault}
use Rattle.write_trace.specs.WholeTraces.{entries_from, last_entry_stamp, end_of}
use Rattle.write_trace.specs.declared.next.Stopped.{Stopped}
use Rattle.write_trace.specs.declared.next.Stopped.TheVariants.{AtEnd, NoMemory}
use Rattle.write_trace.specs.UnreadBytes.{unread, seen}
use Rattle.write_trace.specs.Answers.{ReaderState}
use Rattle.sidefile.specs.Breaks.{cause_of}

-- These bytes are ahead of a reader: those that it holds and those that its source has left. Nothing is asked of one that reads
-- no further.
abbrev pub IsAhead : ReaderState → (told : Option (List ℕ)) → List ℕ → Type 0
IsAhead reader told bytes = reader.stopped ≡ None → unread reader.left.bytes told ≡ Some bytes

-- the entries that are read of bytes at a reader's place, and what is left where none is read
abbrev pub read_of : ReaderState → List ℕ → List Entry × Left
read_of reader bytes = entries_from (length (seen reader.left.place bytes).bytes) reader.version reader.volumes reader.last (seen reader.left.place bytes)

abbrev pub entries_ahead : Option Stopped → ReaderState → List ℕ → List Entry
entries_ahead None reader bytes = (read_of reader bytes).0
entries_ahead (Some why) reader bytes = []

-- Where the source doesn't fail, a trace ends cleanly where its bytes end, and badly at every other place.
abbrev pub end_at : (bytes_end : ℕ) → Left → TraceEnd
end_at bytes_end left = if left.place == bytes_end then Ended else BadTrace left.place

-- The source failed after these bytes, and after the entries that are read of them stands one that is cut.
abbrev pub IsFault : ReaderState → List ℕ → Type 0
IsFault reader bytes =
    (given : List ℕ) → length given ≡ reader.left.place + length bytes → end_of true given reader.version reader.volumes (last_entry_stamp reader.last (read_of reader bytes).0) (read_of reader bytes).1 ≡ ReadFault

abbrev pub cause_of_stop : Stopped → Option Cause
cause_of_stop (AtEnd end) = cause_of end
cause_of_stop NoMemory = None

abbrev pub cause_to_come : Option Stopped → ReaderState → List ℕ → Option Cause
cause_to_come None reader bytes = cause_of (end_at (reader.left.place + length bytes) (read_of reader bytes).1)
cause_to_come (Some why) reader bytes = cause_of_stop why

abbrev pub waiting_first : Option Entry → List Entry → List Entry
waiting_first None entries = entries
waiting_first (Some e) entries = e ∷ entries

-- the good entries of these bytes, after the one that waits
abbrev pub ahead : Option Entry → ReaderState → List ℕ → List Entry
ahead waiting reader bytes = waiting_first waiting (entries_ahead reader.stopped reader bytes)

-- why the controller will break after them, if it will
abbrev pub cause_ahead : ReaderState → List ℕ → Option Cause
cause_ahead reader bytes = cause_to_come reader.stopped reader bytes
