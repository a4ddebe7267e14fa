-- The steps of one call of a reader: a look at the bytes that it holds, and one more piece of its source.
use Rattle.std.specs.Prelude.{◌≡◌, ◌≤◌, ◌<◌, ℕ, ◌+◌, ◌++◌, List, length, drop, Option, Some, None, Result, Ok, Err, IsTrue}
use Rattle.xrc_edge.specs.Causes.{Rose}
use Rattle.tod_stamp.specs.Fields.{Left, after}
use Rattle.tod_stamp.specs.Fields.Bad.{Cut, Broken}
use Rattle.write_trace.specs.declared.header.VolumeHead.{VolumeHead}
use Rattle.write_trace.specs.declared.entry.Entry.{Entry}
use Rattle.write_trace.specs.declared.entry.Entry.TheVariants.{Written, Idle}
use Rattle.write_trace.specs.declared.trace.TraceEnd.{TraceEnd}
use Rattle.write_trace.specs.declared.trace.TraceEnd.TheVariants.{Ended, BadTrace, ReadFault}
use Rattle.write_trace.specs.declared.window.TheConstants.{WINDOW_LENGTH}
use Rattle.write_trace.specs.Entries.{entry_spelling, entry_at, is_entry, stamp_of}
use Rattle.write_trace.specs.WholeTraces.{most_bytes}
use Rattle.write_trace.specs.UnreadBytes.{unread, seen}
use Rattle.write_trace.specs.Answers.{ReaderState, answer_of, EndsThere, IsBadThere, FailsThere}
use Rattle.write_trace.specs.declared.next.Next.{Next}
use Rattle.write_trace.specs.declared.next.Next.TheVariants as answers
use Rattle.write_trace.specs.declared.next.Stopped.{Stopped}
use Rattle.write_trace.specs.declared.stop.NoRead.{NoRead}
use Rattle.write_trace.specs.declared.stop.NoRead.TheVariants as stops

-- ---- one look at the bytes held

-- An entry was read from the front of some bytes, so many of them, and keeps the rules.
pub record ReadOf (version : ℕ) (volumes : List VolumeHead) (last : ℕ) (left : Left) (e : Entry) (used : ℕ) : Type 0 where
  pub there : used ≤ length left.bytes
  pub kept : IsTrue (is_entry volumes last e)
  pub long : used ≡ length (entry_spelling version e)
  pub spelled : left.bytes ≡ entry_spelling version e ++ drop used left.bytes
  pub read : entry_at version volumes last left ≡ Ok (e, after used left)

-- An entry of the bytes held was taken, and those that follow it are held.
pub record TakesEntry (old new : ReaderState) (e : Entry) : Type 0 where
  pub version : new.version ≡ old.version
  pub volumes : new.volumes ≡ old.volumes
  pub last : new.last ≡ stamp_of e
  pub stopped : new.stopped ≡ old.stopped
  pub kept : IsTrue (is_entry old.volumes old.last e)
  pub place : new.left.place ≡ old.left.place + length (entry_spelling old.version e)
  pub within : new.left.place ≤ most_bytes
  pub spelled : old.left.bytes ≡ entry_spelling old.version e ++ new.left.bytes
  pub entry : entry_at old.version old.volumes old.last (seen old.left.place old.left.bytes) ≡ Ok (e, seen new.left.place new.left.bytes)

-- The bytes held are cut within an entry.
abbrev pub IsCut : ReaderState → Type 0
IsCut r = (place : ℕ) × (entry_at r.version r.volumes r.last (seen r.left.place r.left.bytes) ≡ Err (Cut place))

-- A field of the bytes held breaks its rule.
abbrev pub IsBroken : ReaderState → Type 0
IsBroken r = (place : ℕ) × (entry_at r.version r.volumes r.last (seen r.left.place r.left.bytes) ≡ Err (Broken place))

-- the answer that gives an entry
abbrev pub next_of : Entry → Next
next_of (Written write) = answers.Write write
next_of (Idle stamp) = answers.Idle stamp

-- the answer that gives an entry, or why there is none
abbrev pub answer_from : Result Entry Stopped → Next
answer_from (Ok e) = next_of e
answer_from (Err why) = answer_of why

abbrev pub Tries : (old new : ReaderState) → Result Entry NoRead → Type 0
Tries old new (Ok e) = TakesEntry old new e
Tries old new (Err stops.Memory) = new ≡ old
Tries old new (Err (stops.Cut place)) = (new ≡ old) × IsCut old
Tries old new (Err (stops.Broken place)) = (new ≡ old) × IsBroken old

-- ---- one more piece of the source

-- More bytes may be held, and nothing else has changed.
pub record Waits (before now : Option (List ℕ)) (faults risen : ℕ) (old new : ReaderState) : Type 0 where
  pub version : new.version ≡ old.version
  pub volumes : new.volumes ≡ old.volumes
  pub last : new.last ≡ old.last
  pub stopped : new.stopped ≡ old.stopped
  pub place : new.left.place ≡ old.left.place
  pub same : unread new.left.bytes now ≡ unread old.left.bytes before
  pub no_fault : risen ≡ faults

-- The trace ends so.
abbrev pub EndsTrace : (before now : Option (List ℕ)) → (faults risen : ℕ) → (old new : ReaderState) → TraceEnd → Type 0
EndsTrace before now faults risen old new Ended = EndsThere before old × (risen ≡ faults)
EndsTrace before now faults risen old new (BadTrace place) = (place ≡ old.left.place) × IsBadThere before old × (risen ≡ faults)
EndsTrace before now faults risen old new ReadFault = FailsThere before now old new × Rose faults risen

-- A piece came, which the window has room for; or the trace ends, and the reader has still to be stopped.
abbrev pub Continues : (before now : Option (List ℕ)) → (faults risen : ℕ) → (old new : ReaderState) → Option TraceEnd → Type 0
Continues before now faults risen old new None = Waits before now faults risen old new × (length old.left.bytes < length new.left.bytes) × (length new.left.bytes ≤ WINDOW_LENGTH)
Continues before now faults risen old new (Some end) = (new.version ≡ old.version) × (new.volumes ≡ old.volumes) × (new.last ≡ old.last) × EndsTrace before now faults risen old new end
