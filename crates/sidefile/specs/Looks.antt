-- What a look at the next entry finds, and what the rest of a run is found to be.
use Rattle.std.specs.Prelude.{◌≡◌, ◌<◌, ◌≤◌, ℕ, ◌+◌, ◌==◌, List, [], ◌∷◌, ◌++◌, length, All, Bool, Option, Some, None, Result, Ok, Err, IsTrue}
use Rattle.std.specs.List.{list_all}
use Rattle.ckd_track.specs.declared.layout.TheConstants.{WRITES_OF_RUN}
use Rattle.xrc_edge.specs.Causes.{Rose}
use Rattle.ckd_track.specs.declared.write.Write.{Write}
use Rattle.ckd_track.specs.declared.write.Cause.{Cause}
use Rattle.ckd_track.specs.declared.write.Cause.TheVariants.{ReadFault, BadTrace, Crowded}
use Rattle.write_trace.specs.declared.header.VolumeHead.{VolumeHead}
use Rattle.write_trace.specs.declared.entry.Entry.{Entry}
use Rattle.write_trace.specs.declared.entry.Entry.TheVariants.{Written}
use Rattle.write_trace.specs.declared.trace.TraceEnd.TheVariants as ends
use Rattle.write_trace.specs.Entries.{stamp_of}
use Rattle.write_trace.specs.WholeTraces.{last_entry_stamp}
use Rattle.write_trace.specs.Writes.{writes_of, IsWriteTo}
use Rattle.write_trace.specs.declared.next.Stopped.TheVariants.{AtEnd, NoMemory}
use Rattle.write_trace.specs.UnreadBytes.{unread}
use Rattle.write_trace.specs.Answers.{ReaderState, ReadsEntry, EndsThere, IsBadThere, FailsThere, Stops}
use Rattle.sidefile.specs.declared.look.Look.{Look}
use Rattle.sidefile.specs.declared.look.Look.TheVariants as looks
use Rattle.sidefile.specs.AheadEntries.{IsFault, read_of, cause_ahead}

-- ---- one look

-- What a reader that goes on finds.
abbrev pub FindsNext : (before now : Option (List ℕ)) → (faults risen : ℕ) → (old new : ReaderState) → Look → Type 0
FindsNext before now faults risen old new (looks.Next e) = ReadsEntry before now old new e × (risen ≡ faults)
FindsNext before now faults risen old new looks.Ended = EndsThere before old × Stops old new (AtEnd ends.Ended) × (risen ≡ faults)
FindsNext before now faults risen old new (looks.Bad (BadTrace place)) =
    (place ≡ old.left.place) × IsBadThere before old × Stops old new (AtEnd (ends.BadTrace place)) × (risen ≡ faults)
FindsNext before now faults risen old new (looks.Bad ReadFault) = FailsThere before now old new × Stops old new (AtEnd ends.ReadFault) × Rose faults risen
FindsNext before now faults risen old new (looks.Bad (Crowded stamp)) = ⊥
FindsNext before now faults risen old new looks.NoMemory = Stops old new NoMemory × (risen ≡ faults)

-- ---- a row of entries

-- The entry's write, if it has one, names a track of these volumes and keeps its rules, and its stamp is 1 at least.
abbrev pub IsEntryTo : List VolumeHead → Entry → Type 0
IsEntryTo volumes e = (1 ≤ stamp_of e) × All (IsWriteTo volumes) (writes_of (e ∷ []))

-- Entries were read one after another, where the source tells its bytes: whatever stands after the bytes of these entries, they
-- are read as these and what is read of it.
pub record EntriesAreRead (old new : ReaderState) (taken : List Entry) (bytes rest : List ℕ) : Type 0 where
  pub used : List ℕ
  pub split : bytes ≡ used ++ rest
  pub place : new.left.place ≡ old.left.place + length used
  pub fronts : (front : List ℕ) → read_of old (used ++ front) ≡ (taken ++ (read_of new front).0, (read_of new front).1)
  pub last : new.last ≡ last_entry_stamp old.last taken
  pub version : new.version ≡ old.version
  pub volumes : new.volumes ≡ old.volumes
  pub same_end : cause_ahead new rest ≡ cause_ahead old bytes

abbrev pub ReadsAllEntries : (before now : Option (List ℕ)) → (old new : ReaderState) → (taken : List Entry) → Type 0
ReadsAllEntries before now old new taken =
    (bytes : List ℕ) → unread old.left.bytes before ≡ Some bytes → (rest : List ℕ) × (unread new.left.bytes now ≡ Some rest) × EntriesAreRead old new taken bytes rest

-- These are all entries that are ahead, and then the trace ends so.
abbrev pub EndsAfter : (before : Option (List ℕ)) → (old : ReaderState) → (taken : List Entry) → Option Cause → Type 0
EndsAfter before old taken cause = (bytes : List ℕ) → unread old.left.bytes before ≡ Some bytes → ((read_of old bytes).0 ≡ taken) × (cause_ahead old bytes ≡ cause)

-- These are all entries that the source gave, and then it failed. It still tells what it has left.
abbrev pub FailsAfter : (before now : Option (List ℕ)) → (old : ReaderState) → (taken : List Entry) → Type 0
FailsAfter before now old taken =
    (bytes : List ℕ) → unread old.left.bytes before ≡ Some bytes → (left : List ℕ) × (now ≡ Some left) × (front : List ℕ) × (bytes ≡ front ++ left) × ((read_of old front).0 ≡ taken) × IsFault old front

-- After these entries stands a further write.
abbrev pub WritesAfter : (before : Option (List ℕ)) → (old : ReaderState) → (taken : List Entry) → (stamp : ℕ) → Type 0
WritesAfter before old taken stamp =
    (bytes : List ℕ) → unread old.left.bytes before ≡ Some bytes → (w : Write) × (more : List Entry) × ((read_of old bytes).0 ≡ taken ++ Written w ∷ more) × (w.stamp.0 ≡ stamp)

-- ---- the rest of a run

-- The writes of an entry were put after those of its run, or the entry is one write too many, or there was no memory.
abbrev pub AddsWrites : (old new : List Write) → Entry → Result (Unit {0}) Look → Type 0
AddsWrites old new e (Ok done) = (new ≡ old ++ writes_of (e ∷ [])) × (length new ≤ WRITES_OF_RUN)
AddsWrites old new e (Err looks.NoMemory) = new ≡ old
AddsWrites old new e (Err (looks.Bad (Crowded s))) = (new ≡ old) × (length old ≡ WRITES_OF_RUN) × ((w : Write) × (e ≡ Written w) × (w.stamp ≡ s))
AddsWrites old new e (Err other) = ⊥

abbrev pub have_stamp : (stamp : ℕ) → List Entry → Bool
have_stamp stamp entries = list_all (λ e. stamp_of e == stamp) entries

-- What was found after the entries of a stamp that were taken.
abbrev pub FoundAfter : (before now : Option (List ℕ)) → (faults risen : ℕ) → (old new : ReaderState) → (stamp : ℕ) → (taken : List Entry) → (writes : List Write) → Look → Type 0
FoundAfter before now faults risen old new stamp taken writes (looks.Next e) =
    ReadsAllEntries before now old new (taken ++ e ∷ []) × IsEntryTo old.volumes e × (stamp < stamp_of e) × (new.last ≡ stamp_of e) × (new.stopped ≡ None) × (risen ≡ faults)
FoundAfter before now faults risen old new stamp taken writes looks.Ended = EndsAfter before old taken None × (new.stopped ≡ Some (AtEnd ends.Ended)) × (risen ≡ faults)
FoundAfter before now faults risen old new stamp taken writes (looks.Bad (BadTrace place)) = EndsAfter before old taken (Some (BadTrace place)) × (risen ≡ faults)
FoundAfter before now faults risen old new stamp taken writes (looks.Bad ReadFault) = FailsAfter before now old taken × Rose faults risen
FoundAfter before now faults risen old new stamp taken writes (looks.Bad (Crowded s)) = (s.0 ≡ stamp) × (length writes ≡ WRITES_OF_RUN) × WritesAfter before old taken stamp × (risen ≡ faults)
FoundAfter before now faults risen old new stamp taken writes looks.NoMemory = risen ≡ faults

-- The rest of a run was taken: its entries, all of that stamp, and their writes after those that were there.
pub record TakesRun (before now : Option (List ℕ)) (faults risen : ℕ) (old new : ReaderState) (stamp : ℕ) (first all : List Write) (look : Look) : Type 0 where
  pub taken : List Entry
  pub stamps : IsTrue (have_stamp stamp taken)
  pub kept : All (IsWriteTo old.volumes) (writes_of taken)
  pub writes : all ≡ first ++ writes_of taken
  pub room : length all ≤ WRITES_OF_RUN
  pub volumes : new.volumes ≡ old.volumes
  pub found : FoundAfter before now faults risen old new stamp taken all look
