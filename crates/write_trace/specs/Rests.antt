-- The entries that are left in a trace, and how the trace ends after them.
use Rattle.std.specs.Prelude.{◌≡◌, ℕ, ◌+◌, List, ◌++◌, length, Bool, true, false, Option, Some}
use Rattle.xrc_edge.specs.Causes.{Rose}
use Rattle.tod_stamp.specs.Fields.{Left}
use Rattle.write_trace.specs.declared.entry.Entry.{Entry}
use Rattle.write_trace.specs.declared.trace.TraceEnd.{TraceEnd}
use Rattle.write_trace.specs.declared.trace.TraceEnd.TheVariants.{Ended, BadTrace, ReadFault}
use Rattle.write_trace.specs.WholeTraces.{entries_from, end_of, last_entry_stamp}
use Rattle.write_trace.specs.UnreadBytes.{unread, seen}
use Rattle.write_trace.specs.Answers.{ReaderState}

-- the good entries of bytes that stand where a reader is, and what is left after them
abbrev pub rest_of : ReaderState → List ℕ → List Entry × Left
rest_of r bytes = let left = seen r.left.place bytes in entries_from (length left.bytes) r.version r.volumes r.last left

-- The good entries of these bytes, which stand where a reader is, and the end after them of a trace of which they are the last
-- bytes that were given.
pub record IsRest (failed : Bool) (r : ReaderState) (bytes : List ℕ) (entries : List Entry) (end : TraceEnd) : Type 0 where
  pub good : (rest_of r bytes).0 ≡ entries
  pub ends : (given : List ℕ) → length given ≡ r.left.place + length bytes → end_of failed given r.version r.volumes (last_entry_stamp r.last entries) (rest_of r bytes).1 ≡ end

-- The rest of all bytes that are ahead.
abbrev pub IsRestOfAll : (before : Option (List ℕ)) → ReaderState → List Entry → TraceEnd → Type 0
IsRestOfAll before r entries end = (bytes : List ℕ) → unread r.left.bytes before ≡ Some bytes → IsRest false r bytes entries end

-- The rest of those bytes ahead that were given.
abbrev pub IsRestOfGiven : (before now : Option (List ℕ)) → ReaderState → List Entry → TraceEnd → Type 0
IsRestOfGiven before now r entries end = (bytes left : List ℕ) → unread r.left.bytes before ≡ Some bytes → now ≡ Some left → (given : List ℕ) × (bytes ≡ given ++ left) × IsRest true r given entries end

-- The entries that are left are these, and the trace ends so. The count of the source's faults rose only where it ends by a fault.
abbrev pub ReadsRest : (before now : Option (List ℕ)) → (faults risen : ℕ) → ReaderState → List Entry → TraceEnd → Type 0
ReadsRest before now faults risen r entries Ended = IsRestOfAll before r entries Ended × (risen ≡ faults)
ReadsRest before now faults risen r entries (BadTrace place) = IsRestOfAll before r entries (BadTrace place) × (risen ≡ faults)
ReadsRest before now faults risen r entries ReadFault = IsRestOfGiven before now r entries ReadFault × Rose faults risen
