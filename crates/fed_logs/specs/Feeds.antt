-- Calls of readers that are fed by their controllers' traces.
use Rattle.std.specs.Prelude.{◌≡◌, ◌≤◌, ℕ, ◌+◌, ◌==◌, ◌&&◌, ◌||◌, List, [], ◌∷◌, length, filter, slice_get, Bool, true, false, Some, nat_lt, nat_le, MatchBool, IsTrue}
use Rattle.std.specs.List.{list_all, list_any}
use Rattle.ckd_track.specs.declared.layout.TheConstants.{WRITES_OF_RUN}
use Rattle.ckd_track.specs.declared.write.Batch.{Batch}
use Rattle.write_trace.specs.declared.entry.Entry.{Entry}
use Rattle.write_trace.specs.declared.trace.Trace.{Trace}
use Rattle.write_trace.specs.Entries.{stamp_of}
use Rattle.write_trace.specs.Writes.{writes_of}
use Rattle.sidefile.specs.Runs.{runs}
use Rattle.sidefile.specs.Breaks.{break_of, has_broken}
use Rattle.primary_ctl.specs.States.{base_in, after_writes}
use Rattle.primary_ctl.specs.Primaries.{primary}
use Rattle.group_state.specs.Groups.{Group}
use Rattle.group_state.specs.Machine.{Call}
use Rattle.group_state.specs.Machine.Call.{Join, NextWanted, Copied, Raise, Break, Form, Carry, Drop, Resume, Forget}
use Rattle.group_state.specs.Calls.{is_by_reader, is_by_mover}
use Rattle.group_state.specs.Runs.{Answer}
use Rattle.fed_logs.specs.ToldTracks.{Truth, floor_of, has_changed, is_write_up_to}

-- the tracks of the primaries of traces
abbrev pub truth_of : List Trace → Truth
truth_of traces = λ k v x t. primary traces t k v x

-- an entry after one time, up to another
abbrev pub is_between : (from to : ℕ) → Entry → Bool
is_between from to e = nat_lt from (stamp_of e) && nat_le (stamp_of e) to

-- the good entries of a trace after one time, up to another
abbrev pub entries_between : Trace → (from to : ℕ) → List Entry
entries_between t from to = filter (is_between from to) t.entries

-- A batch has the writes of these entries, which are exactly one run.
pub record IsBatchOf (run : List Entry) (b : Batch) : Type 0 where
  pub one : length (runs run) ≡ 1
  pub writes : b.writes ≡ writes_of run
  pub room : length b.writes ≤ WRITES_OF_RUN

-- the controller's floor after a call of its reader that changed the state
abbrev pub floor_after_call : (floor : ℕ) → Call → ℕ
floor_after_call floor (Join b) = b.upto.0
floor_after_call floor (NextWanted k) = floor
floor_after_call floor (Copied k v x at slot) = floor
floor_after_call floor (Raise k upto) = upto.0
floor_after_call floor (Break k upto cause) = upto.0
floor_after_call floor (Form limit) = floor
floor_after_call floor (Carry k v plan) = floor
floor_after_call floor (Drop k v all) = floor
floor_after_call floor (Resume k v) = floor
floor_after_call floor (Forget k v) = floor

-- A call of a controller's reader is fed by its trace, from the controller's floor on. A batch is the trace's next run: the entries after the floor
-- up to the batch's time. A raise and a break have no entry there. A batch and a raise come up to the trace's break time at most, and a break is
-- the trace's. A copied track is the primary's at the floor.
abbrev pub IsFedBy : Trace → (floor : ℕ) → Call → Type 0
IsFedBy t floor (Join b) = IsBatchOf (entries_between t floor b.upto.0) b × (has_broken t b.upto.0 ≡ false)
IsFedBy t floor (NextWanted k) = Unit {0}
IsFedBy t floor (Copied k v x at slot) = slot ≡ after_writes (base_in t.header.base v x) (filter (is_write_up_to v x floor) (writes_of t.entries))
IsFedBy t floor (Raise k upto) = (entries_between t floor upto.0 ≡ []) × (has_broken t upto.0 ≡ false)
IsFedBy t floor (Break k upto cause) = (entries_between t floor upto.0 ≡ []) × (break_of t ≡ Some (record { cause = cause; upto = upto.0 }))
IsFedBy t floor (Form limit) = Unit {0}
IsFedBy t floor (Carry k v plan) = Unit {0}
IsFedBy t floor (Drop k v all) = Unit {0}
IsFedBy t floor (Resume k v) = Unit {0}
IsFedBy t floor (Forget k v) = Unit {0}

-- Answered calls one after another, from a floor on. What was held, what was stale and what only asked reports nothing.
abbrev pub AreFedBy : Trace → (floor : ℕ) → List Answer → Type 0
AreFedBy t floor [] = Unit {0}
AreFedBy t floor (answer ∷ run) = MatchBool (has_changed answer.reply) (IsFedBy t floor answer.call × AreFedBy t (floor_after_call floor answer.call) run) (AreFedBy t floor run)

-- ---- how far a call goes

abbrev pub is_entry_at : (time : ℕ) → Entry → Bool
is_entry_at time e = stamp_of e == time

-- whether a good entry of a trace has this stamp
abbrev pub has_entry_at : Trace → (time : ℕ) → Bool
has_entry_at t time = list_any (is_entry_at time) t.entries

-- Whether a call of a controller's reader goes as far towards a limit as the controller's trace lets it. A raise goes to the limit. A batch goes to
-- the limit, or less far to just before an entry. A break's time is the trace's.
abbrev pub goes_up_to : (limit : ℕ) → Trace → Call → Bool
goes_up_to limit t (Join b) = b.upto.0 == limit || (nat_lt b.upto.0 limit && has_entry_at t (b.upto.0 + 1))
goes_up_to limit t (NextWanted k) = true
goes_up_to limit t (Copied k v x at slot) = true
goes_up_to limit t (Raise k upto) = upto.0 == limit
goes_up_to limit t (Break k upto cause) = true
goes_up_to limit t (Form given) = true
goes_up_to limit t (Carry k v plan) = true
goes_up_to limit t (Drop k v all) = true
goes_up_to limit t (Resume k v) = true
goes_up_to limit t (Forget k v) = true

abbrev pub is_up_to_limit : (limit : ℕ) → Trace → Answer → Bool
is_up_to_limit limit t answer = goes_up_to limit t answer.call

-- ---- whose a call is

-- whether a call is one of a controller's reader
abbrev pub is_answer_of : (control : ℕ) → Answer → Bool
is_answer_of k answer = is_by_reader k answer.call

-- whether a call is one of some reader
abbrev pub is_call_of_reader : Call → Bool
is_call_of_reader (Join b) = true
is_call_of_reader (NextWanted k) = true
is_call_of_reader (Copied k v x at slot) = true
is_call_of_reader (Raise k upto) = true
is_call_of_reader (Break k upto cause) = true
is_call_of_reader (Form limit) = false
is_call_of_reader (Carry k v plan) = false
is_call_of_reader (Drop k v all) = false
is_call_of_reader (Resume k v) = false
is_call_of_reader (Forget k v) = false

-- whether a call is one that the mover makes while readers are beside it
abbrev pub is_answer_of_mover : Answer → Bool
is_answer_of_mover answer = is_by_mover answer.call

-- the mover's part of a run, and a reader's
abbrev pub part_of_mover : List Answer → List Answer
part_of_mover run = filter is_answer_of_mover run

abbrev pub part_of_reader : (control : ℕ) → List Answer → List Answer
part_of_reader k run = filter (is_answer_of k) run

-- Each reader's part of a run from a state on is fed by its controller's trace.
abbrev pub AllAreFed : List Trace → Group → List Answer → Type 0
AllAreFed traces s run = (k : ℕ) (t : Trace) → slice_get traces k ≡ Some t → AreFedBy t (floor_of s k) (part_of_reader k run)

-- Each reader's part of a run goes as far towards a limit as its controller's trace lets it.
abbrev pub AllGoUpTo : (limit : ℕ) → List Trace → List Answer → Type 0
AllGoUpTo limit traces run = (k : ℕ) (t : Trace) → slice_get traces k ≡ Some t → IsTrue (list_all (is_up_to_limit limit t) (part_of_reader k run))
