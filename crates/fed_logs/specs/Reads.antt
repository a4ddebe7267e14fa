-- What a feed has read of its trace, and what its calls are, for every way in which the trace may turn out.
use Rattle.std.specs.Prelude.{◌≡◌, ◌≤◌, ◌&&◌, ℕ, ◌+◌, List, [], ◌∷◌, ◌++◌, filter, Bool, true, false, nat_le, Option, Some, None, IsTrue}
use Rattle.std.specs.List.{list_all}
use Rattle.tod_stamp.specs.declared.stamp.Stamp.{Stamp}
use Rattle.ckd_track.specs.declared.write.Batch.{Batch}
use Rattle.ckd_track.specs.declared.write.Cause.{Cause}
use Rattle.ckd_track.specs.declared.write.Cause.TheVariants.{ReadFault}
use Rattle.write_trace.specs.declared.entry.Entry.{Entry}
use Rattle.write_trace.specs.declared.next.Stopped.{Stopped}
use Rattle.write_trace.specs.declared.trace.Trace.{Trace}
use Rattle.write_trace.specs.declared.trace.TraceEnd.TheVariants as ends
use Rattle.write_trace.specs.Answers.{ReaderState}
use Rattle.write_trace.specs.Entries.{stamp_of}
use Rattle.write_trace.specs.Writes.{writes_of}
use Rattle.primary_ctl.specs.States.{PrimaryState, track_of, base_in, is_on, after_writes}
use Rattle.sidefile.specs.Runs.{runs}
use Rattle.sidefile.specs.Breaks.{break_in, break_of, cause_of, has_broken}
use Rattle.sidefile.specs.AheadEntries.{IsAhead, IsFault, ahead, cause_ahead}
use Rattle.sidefile.specs.declared.hand.Halt.{Halt}
use Rattle.sidefile.specs.declared.hand.Halt.TheVariants as halts
use Rattle.group_state.specs.Runs.{Answer}
use Rattle.fed_logs.specs.ToldTracks.{is_write_up_to}
use Rattle.fed_logs.specs.Feeds.{AreFedBy, IsBatchOf, is_between}
use Rattle.fed_logs.specs.LaneFeeds.{FeedState, floor_after_calls, reporting_after_calls}

-- How the trace of a source turns out: all bytes that the source holds, or those that it gives before it fails.
pub data Outlook : Type 0 where
  Whole : Outlook
  Failing : Outlook

-- ---- what was read

-- the stamps of entries never fall, from `last` on
abbrev pub do_rise : (last : ℕ) → List Entry → Bool
do_rise last [] = true
do_rise last (e ∷ entries) = nat_le last (stamp_of e) && do_rise (stamp_of e) entries

abbrev pub is_up_to : (time : ℕ) → Entry → Bool
is_up_to time e = nat_le (stamp_of e) time

-- The trace ends as what is ahead does, or by a fault.
abbrev pub EndsAsAhead : Outlook → Trace → ReaderState → (rest : List ℕ) → Type 0
EndsAsAhead Whole t reader rest = cause_ahead reader rest ≡ cause_of t.end
EndsAsAhead Failing t reader rest = t.end ≡ ends.ReadFault

-- The held batch is that of this run, which is after the primary's time, up to the time that the sidefile has reported. Where none is held
-- these times are one.
abbrev pub IsHeldRun : Option Batch → (run : List Entry) → (time upto : ℕ) → Type 0
IsHeldRun None run time upto = (run ≡ []) × (time ≡ upto)
IsHeldRun (Some batch) run time upto = IsBatchOf run batch × (batch.upto.0 ≡ upto) × (time ≤ upto) × IsTrue (list_all (is_between time upto) run)

-- A feed that reads on has read so much of a trace of which these bytes are still ahead of its reader.
--   all: the trace's good entries are those whose writes the primary has, then the run that is held, then those ahead
--   reported, later: the first are up to the primary's time, and those ahead are after the time that the sidefile has reported
--   break_ahead: the break is still ahead, if there is one
pub record HasRead (o : Outlook) (rest : List ℕ) (t : Trace) (feed : FeedState) : Type 0 where
  pub rise : IsTrue (do_rise 0 t.entries)
  pub before : List Entry
  pub run : List Entry
  pub all : (before ++ run) ++ ahead feed.side.waiting feed.side.reader rest ≡ t.entries
  pub is_held : IsHeldRun feed.held run feed.primary.time feed.side.upto
  pub reported : IsTrue (list_all (is_up_to feed.primary.time) before)
  pub later : IsTrue (do_rise (feed.side.upto + 1) (ahead feed.side.waiting feed.side.reader rest))
  pub tracks : (v x : ℕ) → track_of feed.primary v x ≡ after_writes (base_in t.header.base v x) (filter (is_on v x) (writes_of before))
  pub ends_so : EndsAsAhead o t feed.side.reader rest
  pub break_ahead : break_in (cause_of t.end) (runs (ahead feed.side.waiting feed.side.reader rest)) ≡ break_of t
  pub unbroken : has_broken t feed.side.upto ≡ false

-- The primary's tracks are those of the trace at a time.
abbrev pub HasTracksAt : Trace → (time : ℕ) → PrimaryState → Type 0
HasTracksAt t time primary = (v x : ℕ) → track_of primary v x ≡ after_writes (base_in t.header.base v x) (filter (is_write_up_to v x time) (writes_of t.entries))

-- A feed has broken as its trace does, and the primary stands at the break time.
pub record HasBroken (t : Trace) (cause : Cause) (upto : ℕ) (feed : FeedState) : Type 0 where
  pub time : feed.primary.time ≡ upto
  pub is : break_of t ≡ Some (record { cause = cause; upto = upto })
  pub tracks : HasTracksAt t upto feed.primary

-- ---- how a trace may turn out after calls

-- A source may turn out so of which these bytes are still to come. It holds all its bytes where the feed hasn't broken by a fault. It fails
-- after them where the reader hasn't come to its end, or where the feed broke by the fault and none is to come.
abbrev pub MayTurnOut : Outlook → (later : List ℕ) → Option Halt → (stopped : Option Stopped) → Type 0
MayTurnOut Whole later None stopped = Unit {0}
MayTurnOut Whole later (Some (halts.Broken ReadFault upto)) stopped = ⊥
MayTurnOut Whole later (Some (halts.Broken cause upto)) stopped = Unit {0}
MayTurnOut Whole later (Some halts.NoMemory) stopped = Unit {0}
MayTurnOut Failing later None stopped = stopped ≡ None
MayTurnOut Failing later (Some (halts.Broken ReadFault upto)) stopped = later ≡ []
MayTurnOut Failing later (Some (halts.Broken cause upto)) stopped = ⊥
MayTurnOut Failing later (Some halts.NoMemory) stopped = ⊥

abbrev pub MayTurnOutOf : Outlook → (later : List ℕ) → FeedState → Type 0
MayTurnOutOf o later feed = MayTurnOut o later feed.halted feed.side.reader.stopped

-- The source fails after these bytes: an entry is cut there. Where the feed broke by the fault none is to come.
abbrev pub IsToFail : (later : List ℕ) → Option Halt → ReaderState → Type 0
IsToFail later None reader = (reader.stopped ≡ None) × IsFault reader later
IsToFail later (Some (halts.Broken ReadFault upto)) reader = later ≡ []
IsToFail later (Some (halts.Broken cause upto)) reader = ⊥
IsToFail later (Some halts.NoMemory) reader = ⊥

abbrev pub IsToFailIn : (later : List ℕ) → FeedState → Type 0
IsToFailIn later feed = IsToFail later feed.halted feed.side.reader

-- All bytes that are left come, or some that come before a fault.
abbrev pub IsStillToCome : Outlook → (rest later : List ℕ) → Type 0
IsStillToCome Whole rest later = later ≡ rest
IsStillToCome Failing rest later = Unit {0}

-- How a feed stands after calls. Nothing is said where there was no memory.
abbrev pub StandsSo : Outlook → (later : List ℕ) → Trace → FeedState → Option Halt → Type 0
StandsSo o later t feed None = HasRead o later t feed
StandsSo o later t feed (Some (halts.Broken cause upto)) = HasBroken t cause upto.0 feed
StandsSo o later t feed (Some halts.NoMemory) = Unit {0}

-- The calls on a feed were fed by its trace, and it stands so after them.
pub record Went (o : Outlook) (later : List ℕ) (t : Trace) (old new : FeedState) (gained : List Answer) : Type 0 where
  pub fed : AreFedBy t old.primary.time gained
  pub stands : StandsSo o later t new new.halted

-- ---- reading on

-- These bytes are left: they are ahead of a feed that reads on, and at a fault they are all that the source still tells.
abbrev pub AreLeft : (now : Option (List ℕ)) → Option Halt → ReaderState → (rest : List ℕ) → Type 0
AreLeft now None reader rest = IsAhead reader now rest
AreLeft now (Some (halts.Broken ReadFault upto)) reader rest = now ≡ Some rest
AreLeft now (Some (halts.Broken cause upto)) reader rest = Unit {0}
AreLeft now (Some halts.NoMemory) reader rest = Unit {0}

-- Calls on a feed used some of the bytes that were ahead of it. However the trace turns out after them, the calls were fed by it.
--   could: the trace might turn out so before the calls too
--   fails: where the source fails after the calls, it failed so after them all
pub record ReadsBytes (now : Option (List ℕ)) (old new : FeedState) (gained : List Answer) (bytes : List ℕ) : Type 0 where
  pub used : List ℕ
  pub rest : List ℕ
  pub split : bytes ≡ used ++ rest
  pub left : AreLeft now new.halted new.side.reader rest
  pub could : (o : Outlook) (later : List ℕ) → MayTurnOutOf o later new → MayTurnOutOf o (used ++ later) old
  pub fails : (later : List ℕ) → IsToFailIn later new → IsToFailIn (used ++ later) old
  pub reads : (o : Outlook) (t : Trace) (later : List ℕ) → IsStillToCome o rest later → MayTurnOutOf o later new → HasRead o (used ++ later) t old → Went o later t old new gained

-- Calls on a feed read on.
--   stays: a feed that reads no further makes no call and asks its source for nothing
--   floor: the primary stands at the floor that the calls report
--   reporting, told: while the feed reads on no call reported a break, and if it broke one did
pub record ReadsOn (before now : Option (List ℕ)) (old new : FeedState) (gained : List Answer) : Type 0 where
  pub stays : (halt : Halt) → old.halted ≡ Some halt → (new ≡ old) × (gained ≡ []) × (now ≡ before)
  pub floor : (new.halted ≡ Some halts.NoMemory → ⊥) → floor_after_calls old.primary.time gained ≡ new.primary.time
  pub reporting : new.halted ≡ None → IsTrue (reporting_after_calls true gained)
  pub told : old.halted ≡ None → (cause : Cause) (upto : Stamp) → new.halted ≡ Some (halts.Broken cause upto) → reporting_after_calls true gained ≡ false
  pub reads : old.halted ≡ None → (bytes : List ℕ) → IsAhead old.side.reader before bytes → ReadsBytes now old new gained bytes
