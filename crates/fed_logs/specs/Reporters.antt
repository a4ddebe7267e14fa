-- What a reader reports of its controller, and how its feed stands to it.
use Rattle.std.specs.Prelude.{◌≡◌, ◌<◌, ℕ, max, List, [], ◌∷◌, ◌++◌, Bool, Option, Some, None, if◌then◌else◌, IsTrue}
use Rattle.std.specs.List.{list_all}
use Rattle.tod_stamp.specs.declared.stamp.Stamp.{Stamp}
use Rattle.ckd_track.specs.declared.write.Batch.{Batch}
use Rattle.ckd_track.specs.declared.write.Cause.{Cause}
use Rattle.ckd_track.specs.declared.write.Cause.TheVariants.{ReadFault}
use Rattle.xrc_edge.specs.Causes.{Rose}
use Rattle.pending_queue.specs.declared.room.Room.{Room}
use Rattle.write_trace.specs.declared.header.VolumeHead.{VolumeHead}
use Rattle.sidefile.specs.AheadEntries.{IsAhead}
use Rattle.sidefile.specs.declared.hand.Halt.{Halt}
use Rattle.sidefile.specs.declared.hand.Halt.TheVariants as halts
use Rattle.primary_ctl.specs.States.{PrimaryState, track_of}
use Rattle.group_state.specs.declared.joining.CopyJoin.{CopyJoin}
use Rattle.group_state.specs.Answers.{copy_reply}
use Rattle.group_state.specs.Machine.{Call, Reply}
use Rattle.group_state.specs.Calls.{reporting_after}
use Rattle.group_state.specs.Runs.{Answer}
use Rattle.fed_logs.specs.declared.reading.Reading.{Reading}
use Rattle.fed_logs.specs.declared.reading.Reading.TheVariants as readings
use Rattle.fed_logs.specs.ToldTracks.{has_changed}
use Rattle.fed_logs.specs.Feeds.{floor_after_call}
use Rattle.fed_logs.specs.ShownBreaks.{is_break_below}
use Rattle.fed_logs.specs.LaneFeeds.{FeedState}
use Rattle.fed_logs.specs.Reads.{ReadsOn}
use Rattle.fed_logs.specs.Limits.{GoesUpTo}
use Rattle.fed_logs.specs.Steps.{FeedStep, held_answer, wanted_answer, copied_answer}

-- A reporter: its controller, the volumes of the controller's trace, the controller's floor, whether the controller still reports, and the calls that
-- were made with their replies.
pub record ReporterState : Type 0 where
  pub control : ℕ
  pub volumes : List VolumeHead
  pub floor : ℕ
  pub reporting : Bool
  pub answers : List Answer

-- a reporter after a call with this reply
abbrev pub reporter_after : Call → Reply → ReporterState → ReporterState
reporter_after call reply s = record s {
  floor = if has_changed reply then floor_after_call s.floor call else s.floor;
  reporting = reporting_after call s.reporting;
  answers = s.answers ++ record { call = call; reply = reply } ∷ [];
}

-- A feed's reporter is of its controller and its trace's volumes. While the feed reads on the controller reports, and its floor is the primary's
-- time.
pub record IsToldBy (feed : FeedState) (s : ReporterState) : Type 0 where
  pub control : s.control ≡ feed.side.control
  pub volumes : s.volumes ≡ feed.side.reader.volumes
  pub floor : feed.halted ≡ None → s.floor ≡ feed.primary.time
  pub reporting : feed.halted ≡ None → IsTrue s.reporting

-- ---- what became of a step

abbrev pub HoldsBatch : Option Batch → Type 0
HoldsBatch held = (batch : Batch) × (held ≡ Some batch)

-- How a feed stands after a step towards a limit.
abbrev pub StandsAs : Reading → (limit : ℕ) → FeedState → Type 0
StandsAs readings.Joined limit feed = (feed.halted ≡ None) × (feed.held ≡ None)
StandsAs (readings.Held room) limit feed = (feed.halted ≡ None) × HoldsBatch feed.held
StandsAs readings.AtLimit limit feed = (feed.halted ≡ None) × (feed.held ≡ None) × (feed.primary.time ≡ limit)
StandsAs readings.Broken limit feed = (cause : Cause) × (upto : Stamp) × (feed.halted ≡ Some (halts.Broken cause upto))
StandsAs readings.NoMemory limit feed = feed.halted ≡ Some halts.NoMemory

abbrev pub StandsAsOrHolds : Option Reading → (limit : ℕ) → FeedState → Type 0
StandsAsOrHolds None limit feed = (feed.halted ≡ None) × HoldsBatch feed.held
StandsAsOrHolds (Some reading) limit feed = StandsAs reading limit feed

-- The count of the source's faults rose only where the feed broke by one.
abbrev pub HasFaultBy : (faults risen : ℕ) → Option Halt → Type 0
HasFaultBy faults risen None = risen ≡ faults
HasFaultBy faults risen (Some (halts.Broken ReadFault upto)) = Rose faults risen
HasFaultBy faults risen (Some (halts.Broken cause upto)) = risen ≡ faults
HasFaultBy faults risen (Some halts.NoMemory) = risen ≡ faults

-- ---- what was reported

-- A reporter stays one of its controller and of its trace's volumes.
pub record IsSameReporter (told after : ReporterState) : Type 0 where
  pub control : after.control ≡ told.control
  pub volumes : after.volumes ≡ told.volumes

-- One step of a reader, and what it reported.
pub record StepsOn (before now : Option (List ℕ)) (limit : Stamp) (old new : FeedState) (told after : ReporterState) : Type 0 where
  pub same : IsSameReporter told after
  pub gained : List Answer
  pub answers : after.answers ≡ told.answers ++ gained
  pub step : FeedStep before now limit old new gained

-- Calls of a reader read on, and were reported.
pub record ReportsOn (before now : Option (List ℕ)) (old new : FeedState) (told after : ReporterState) : Type 0 where
  pub same : IsSameReporter told after
  pub gained : List Answer
  pub answers : after.answers ≡ told.answers ++ gained
  pub reads_on : ReadsOn before now old new gained

-- The calls on a feed that a reporter gained go as far towards a limit as the trace lets them.
abbrev pub ReportsUpTo : (limit : ℕ) → (before now : Option (List ℕ)) → (old new : FeedState) → (told after : ReporterState) → Type 0
ReportsUpTo limit before now old new told after = (gained : List Answer) → after.answers ≡ told.answers ++ gained → GoesUpTo limit before now old new gained

-- ---- breaks below a limit

-- A break that is reported up to a limit lies below this time: the limit, or 1 at the limit 0. A trace that is bad before its first entry breaks at
-- 0, also at the limit 0.
abbrev pub break_bound : (limit : ℕ) → ℕ
break_bound limit = max 1 limit

-- A feed that has broken did so below this time.
abbrev pub IsHaltBelow : (limit : ℕ) → Option Halt → Type 0
IsHaltBelow limit None = Unit {0}
IsHaltBelow limit (Some (halts.Broken cause upto)) = upto.0 < break_bound limit
IsHaltBelow limit (Some halts.NoMemory) = Unit {0}

-- The breaks that calls on a feed reported are below a limit, if bytes are ahead of the feed.
--   told_so: each answer that the reporter gained, where it is of a break
--   halts: the break after which the feed reads no further
pub record BreaksBelow (limit : ℕ) (before : Option (List ℕ)) (old new : FeedState) (told after : ReporterState) : Type 0 where
  pub told_so : (bytes : List ℕ) → IsAhead old.side.reader before bytes → (gained : List Answer) → after.answers ≡ told.answers ++ gained → IsTrue (list_all (is_break_below (break_bound limit)) gained)
  pub halts : old.halted ≡ None → (bytes : List ℕ) → IsAhead old.side.reader before bytes → IsHaltBelow limit new.halted

-- ---- what was refused

-- The batch that is held was reported, and refused for this room. That is all that was reported.
pub record WasRefused (room : Room) (feed : FeedState) (told after : ReporterState) : Type 0 where
  pub batch : Batch
  pub holds : feed.held ≡ Some batch
  pub answers : after.answers ≡ told.answers ++ held_answer batch room ∷ []

-- It was so where a step answers that a batch is held.
abbrev pub IsRefusedBy : Reading → FeedState → (told after : ReporterState) → Type 0
IsRefusedBy reading feed told after = (room : Room) → reading ≡ readings.Held room → WasRefused room feed told after

-- ---- what was copied

-- the answers by which a wanted track of a primary is reported
abbrev pub copying_answers : (control : ℕ) → PrimaryState → (volume track : ℕ) → (at : Stamp) → CopyJoin → List Answer
copying_answers k primary v x at joined = wanted_answer k (Some (v, x)) ∷ copied_answer k v x at (track_of primary v x) (copy_reply joined) ∷ []

-- A track was asked for. The one that is wanted was reported as the primary has it at its time. That is all that was reported.
pub record WasReportedCopied (joined : CopyJoin) (feed : FeedState) (told after : ReporterState) : Type 0 where
  pub volume : ℕ
  pub track : ℕ
  pub at : Stamp
  pub time : at.0 ≡ feed.primary.time
  pub answers : after.answers ≡ told.answers ++ copying_answers told.control feed.primary volume track at joined

abbrev pub IsCopiedBy : Option CopyJoin → FeedState → (told after : ReporterState) → Type 0
IsCopiedBy None feed told after = after.answers ≡ told.answers ++ wanted_answer told.control None ∷ []
IsCopiedBy (Some joined) feed told after = WasReportedCopied joined feed told after
