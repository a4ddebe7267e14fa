-- An epoch: its calls are one run of the shared state, of which each lane's and the mover's are parts, and what this makes of tracks.
use Rattle.std.specs.Prelude.{◌≡◌, ◌≢◌, ℕ, ◌+◌, ◌<◌, ◌≤◌, false, List, ◌++◌, length, take, Option, Some, None, Result, Ok, Err, OnOk, IsSomeAnd, IsTrue, nat_lt, if◌then◌else◌, slice_get, slice_index_or}
use Rattle.std.specs.List.{list_all}
use Rattle.crash_plant.specs.Moments.{PlantState}
use Rattle.write_trace.specs.declared.trace.Trace.{Trace}
use Rattle.tod_stamp.specs.declared.stamp.Stamp.{Stamp}
use Rattle.ckd_track.specs.declared.write.Cause.{Cause}
use Rattle.sidefile.specs.Breaks.{Break, break_of, break_time}
use Rattle.group_state.specs.Groups.{Group}
use Rattle.group_state.specs.Runs.{Answer, Runs}
use Rattle.group_state.specs.SoundStates.{IsGroupSound}
use Rattle.fed_logs.specs.ToldTracks.{HeldTracks}
use Rattle.pair_table.specs.declared.row.PairRow.{PairRow}
use Rattle.pair_table.specs.Tables.{in_state, none_clash}
use Rattle.record_rows.specs.Deeds.{Deed, rows_after_deeds, time_meant_after}
use Rattle.record_rows.specs.ToldRows.{InPlaces}
use Rattle.site_store.specs.DeedChanges.{AreByChanges, DeedOfChanges, deeds_of}
use Rattle.site_store.specs.DoneDeeds.{BeginsDeeds}
use Rattle.site_store.specs.Exceptions.{Exceptions}
use Rattle.fed_logs.specs.Deeds.{held_after_deeds}
use Rattle.fed_logs.specs.Feeds.{AllGoUpTo, part_of_mover, part_of_reader, truth_of}
use Rattle.fed_logs.specs.LogLaws.{ReportsBreak}
use Rattle.fed_logs.specs.Logs.{AreSized, AwaitsBreak, BeginsLog, HoldTruth, IsFedLog, Sizes, is_call_of_seat}
use Rattle.fed_logs.specs.Moves.{AreEntriesLive, MakesDeeds, Plans}
use Rattle.fed_logs.specs.ShownBreaks.{BreaksAreToCome, BrokeAsTraces}
use Rattle.fed_logs.specs.Reads.{AreLeft, HasRead, IsStillToCome, MayTurnOutOf, Outlook, ReadsOn}
use Rattle.sidefile.specs.AheadEntries.{IsAhead}
use Rattle.primary_ctl.specs.Primaries.{none_falls}
use Rattle.pair_table.specs.States.{is_settled}
use Rattle.turn_group.specs.Seats.{new_mover}
use Rattle.site_store.specs.declared.store_error.StoreError.{StoreError}
use Rattle.site_store.specs.Sites.{SiteState}
use Rattle.site_store.specs.Standing.{SiteStands}
use Rattle.mover.specs.declared.ends.EpochEnd.{EpochEnd}
use Rattle.mover.specs.declared.ends.EpochEnd.TheVariants as ends
use Rattle.mover.specs.declared.lane.Lane.{Lane}
use Rattle.mover.specs.Readers.{LaneReaderState, no_table}
use Rattle.mover.specs.Dropping.{OwesExactly}
use Rattle.mover.specs.Moves.{AreHitsCounted, Did, InPlacesByDeeds, IsLeftAfter, KeepsAll, KeepsPair, KnowsDuplex, LogsEntriesOf, MayMove, SessionGoesOn}
use Rattle.mover.specs.Groups.{is_at_limit}
use Rattle.mover.specs.Numbers.{UsesNumbersOf}
use Rattle.mover.specs.Steps.{AreMade}
use Rattle.consistency.specs.Stages.{ScriptRun, breaks_of}
use Rattle.consistency.specs.Leads.{Point}
use Rattle.row_changes.specs.Changes.Due.{NoneDue}
use Rattle.mover.specs.Points.{AreSteps, point_after_deeds}
use Rattle.mover.specs.OwedTracks.{CarriedAsLive, FailedAreOwed}
use Rattle.mover.specs.Lanes.{HadBroken, HasFaultFrom, IsSameLane, broken_by}
use Rattle.mover.specs.Rounds.{AreLanesOf}

-- ---- before

-- The site and its rows stand to the shared state as an epoch asks.
abbrev pub MayBeginEpoch : (tells : Type 0) → (limit : ℕ) → Group → SiteState → PlantState → Type 0
MayBeginEpoch tells limit group site plant = MayMove tells limit (new_mover no_table.table group (length group.controls + 1)) site plant

-- ---- answers

abbrev pub end_result : EpochEnd → Result (Unit {0}) StoreError
end_result (ends.Reached group) = Ok tt
end_result (ends.Store error) = Err error
end_result ends.NoMemory = Ok tt

abbrev pub IfReached : EpochEnd → (Group → Type 0) → Type 0
IfReached (ends.Reached group) is = is group
IfReached (ends.Store error) is = Unit {0}
IfReached ends.NoMemory is = Unit {0}

-- ---- traces

-- A reader's trace turns out so: its feed had read of it what came before these bytes, and after those that the reader used some still come, or
-- none after a fault.
pub record TurnsOut {S : Type 0} (left : S → Option (List ℕ)) (t : Trace) (old new : Lane S) (was is : LaneReaderState) : Type 0 where
  pub outlook : Outlook
  pub bytes : List ℕ
  pub ahead : IsAhead was.feed.side.reader (left old.source) bytes
  pub gave : (used rest : List ℕ) → bytes ≡ used ++ rest → AreLeft (left new.source) is.feed.halted is.feed.side.reader rest
      → (later : List ℕ) × IsStillToCome outlook rest later × MayTurnOutOf outlook later is.feed × HasRead outlook (used ++ later) t was.feed

-- So do the traces of all lanes whose readers read on at first. The others had broken as their traces do.
pub record AllTurnOut {S : Type 0} (left : S → Option (List ℕ)) (traces : List Trace) (old new : List (Lane S)) : Type 0 where
  pub many : length traces ≡ length old
  pub falls : IsTrue (none_falls traces)
  pub each : (k : ℕ) (t : Trace) (d : Lane S) → slice_get traces k ≡ Some t → let a = slice_index_or old k d in let b = slice_index_or new k d in
      IsSomeAnd a.reader (λ was. IsSomeAnd b.reader (λ is. (was.feed.halted ≡ None → TurnsOut left t a b was is) × (was.feed.halted ≢ None → HadBroken t was.feed)))

-- No lane's reader that reads on holds a batch.
pub record HoldNone {S : Type 0} (lanes : List (Lane S)) : Type 0 where
  pub each : (k : ℕ) (d : Lane S) → k < length lanes → IsSomeAnd (slice_index_or lanes k d).reader (λ r. r.feed.halted ≡ None → r.feed.held ≡ None)

-- ---- breaks below a time

-- the break that a trace has below a time
abbrev pub break_below : (time : ℕ) → Option Break → Option (Stamp × Cause)
break_below time None = None
break_below time (Some b) = if nat_lt b.upto time then Some (record { 0 = b.upto }, b.cause) else None

-- ---- an epoch

-- A lane's reader read on by its controller's part of the run.
abbrev pub LaneWent : {S : Type 0} → (left : S → Option (List ℕ)) → (faults : S → ℕ) → (run : List Answer) → (old new : Lane S) → Type 0
LaneWent left faults run old new =
    IsSomeAnd old.reader (λ was. IsSomeAnd new.reader (λ is. ReadsOn (left old.source) (left new.source) was.feed is.feed run × HasFaultFrom was.feed.halted (faults old.source) (faults new.source) is.feed.halted))

-- The calls of an epoch, in the order of their turns, are one run of the shared state, and the site's deeds are what was kept of the mover's.
--   limited: each form takes the limit
--   made: each deed is a record or a mark that tells failures, or the record of a group that a form showed, and at the end nothing is due
--   pairs: each deed keeps each row's pair
--   live: each group's entries are of rows that were live when it was formed, by the mark after the group before, too
--   entries: none of these is suspended just before its record but by its own device
--   is_left, owed: after Ok the site is what the deeds leave, and the volume of each row was dropped exactly for what it owes more
--   numbers: numbers of records and of marks are used up by the forms of the run alone, and Spent comes only where they are near their end
pub record EpochRun {S : Type 0} (left : S → Option (List ℕ)) (faults : S → ℕ) (limit : ℕ) (group : Group) (old new : List (Lane S)) (site after : SiteState) (was is : PlantState) (result : EpochEnd) : Type 0 where
  pub log : List Answer
  pub end : Group
  pub runs : Runs group log end
  pub seats : IsTrue (list_all is_call_of_seat log)
  pub limited : IsTrue (list_all (is_at_limit limit) log)
  pub ended : IfReached result (λ next. next ≡ end)
  pub lanes : (k : ℕ) (d : Lane S) → k < length old → LaneWent left faults (part_of_reader k log) (slice_index_or old k d) (slice_index_or new k d)
  pub steps : List DeedOfChanges
  pub changes : AreByChanges site.level site.time site.told steps
  pub made : site.mark.ended ≡ false → AreMade site.level false (part_of_mover log) site.time site.told NoneDue steps NoneDue
  pub pairs : InPlacesByDeeds KeepsPair site.told (deeds_of steps)
  pub counted : AreHitsCounted steps was is
  pub live : AreEntriesLive false site.told (deeds_of steps)
  pub entries : LogsEntriesOf site.told (deeds_of steps)
  pub makes : (done : Plans) → KnowsDuplex site.told done → MakesDeeds site.time site.told done (part_of_mover log) (deeds_of steps)
  pub all : OnOk (end_result result) ((done : Plans) → KnowsDuplex site.told done → KeepsAll site after done (part_of_mover log) (deeds_of steps))
  pub is_left : OnOk (end_result result) (IsLeftAfter site after (deeds_of steps))
  pub owed : OnOk (end_result result) (OwesExactly site.told after.told (part_of_mover log) (deeds_of steps))
  pub numbers : UsesNumbersOf (part_of_mover log) site after (end_result result)

-- At every moment the first of its deeds are seen, and at the limit all of them are done.
pub record Shows (site after : SiteState) (steps : List DeedOfChanges) (was is : PlantState) (result : EpochEnd) : Type 0 where
  pub begins : (excepted : Exceptions) → SiteStands excepted site was → BeginsDeeds excepted site.told (deeds_of steps) was is
  pub did : IfReached result (λ next. (excepted : Exceptions) → SiteStands excepted site was → Did excepted site after (deeds_of steps) was is)

-- ---- what it bears

-- After the first n deeds each duplex row's volume holds its primary's tracks at the time that is then meant, and each break with a time
-- below that was told at its own time: for all traces of which the lanes had read, whichever way they turn out.
abbrev pub HoldsAfter : Sizes → List Trace → HeldTracks → SiteState → List Deed → (n : ℕ) → Type 0
HoldsAfter size traces held site deeds n =
    HoldTruth size (truth_of traces) (held_after_deeds (take n deeds) held) (rows_after_deeds (take n deeds) site.told) (time_meant_after (take n deeds) site.time)

abbrev pub ReportsBreaks : List Trace → Group → SiteState → List Answer → List Deed → (n : ℕ) → Type 0
ReportsBreaks traces group site log deeds n =
    (k b : ℕ) (t : Trace) → slice_get traces k ≡ Some t → break_time t ≡ Some b → AwaitsBreak group k b → site.time ≤ b
    → b < time_meant_after (take n deeds) site.time
    → ReportsBreak log k b site.told (take n deeds)

-- The time that is meant never falls, and rises to the limit at most.
abbrev pub TimesRiseTo : (limit time : ℕ) → List Deed → Type 0
TimesRiseTo limit time deeds =
    (n m : ℕ) → n ≤ m → m ≤ length deeds → (time_meant_after (take n deeds) time ≤ time_meant_after (take m deeds) time) × (time_meant_after (take m deeds) time ≤ limit)

-- what is meant of a site between its calls, while the session goes on: nothing is due
abbrev pub point_of : SiteState → Point
point_of site = record { time = site.time; rows = site.told; due = NoneDue; is_ended = false }

-- The deeds are steps of a run, and at their end nothing is due.
pub record AreStepsOf (run : ScriptRun) (site : SiteState) (steps : List DeedOfChanges) : Type 0 where
  pub each : AreSteps run.level (breaks_of run) (point_of site) steps
  pub due : (point_after_deeds run.level (point_of site) steps).due ≡ NoneDue

-- Each reader's part of the log is fed by its trace. So it is for all traces of which the lanes had read, whichever way they turn out. The shared
-- state at first is one that every call keeps.
--   up_to: each reader takes the limit, as far as its trace lets it, if no batch was held at first
--   times: the time that is meant rises to the limit at most
--   each: the deeds are steps of each run with these traces, if the shared state at first broke as they do
pub record BearsAfter {S : Type 0} (left : S → Option (List ℕ)) (limit : ℕ) (group end : Group) (old new : List (Lane S)) (site : SiteState) (log : List Answer) (steps : List DeedOfChanges) : Type 0 where
  pub fed : (traces : List Trace) → IsGroupSound group → AllTurnOut left traces old new → IsFedLog traces group end log
  pub up_to : (traces : List Trace) → HoldNone old → AllTurnOut left traces old new → AllGoUpTo limit traces log
  pub tracks : (size : Sizes) (traces : List Trace) (held : HeldTracks) (done : Plans) → IsGroupSound group → AllTurnOut left traces old new → KnowsDuplex site.told done
      → BeginsLog size traces held group site.time site.told done
      → (n : ℕ) → n ≤ length (deeds_of steps) → HoldsAfter size traces held site (deeds_of steps) n
  pub breaks : (traces : List Trace) → IsGroupSound group → AllTurnOut left traces old new → (n : ℕ) → n ≤ length (deeds_of steps) → ReportsBreaks traces group site log (deeds_of steps) n
  pub times : TimesRiseTo limit site.time (deeds_of steps)
  pub each : (run : ScriptRun) → run.level ≡ site.level → site.mark.ended ≡ false → IsTrue (none_clash site.told) → IsGroupSound group → AllTurnOut left run.traces old new → BrokeAsTraces run.traces group
      → AreStepsOf run site steps

-- What an epoch does, whatever it answers.
pub record EpochGoes {S : Type 0} (tells : Type 0) (left : S → Option (List ℕ)) (faults : S → ℕ) (limit : ℕ) (group : Group) (old new : List (Lane S)) (site after : SiteState) (was is : PlantState) (result : EpochEnd) : Type 0 where
  pub ran : EpochRun left faults limit group old new site after was is result
  pub shows : tells → Shows site after ran.steps was is result
  pub bears : BearsAfter left limit group ran.end old new site ran.log ran.steps

-- ---- at the limit

-- Each lane's reader has broken exactly if its trace has a break below a time, and by that break.
pub record LanesBrokeAs {S : Type 0} (time : ℕ) (traces : List Trace) (lanes : List (Lane S)) : Type 0 where
  pub each : (k : ℕ) (t : Trace) (d : Lane S) → slice_get traces k ≡ Some t → broken_by (slice_index_or lanes k d).reader ≡ break_below time (break_of t)

-- A reader that reads on stands at the limit, and holds no batch.
abbrev pub IsAtLimit : (limit : ℕ) → LaneReaderState → Type 0
IsAtLimit limit r = r.feed.halted ≡ None → (r.feed.held ≡ None) × (r.feed.primary.time ≡ limit)

-- A row's pair is that of the row in its place before.
abbrev pub IsSamePair : (r s : PairRow) → Type 0
IsSamePair r s = s ≡ in_state s.state r

-- What is meant of the site is at the limit, by some deeds. Each row's pair stays, and the session goes on if it did before.
pub record IsAtTime (limit : ℕ) (site after : SiteState) : Type 0 where
  pub deeds : List Deed
  pub is_left : IsLeftAfter site after deeds
  pub time : after.time ≡ limit
  pub pairs : InPlaces IsSamePair site.told after.told
  pub going : SessionGoesOn site after

-- Each lane's reader stays one of its controller and of its trace's volumes.
pub record AreSameLanes {S : Type 0} (old new : List (Lane S)) : Type 0 where
  pub many : length new ≡ length old
  pub each : (k : ℕ) (d : Lane S) → k < length old → IsSomeAnd (slice_index_or old k d).reader (λ was. IsSomeAnd (slice_index_or new k d).reader (λ is. IsSameLane was.feed is.feed))

-- The last cut and the site's time are the limit, and no row is pending or copying. What the next epoch asks holds.
--   at_limit: all that the traces have up to the limit was joined
--   broken: the lanes break as their traces do, if they did so up to an earlier limit. A line's time is at least 1
--   awaits: breaks that come later are still to come
--   stands: rows that their devices suspend owe all their tracks, and volumes are carried as their rows are live, if it was so before
pub record ReachedBy {S : Type 0} (tells : Type 0) (left : S → Option (List ℕ)) (limit : ℕ) (group : Group) (old new : List (Lane S)) (site : SiteState) (next : Group) (after : SiteState) (is : PlantState) : Type 0 where
  pub cut : next.last.0 ≡ limit
  pub time : IsAtTime limit site after
  pub settled : IsTrue (list_all (λ r. is_settled r.state) after.told)
  pub lanes : AreLanesOf next limit new
  pub same : AreSameLanes old new
  pub at_limit : (k : ℕ) (d : Lane S) → k < length new → IsSomeAnd (slice_index_or new k d).reader (IsAtLimit limit)
  pub begins : MayBeginEpoch tells limit next after is
  pub broken : (traces : List Trace) (before : ℕ) → 0 < limit → before ≤ limit → AllTurnOut left traces old new → LanesBrokeAs before traces old → LanesBrokeAs limit traces new
  pub awaits : (traces : List Trace) → 0 < limit → IsGroupSound group → AllTurnOut left traces old new → BreaksAreToCome traces site.time group → BreaksAreToCome traces limit next
  pub stands : (size : Sizes) → IsGroupSound group → IsTrue (none_clash site.told) → AreSized size group → FailedAreOwed size group site.told → CarriedAsLive group site.told
      → FailedAreOwed size next after.told × CarriedAsLive next after.told
