-- The laws of feeds. Each is the contract of a public function without parameters.
use Rattle.std.specs.Prelude.{◌≡◌, ℕ, ◌<◌, ◌-◌, List, [], ◌++◌, length, take, true, false, Option, Some, None, Ok, IsTrue}
use Rattle.tod_stamp.specs.declared.stamp.Stamp.{Stamp}
use Rattle.write_trace.specs.declared.header.Header.{Header}
use Rattle.write_trace.specs.declared.trace.Trace.{Trace}
use Rattle.write_trace.specs.Answers.{ReaderState}
use Rattle.write_trace.specs.WholeTraces.{trace_of}
use Rattle.write_trace.specs.Starts.{ReadsHeader}
use Rattle.group_state.specs.declared.joining.CopyJoin.{CopyJoin}
use Rattle.primary_ctl.specs.States.{track_of, base_in}
use Rattle.sidefile.specs.AheadEntries.{IsAhead, IsFault, entries_ahead}
use Rattle.group_state.specs.Controls.{is_reporting}
use Rattle.group_state.specs.Groups.{Group, control_at}
use Rattle.group_state.specs.Runs.{Answer, Runs}
use Rattle.fed_logs.specs.ToldTracks.{floor_of}
use Rattle.fed_logs.specs.Feeds.{part_of_reader}
use Rattle.fed_logs.specs.LaneFeeds.{FeedState, floor_after_calls, reporting_after_calls}
use Rattle.fed_logs.specs.Reads.{Outlook, EndsAsAhead, HasRead, HasTracksAt, ReadsOn, do_rise}
use Rattle.fed_logs.specs.Reads.Outlook.{Whole, Failing}
use Rattle.fed_logs.specs.Steps.{FeedStep}
use Rattle.fed_logs.specs.Reporters.{ReporterState, ReportsOn, ReportsUpTo, BreaksBelow, IsCopiedBy}

-- Without a call nothing is read.
abbrev pub NoCallReadsNothing : Type 0
NoCallReadsNothing = (told : Option (List ℕ)) (feed : FeedState) → ReadsOn told told feed feed []

-- Calls one after another read on.
abbrev pub CallsReadInTurn : Type 0
CallsReadInTurn = (before mid now : Option (List ℕ)) (old next new : FeedState) (first then : List Answer) → ReadsOn before mid old next first → ReadsOn mid now next new then
    → ReadsOn before now old new (first ++ then)

-- Each step of a reader reads on.
abbrev pub StepsReadOn : Type 0
StepsReadOn = (before now : Option (List ℕ)) (limit : Stamp) (old new : FeedState) (gained : List Answer) → FeedStep before now limit old new gained → ReadsOn before now old new gained

-- Without a call no break is reported.
abbrev pub NoCallBreaks : Type 0
NoCallBreaks = (limit : ℕ) (left : Option (List ℕ)) (feed : FeedState) (told : ReporterState) → BreaksBelow limit left feed feed told told

-- Calls one after another break below a limit if each does.
abbrev pub CallsBreakBelowInTurn : Type 0
CallsBreakBelowInTurn = (limit : ℕ) (before mid now : Option (List ℕ)) (old next new : FeedState) (told between after : ReporterState) → ReportsOn before mid old next told between → BreaksBelow limit before old next told between
    → ReportsOn mid now next new between after → BreaksBelow limit mid next new between after → BreaksBelow limit before old new told after

-- A step of a reader that copies reports no break.
abbrev pub CopiesReportNoBreak : Type 0
CopiesReportNoBreak = (limit : ℕ) (left : Option (List ℕ)) (joined : Option CopyJoin) (feed : FeedState) (told after : ReporterState) → feed.halted ≡ None → IsCopiedBy joined feed told after → BreaksBelow limit left feed feed told after

-- Without a call nothing goes further.
abbrev pub NoCallGoesUpTo : Type 0
NoCallGoesUpTo = (limit : ℕ) (left : Option (List ℕ)) (feed : FeedState) (told : ReporterState) → ReportsUpTo limit left left feed feed told told

-- Calls one after another go up to a limit if each does.
abbrev pub CallsGoUpToInTurn : Type 0
CallsGoUpToInTurn = (limit : ℕ) (before mid now : Option (List ℕ)) (old next new : FeedState) (told between after : ReporterState) → ReportsOn before mid old next told between → ReportsUpTo limit before mid old next told between
    → ReportsOn mid now next new between after → ReportsUpTo limit mid now next new between after → ReportsUpTo limit before now old new told after

-- A step of a reader that copies goes no further, whatever the limit is.
abbrev pub CopiesGoUpTo : Type 0
CopiesGoUpTo = (limit : ℕ) (left : Option (List ℕ)) (joined : Option CopyJoin) (feed : FeedState) (told after : ReporterState) → ReportsOn left left feed feed told after → IsCopiedBy joined feed told after → ReportsUpTo limit left left feed feed told after

-- After a run each controller's floor is the one that the calls of its reader report.
abbrev pub FloorsAreByCalls : Type 0
FloorsAreByCalls = (s : Group) (run : List Answer) (end : Group) → Runs s run end → (k : ℕ) → k < length s.controls → floor_of end k ≡ floor_after_calls (floor_of s k) (part_of_reader k run)

-- After a run a controller still reports exactly if it did before, and no call of its reader is a break.
abbrev pub ReportingIsByCalls : Type 0
ReportingIsByCalls = (s : Group) (run : List Answer) (end : Group) → Runs s run end → (k : ℕ) → k < length s.controls
    → is_reporting (control_at end k).phase ≡ reporting_after_calls (is_reporting (control_at s k).phase) (part_of_reader k run)

-- What a feed has read makes of its primary what the trace makes of it at the primary's time.
abbrev pub ReadTracksAreThePrimary : Type 0
ReadTracksAreThePrimary = (o : Outlook) (rest : List ℕ) (t : Trace) (feed : FeedState) → HasRead o rest t feed → HasTracksAt t feed.primary.time feed.primary

-- A feed after a header, whose primary has the base tracks.
pub record IsFirstFeed (head : Header) (feed : FeedState) : Type 0 where
  pub waiting : feed.side.waiting ≡ None
  pub upto : feed.side.upto ≡ 0
  pub time : feed.primary.time ≡ 0
  pub held : feed.held ≡ None
  pub tracks : (v x : ℕ) → track_of feed.primary v x ≡ base_in head.base v x

-- At the start nothing was read of a trace whose entries are all ahead.
abbrev pub NothingIsReadFirst : Type 0
NothingIsReadFirst = (o : Outlook) (rest : List ℕ) (t : Trace) (feed : FeedState) → IsFirstFeed t.header feed → entries_ahead feed.side.reader.stopped feed.side.reader rest ≡ t.entries → IsTrue (do_rise 1 t.entries)
    → EndsAsAhead o t feed.side.reader rest → HasRead o rest t feed

-- ---- the bytes of a source

-- All bytes that are ahead come, or those come after which the source fails, with some left.
abbrev pub ComeSo : Outlook → ReaderState → (rest later left : List ℕ) → Type 0
ComeSo Whole reader rest later left = later ≡ rest
ComeSo Failing reader rest later left = (rest ≡ later ++ left) × IsFault reader later

-- the trace of all bytes that a source told, or of those that it gave before it failed, with some left
abbrev pub IsTraceOf : Outlook → (told left : List ℕ) → Trace → Type 0
IsTraceOf Whole told left t = trace_of false told ≡ Ok t
IsTraceOf Failing told left t = trace_of true (take (length told - length left) told) ≡ Ok t

-- These bytes are ahead, after a header that was read of the bytes of a source.
pub record IsAfterHeader (told : List ℕ) (now : Option (List ℕ)) (head : Header) (feed : FeedState) (rest : List ℕ) : Type 0 where
  pub reads : ReadsHeader (Some told) now head feed.side.reader
  pub first : IsFirstFeed head feed
  pub there : IsAhead feed.side.reader now rest

-- Nothing was read yet of the trace that a source's bytes are.
pub record BeginsTrace (o : Outlook) (told later left : List ℕ) (head : Header) (feed : FeedState) : Type 0 where
  pub trace : Trace
  pub headed : trace.header ≡ head
  pub is : IsTraceOf o told left trace
  pub unread : HasRead o later trace feed

-- A feed after a header has read nothing of the trace that its source's bytes are, whether all of them come or the source fails.
abbrev pub HeadersBeginTraces : Type 0
HeadersBeginTraces = (told : List ℕ) (now : Option (List ℕ)) (head : Header) (feed : FeedState) (rest : List ℕ) → IsAfterHeader told now head feed rest
    → (o : Outlook) (later left : List ℕ) → ComeSo o feed.side.reader rest later left → BeginsTrace o told later left head feed
