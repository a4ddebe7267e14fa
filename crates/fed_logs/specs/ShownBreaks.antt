-- The laws of breaks that forms show, and of breaks to come. Each is the contract of a public function without parameters.
use Rattle.std.specs.Prelude.{◌≡◌, ℕ, ◌<◌, ◌≤◌, List, length, map, Bool, true, false, Some, slice_get, nat_lt, IsTrue}
use Rattle.std.specs.List.{All, list_all}
use Rattle.tod_stamp.specs.declared.stamp.Stamp.{Stamp}
use Rattle.ckd_track.specs.declared.write.Cause.{Cause}
use Rattle.write_trace.specs.declared.trace.Trace.{Trace}
use Rattle.sidefile.specs.Breaks.{break_of, break_time}
use Rattle.pending_queue.specs.Groups.{FormedGroup}
use Rattle.group_state.specs.declared.phase.Phase.TheVariants.{Broken}
use Rattle.group_state.specs.Calls.{is_by_seat}
use Rattle.group_state.specs.Controls.{ControlState, is_reporting}
use Rattle.group_state.specs.Groups.{Group, control_at, new_group, Shown, shown_in}
use Rattle.group_state.specs.Machine.{Call, Reply, steps}
use Rattle.group_state.specs.Machine.Call.{Join, NextWanted, Copied, Raise, Break, Form, Carry, Drop, Resume, Forget}
use Rattle.group_state.specs.Runs.{Answer}
use Rattle.fed_logs.specs.ToldTracks.{floor_of}
use Rattle.record_rows.specs.GroupRows.{are_breaks_at_cut}
use Rattle.fed_logs.specs.Logs.{AwaitsBreak, IsFedLog}
use Rattle.fed_logs.specs.LogLaws.{WasShown}

-- If a controller has broken, and its break wasn't reported yet, the break is the trace's: by this cause, at the controller's floor.
abbrev pub BrokeAs : Trace → ControlState → Type 0
BrokeAs t c = (cause : Cause) → c.phase ≡ Broken cause → break_of t ≡ Some (record { cause = cause; upto = c.floor.0 })

-- Each controller with a trace broke as that does.
abbrev pub BrokeAsTraces : List Trace → Group → Type 0
BrokeAsTraces traces s = (k : ℕ) (t : Trace) → slice_get traces k ≡ Some t → BrokeAs t (control_at s k)

-- A break that is shown is the break of its controller's trace: its cause is the trace's, and its time is the cut and the trace's break time.
pub record IsTracesBreak (traces : List Trace) (cut : Stamp) (found : ℕ × Stamp × Cause) : Type 0 where
  pub trace : Trace
  pub own : slice_get traces found.0 ≡ Some trace
  pub at : found.1.0 ≡ cut.0
  pub breaks : break_of trace ≡ Some (record { cause = found.2; upto = cut.0 })

-- ---- in a log

-- Each break that a form of a fed log shows is its trace's, at the form's cut.
abbrev pub ShownBreaksAreTheTraces : Type 0
ShownBreaksAreTheTraces = (traces : List Trace) (s end : Group) (run : List Answer) → IsFedLog traces s end run → BrokeAsTraces traces s → (shown : Shown) → WasShown run shown
    → All (IsTracesBreak traces shown.cut) shown.breaks

-- A group that a form gave has its breaks at its cut, and at the break times of the traces.
abbrev pub GroupsBreakAtCuts : Type 0
GroupsBreakAtCuts = (traces : List Trace) (s end : Group) (run : List Answer) (group : FormedGroup) → IsFedLog traces s end run → BrokeAsTraces traces s → WasShown run (shown_in group)
    → IsTrue (are_breaks_at_cut (map break_time traces) group)

-- ---- from state to state

-- No controller of a new state has broken.
abbrev pub NewGroupsAreUnbroken : Type 0
NewGroupsAreUnbroken = (traces : List Trace) (controls records blocks : ℕ) → BrokeAsTraces traces (new_group controls records blocks)

-- A fed log ends with controllers that broke as their traces do, if it begins so.
abbrev pub LogsBreakAsTraces : Type 0
LogsBreakAsTraces = (traces : List Trace) (s end : Group) (run : List Answer) → IsFedLog traces s end run → BrokeAsTraces traces s → BrokeAsTraces traces end

-- The calls that the mover makes between two logs keep them so.
abbrev pub OtherCallsKeepBreaks : Type 0
OtherCallsKeepBreaks = (traces : List Trace) (s next : Group) (call : Call) (reply : Reply) → is_by_seat call ≡ false → steps s call reply next → BrokeAsTraces traces s → BrokeAsTraces traces next

-- ---- breaks to come

-- A controller still reports, and has reported up to a time at most.
pub record StillReports (s : Group) (k b : ℕ) : Type 0 where
  pub low : k < length s.controls
  pub reporting : IsTrue (is_reporting (control_at s k).phase)
  pub up_to : floor_of s k ≤ b

-- Each controller still reports whose trace's break time isn't below a time.
abbrev pub BreaksAreToCome : List Trace → (time : ℕ) → Group → Type 0
BreaksAreToCome traces time s = (k b : ℕ) (t : Trace) → slice_get traces k ≡ Some t → break_time t ≡ Some b → time ≤ b → StillReports s k b

-- where a call is a break, it is below a limit
abbrev pub is_break_below : (limit : ℕ) → Answer → Bool
is_break_below limit answer = elim answer.call [
  | Join b ↦ true
  | NextWanted k ↦ true
  | Copied k v x at slot ↦ true
  | Raise k upto ↦ true
  | Break k upto cause ↦ nat_lt upto.0 limit
  | Form given ↦ true
  | Carry k v plan ↦ true
  | Drop k v all ↦ true
  | Resume k v ↦ true
  | Forget k v ↦ true
]

-- A break to come is awaited.
abbrev pub BreaksToComeAreAwaited : Type 0
BreaksToComeAreAwaited = (s : Group) (k b : ℕ) → StillReports s k b → AwaitsBreak s k b

-- In a new state all breaks are to come.
abbrev pub AllBreaksAreToCome : Type 0
AllBreaksAreToCome = (traces : List Trace) (controls records blocks : ℕ) → length traces ≡ controls → BreaksAreToCome traces 0 (new_group controls records blocks)

-- If the breaks that readers report are below a limit, the others are still to come after the log.
abbrev pub LaterBreaksAreToCome : Type 0
LaterBreaksAreToCome = (traces : List Trace) (s end : Group) (run : List Answer) (time limit : ℕ) → IsFedLog traces s end run → IsTrue (list_all (is_break_below limit) run) → time ≤ limit
    → BreaksAreToCome traces time s → BreaksAreToCome traces limit end

-- The calls that the mover makes between two logs keep it so.
abbrev pub OtherCallsAwaitBreaks : Type 0
OtherCallsAwaitBreaks = (traces : List Trace) (time : ℕ) (s next : Group) (call : Call) (reply : Reply) → is_by_seat call ≡ false → steps s call reply next → BreaksAreToCome traces time s
    → BreaksAreToCome traces time next
