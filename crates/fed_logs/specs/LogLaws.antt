-- The laws of logs. Each is the contract of a public function without parameters.
use Rattle.std.specs.Prelude.{◌≡◌, ℕ, ◌<◌, ◌≤◌, List, ◌∷◌, ◌++◌, length, take, Bool, true, slice_get, Some, nat_le, IsTrue}
use Rattle.std.specs.List.{list_all, Contains}
use Rattle.pair_table.specs.declared.row.PairRow.{PairRow}
use Rattle.write_trace.specs.declared.trace.Trace.{Trace}
use Rattle.sidefile.specs.Breaks.{break_time}
use Rattle.primary_ctl.specs.Primaries.{none_falls}
use Rattle.group_state.specs.Groups.{Group, Shown}
use Rattle.group_state.specs.SoundStates.{IsGroupSound}
use Rattle.group_state.specs.Machine.{Call}
use Rattle.group_state.specs.Machine.Call.{Join, NextWanted, Copied, Raise, Break, Form, Carry, Drop, Resume, Forget}
use Rattle.group_state.specs.Runs.{Answer, Runs, May, shown_by}
use Rattle.fed_logs.specs.ToldTracks.{HeldTracks, ReportsTruth, floor_of}
use Rattle.record_rows.specs.Deeds.{Deed, rows_by_deed, rows_after_deeds, time_meant_after}
use Rattle.fed_logs.specs.Deeds.{held_after_deeds}
use Rattle.record_rows.specs.Deeds.Deed.{Logged}
use Rattle.fed_logs.specs.Feeds.{truth_of, part_of_mover, IsFedBy}
use Rattle.group_state.specs.Calls.{is_by_reader}
use Rattle.fed_logs.specs.Moves.{Plans, MayFollow, MakesDeeds, MakesAllDeeds, AreEntriesLive, LiveByDeeds, is_break_of_control, is_mark_due_after}
use Rattle.fed_logs.specs.Logs.{Sizes, IsFedLog, BeginsLog, HoldTruth, AwaitsBreak}

-- ---- tracks

-- A call that is fed by its controller's trace reports what is true of the primary.
abbrev pub FedReportTruth : Type 0
FedReportTruth = (traces : List Trace) (s : Group) (call : Call) (k : ℕ) (t : Trace) → IsTrue (none_falls traces) → slice_get traces k ≡ Some t → IsTrue (is_by_reader k call) → May s call
    → IsFedBy t (floor_of s k) call → ReportsTruth (truth_of traces) s call

-- After each of the deeds each duplex row's volume holds its primary's tracks at the time that is then meant.
abbrev pub LogsBear : Type 0
LogsBear = (size : Sizes) (traces : List Trace) (held : HeldTracks) (s end : Group) (run : List Answer) (time : ℕ) (rows : List PairRow) (done : Plans) (deeds : List Deed)
    → IsFedLog traces s end run → BeginsLog size traces held s time rows done → MakesDeeds time rows done (part_of_mover run) deeds → (n : ℕ) → n ≤ length deeds
    → HoldTruth size (truth_of traces) (held_after_deeds (take n deeds) held) (rows_after_deeds (take n deeds) rows) (time_meant_after (take n deeds) time)

-- Where all calls of the mover were kept, what a log began with holds again at its end.
abbrev pub ReachedHolds : Type 0
ReachedHolds = (size : Sizes) (traces : List Trace) (held : HeldTracks) (s end : Group) (run : List Answer) (time ended : ℕ) (rows last : List PairRow) (done known : Plans) (deeds : List Deed)
    → IsFedLog traces s end run → BeginsLog size traces held s time rows done → MakesAllDeeds time rows done (part_of_mover run) deeds ended last known
    → (last ≡ rows_after_deeds deeds rows) × (ended ≡ time_meant_after deeds time) × IsGroupSound end × BeginsLog size traces (held_after_deeds deeds held) end ended last known

-- Deeds one after the other have entries of live rows if each part has, by the rows and the mark that the first one leaves.
abbrev pub LiveEntriesInTurn : Type 0
LiveEntriesInTurn = (due : Bool) (rows : List PairRow) (first then : List Deed) → LiveByDeeds rows first → AreEntriesLive due rows first → AreEntriesLive (is_mark_due_after due first) (rows_after_deeds first rows) then
    → AreEntriesLive due rows (first ++ then)

-- ---- times

abbrev pub is_limit_up_to : (time : ℕ) → Call → Bool
is_limit_up_to time (Join b) = true
is_limit_up_to time (NextWanted k) = true
is_limit_up_to time (Copied k v x at slot) = true
is_limit_up_to time (Raise k upto) = true
is_limit_up_to time (Break k upto cause) = true
is_limit_up_to time (Form limit) = nat_le limit.0 time
is_limit_up_to time (Carry k v plan) = true
is_limit_up_to time (Drop k v all) = true
is_limit_up_to time (Resume k v) = true
is_limit_up_to time (Forget k v) = true

-- where a call is a form, its limit is up to a time
abbrev pub is_limited : (time : ℕ) → Answer → Bool
is_limited time answer = is_limit_up_to time answer.call

-- The time that is meant never falls, and rises to the limit of the forms at most.
abbrev pub TimesRise : Type 0
TimesRise = (time limit : ℕ) (s end : Group) (run : List Answer) (rows : List PairRow) (done : Plans) (deeds : List Deed) (n m : ℕ)
    → Runs s run end → MakesDeeds time rows done (part_of_mover run) deeds → time ≤ limit → IsTrue (list_all (is_limited limit) run) → n ≤ m → m ≤ length deeds
    → (time_meant_after (take n deeds) time ≤ time_meant_after (take m deeds) time) × (time_meant_after (take m deeds) time ≤ limit)

-- ---- breaks

-- a form of a run showed it
pub record WasShown (run : List Answer) (shown : Shown) : Type 0 where
  pub answer : Answer
  pub among : Contains run answer
  pub shows : shown_by answer.reply ≡ Some shown

-- One of the deeds, from these rows on, is a group of the run that reports the break, at its time.
pub data ReportsBreak (run : List Answer) (k b : ℕ) : List PairRow → List Deed → Type 0 where
  Now : (shown : Shown) (rows next : List PairRow) (deeds : List Deed) → WasShown run shown → IsTrue (is_break_of_control k shown) → shown.cut.0 ≡ b → MayFollow shown rows next
      → ReportsBreak run k b rows (Logged shown.cut.0 shown.entries next ∷ deeds)
  Later : (rows : List PairRow) (deed : Deed) (deeds : List Deed) → ReportsBreak run k b (rows_by_deed deed) deeds → ReportsBreak run k b rows (deed ∷ deeds)

-- After each of the deeds a controller with a break time below the time that is then meant, and from the start's time on, has a group
-- among them that reports it, at that time.
abbrev pub BreaksCome : Type 0
BreaksCome = (traces : List Trace) (s end : Group) (run : List Answer) (time : ℕ) (rows : List PairRow) (done : Plans) (deeds : List Deed) (k b : ℕ) (t : Trace)
    → IsFedLog traces s end run → MakesDeeds time rows done (part_of_mover run) deeds → slice_get traces k ≡ Some t → break_time t ≡ Some b → AwaitsBreak s k b → time ≤ b
    → (n : ℕ) → n ≤ length deeds → b < time_meant_after (take n deeds) time → ReportsBreak run k b rows (take n deeds)
