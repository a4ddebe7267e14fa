-- Logs: runs of the calls of readers and mover, and what rows and plans are to the shared state.
use Rattle.std.specs.Prelude.{◌≡◌, ℕ, ◌<◌, ◌≤◌, ◌==◌, ◌||◌, not, List, length, Bool, false, Some, IsTrue}
use Rattle.std.specs.List.{list_all}
use Rattle.pair_table.specs.declared.row.PairRow.{PairRow}
use Rattle.write_trace.specs.declared.trace.Trace.{Trace}
use Rattle.pending_queue.specs.Entries.{is_copy_of}
use Rattle.primary_ctl.specs.Primaries.{none_falls}
use Rattle.group_state.specs.declared.volume.Volume.{Volume}
use Rattle.group_state.specs.Volumes.{volume_of, passes, is_wanted}
use Rattle.group_state.specs.Controls.{ControlState, counts, is_reporting}
use Rattle.group_state.specs.Groups.{Group, control_at}
use Rattle.group_state.specs.SoundStates.{IsGroupSound, passes_or_none}
use Rattle.group_state.specs.Runs.{Answer, Runs}
use Rattle.fed_logs.specs.ToldTracks.{Truth, HeldTracks, AllHold, floor_of}
use Rattle.fed_logs.specs.Feeds.{truth_of, is_call_of_reader, AllAreFed}
use Rattle.group_state.specs.Calls.{is_by_mover}
use Rattle.fed_logs.specs.Moves.{HasRowIn, IsLive, IsDuplex, Plans}

-- how many tracks a controller's volume has
abbrev pub Sizes : Type 0
Sizes = (control volume : ℕ) → ℕ

abbrev pub is_of_size : (tracks : ℕ) → Volume → Bool
is_of_size tracks u = length u.map == tracks

-- Each volume that is kept has as many tracks.
abbrev pub AreSized : Sizes → Group → Type 0
AreSized size s = (k v : ℕ) → k < length s.controls → IsTrue (passes_or_none (is_of_size (size k v)) (volume_of v (control_at s k).volumes))

-- A call is a reader's or the mover's: no volume begins to be carried, is resumed or is forgotten.
abbrev pub is_call_of_seat : Answer → Bool
is_call_of_seat answer = is_call_of_reader answer.call || is_by_mover answer.call

-- A plan is done: its volume is carried, no track of it is wanted, and no copied track of it waits.
pub record IsPlanDone (v : ℕ) (c : ControlState) : Type 0 where
  pub carried : IsTrue (passes (λ u. u.carried) (volume_of v c.volumes))
  pub unwanted : (x : ℕ) → is_wanted v x c.volumes ≡ false
  pub copies : IsTrue (list_all (λ entry. not (is_copy_of v entry)) c.queue.waiting)

-- Rows and plans stand on a state: the controllers of live rows count, plans of duplex rows are known to be done, and plans that are known
-- to be done are.
pub record Stand (s : Group) (rows : List PairRow) (done : Plans) : Type 0 where
  pub live : (k v : ℕ) → HasRowIn IsLive k v rows → (k < length s.controls) × IsTrue (counts (control_at s k).phase)
  pub duplex : (k v : ℕ) → HasRowIn IsDuplex k v rows → IsTrue (done k v)
  pub plans : (k v : ℕ) → IsTrue (done k v) → (k < length s.controls) × IsPlanDone v (control_at s k)

-- Each duplex row's volume holds its primary's tracks at a time.
abbrev pub HoldTruth : Sizes → Truth → HeldTracks → List PairRow → (time : ℕ) → Type 0
HoldTruth size truth held rows time = (k v : ℕ) → HasRowIn IsDuplex k v rows → (x : ℕ) → x < size k v → held k v x ≡ Some (truth k v x time)

-- A log from a state that every call keeps: calls of readers and mover alone, of which each reader's part is fed by its trace.
pub record IsFedLog (traces : List Trace) (s end : Group) (run : List Answer) : Type 0 where
  pub falls : IsTrue (none_falls traces)
  pub each : length traces ≡ length s.controls
  pub kept : IsGroupSound s
  pub runs : Runs s run end
  pub seats : IsTrue (list_all is_call_of_seat run)
  pub fed : AllAreFed traces s run

-- What an epoch begins with: what is held was reported, up to a cut that isn't above the time that is meant.
pub record BeginsLog (size : Sizes) (traces : List Trace) (held : HeldTracks) (s : Group) (time : ℕ) (rows : List PairRow) (done : Plans) : Type 0 where
  pub sized : AreSized size s
  pub holds : AllHold (truth_of traces) held s
  pub last : s.last.0 ≤ time
  pub stand : Stand s rows done
  pub truth : HoldTruth size (truth_of traces) held rows time

-- A controller with this break time counts, and has reported no later time. Once it has broken, its floor is that time.
pub record AwaitsBreak (s : Group) (k b : ℕ) : Type 0 where
  pub low : k < length s.controls
  pub counted : IsTrue (counts (control_at s k).phase)
  pub up_to : floor_of s k ≤ b
  pub broken : is_reporting (control_at s k).phase ≡ false → floor_of s k ≡ b
