-- Volumes that are dropped because their rows were suspended, or were hit.
use Rattle.std.specs.Prelude.{◌≡◌, ℕ, suc, ◌<◌, ◌==◌, ◌&&◌, ◌||◌, if◌then◌else◌, List, [], ◌∷◌, ◌++◌, map, Bool, false, Option, Some, None, IsTrue, slice_get, slice_index_or}
use Rattle.std.specs.List.{Contains}
use Rattle.pair_table.specs.declared.row.PairRow.{PairRow}
use Rattle.pair_table.specs.declared.row.PairState.{PairState}
use Rattle.record_rows.specs.Deeds.{Deed, rows_by_deed}
use Rattle.pair_table.specs.States.{is_device_suspended, is_duplex, owes, owes_through}
use Rattle.group_state.specs.Machine.{Call}
use Rattle.group_state.specs.Machine.Call.{Drop}
use Rattle.group_state.specs.Machine.Reply.{Made}
use Rattle.group_state.specs.Runs.{Answer}
use Rattle.turn_group.specs.Calls.{MadeCall, as_answer}
use Rattle.turn_group.specs.Notes.{KnownVolume, known_after}
use Rattle.turn_group.specs.Seats.{MoverSeatState}

-- the states of rows by their places
abbrev pub are_states_of : List PairRow → (states : List (Option PairState)) → Type 0
are_states_of rows states = (place : ℕ) (r : PairRow) → slice_get rows place ≡ Some r → slice_index_or states place None ≡ Some r.state

abbrev pub owes_since : Option PairState → PairState → Option Bool
owes_since None is = None
owes_since (Some was) is = owes was is

-- ---- the calls

-- a volume to be dropped, and whether it owes all its tracks
pub record VolumeDrop : Type 0 where
  pub control : ℕ
  pub volume : ℕ
  pub all : Bool

abbrev pub call_of_drop : VolumeDrop → Call
call_of_drop d = Drop d.control d.volume d.all

abbrev pub answer_of_drop : VolumeDrop → Answer
answer_of_drop d = record { call = call_of_drop d; reply = Made }

-- a row's volume, if it is dropped
abbrev pub drop_of : PairRow → Option Bool → List VolumeDrop
drop_of r None = []
drop_of r (Some all) = record { control = r.control; volume = r.volume; all = all } ∷ []

-- the volumes of rows from a place on, which had these states before
abbrev pub drops_from : (place : ℕ) → (was : List (Option PairState)) → List PairRow → List VolumeDrop
drops_from place was [] = []
drops_from place was (r ∷ rows) = drop_of r (owes_since (slice_index_or was place None) r.state) ++ drops_from (suc place) was rows

abbrev pub known_after_drops : List VolumeDrop → List (List KnownVolume) → List (List KnownVolume)
known_after_drops [] known = known
known_after_drops (d ∷ drops) known = known_after_drops drops (known_after (call_of_drop d) known)

-- The mover's seat dropped these volumes, and did nothing else.
pub record MakesDrops (drops : List VolumeDrop) (old new : MoverSeatState) : Type 0 where
  pub gained : List MadeCall
  pub calls_are : new.calls ≡ old.calls ++ gained
  pub are : map as_answer gained ≡ map answer_of_drop drops
  pub last : new.last ≡ old.last
  pub known : new.known ≡ known_after_drops drops old.known

-- It dropped the volumes of the rows that are to be dropped, in order.
abbrev pub Drops : (was : List (Option PairState)) → List PairRow → (old new : MoverSeatState) → Type 0
Drops was rows = MakesDrops (drops_from 0 was rows)

-- The rows are of the first controllers.
abbrev pub AreOfControls : (controls : ℕ) → List PairRow → Type 0
AreOfControls n rows = (r : PairRow) → Contains rows r → r.control < n

-- ---- what is owed after calls and deeds

abbrev pub IsDeviceSuspended : PairState → Type 0
IsDeviceSuspended state = IsTrue (is_device_suspended state)

-- whether a call drops a volume; and if it does, whether with all its tracks
abbrev pub owed_by_call : (control volume : ℕ) → Call → Option Bool
owed_by_call k v (Drop j w all) = if j == k && w == v then Some all else None
owed_by_call k v other = None

-- All tracks are owed that one of two drops owes.
abbrev pub owed_in_turn : (first later : Option Bool) → Option Bool
owed_in_turn None later = later
owed_in_turn (Some all) None = Some all
owed_in_turn (Some all) (Some every) = Some (all || every)

-- whether calls drop a volume; and if they do, whether one of them with all its tracks
abbrev pub owed_by_calls : (control volume : ℕ) → List Answer → Option Bool
owed_by_calls k v [] = None
owed_by_calls k v (a ∷ answers) = owed_in_turn (owed_by_call k v a.call) (owed_by_calls k v answers)

abbrev pub is_duplex_row : Option PairRow → Bool
is_duplex_row None = false
is_duplex_row (Some r) = is_duplex r.state

-- whether the row in a place stood duplex: at first, or after one of the deeds
abbrev pub stood_duplex : (place : ℕ) → List PairRow → List Deed → Bool
stood_duplex place rows [] = is_duplex_row (slice_get rows place)
stood_duplex place rows (deed ∷ deeds) = is_duplex_row (slice_get rows place) || stood_duplex place (rows_by_deed deed) deeds

-- By place, the drops of each row's volume are exactly those of what it owes more. A row that its own device suspends owes all its tracks. Another
-- suspended row owes only the tracks that change from its suspension on if it stood duplex before, and else all its tracks.
abbrev pub OwesExactly : (rows next : List PairRow) → List Answer → List Deed → Type 0
OwesExactly rows next answers deeds =
    (place : ℕ) (r s : PairRow) → slice_get rows place ≡ Some r → slice_get next place ≡ Some s
    → owed_by_calls s.control s.volume answers ≡ owes_through r.state s.state (stood_duplex place rows deeds)
