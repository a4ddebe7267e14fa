-- A command's change of rows taken over into the shared state: what the state keeps for rows, and the calls that a change makes.
use Rattle.std.specs.Prelude.{◌≡◌, ℕ, ◌<◌, ◌==◌, ◌&&◌, ◌||◌, not, List, [], ◌∷◌, ◌++◌, filter, map, length, Bool, true, false, Option, Some, None, IfSome, IsSomeAnd, IsTrue, if◌then◌else◌}
use Rattle.std.specs.List.{Contains, flat_map}
use Rattle.change_map.specs.Sets.{every_track}
use Rattle.copy_plan.specs.Plans.{fresh_plan}
use Rattle.pair_table.specs.declared.command.Change.{Change}
use Rattle.pair_table.specs.declared.command.Change.TheVariants.{Added, Resumed, Gone}
use Rattle.pair_table.specs.declared.row.PairRow.{PairRow}
use Rattle.pair_table.specs.declared.row.PairState.{PairState}
use Rattle.pair_table.specs.declared.row.PairState.TheVariants.{Pending, Duplex, Suspended}
use Rattle.pair_table.specs.Devices.{is_among}
use Rattle.pair_table.specs.Rows.{is_suspended}
use Rattle.pair_table.specs.Tables.{in_state, none_clash, row_changed, row_of, with_resumed}
use Rattle.group_state.specs.Volumes.{owed}
use Rattle.group_state.specs.Controls.{counts}
use Rattle.group_state.specs.Groups.{Group, control_at}
use Rattle.group_state.specs.Machine.{Call, group_after}
use Rattle.group_state.specs.Machine.Call.{Carry, Drop, Forget, Resume}
use Rattle.group_state.specs.Runs.{May}
use Rattle.group_state.specs.SoundStates.{IsGroupSound}
use Rattle.pair_table.specs.States.{is_device_suspended, owes}
use Rattle.record_rows.specs.ToldRows.{InPlaces}
use Rattle.consistency.specs.Stages.{tracks_of_row}
use Rattle.consistency.specs.Owing.{is_same_state}
use Rattle.fed_logs.specs.Logs.{IsPlanDone}
use Rattle.fed_logs.specs.Moves.{Plans, plans_without}
use Rattle.mover.specs.OwedTracks.{IsCarriedAsLive, KeptHaveRows}

-- ---- what is kept for rows

-- A state is sound for a row: it has the row's volume, a controller that counts if the row isn't suspended, and a plan that is done if it is duplex.
pub record IsSoundForRow (s : Group) (r : PairRow) : Type 0 where
  pub low : r.control < length s.controls
  pub own : IsCarriedAsLive s r
  pub counted : is_suspended r.state ≡ false → IsTrue (counts (control_at s r.control).phase)
  pub done : r.state ≡ Duplex → IsPlanDone r.volume (control_at s r.control)

-- A state is sound for rows: it is sound, and for each of them. It keeps no volume of another row.
pub record IsSoundForRows (s : Group) (rows : List PairRow) : Type 0 where
  pub keeps : IsGroupSound s
  pub apart : IsTrue (none_clash rows)
  pub each : (r : PairRow) → Contains rows r → IsSoundForRow s r
  pub rowed : KeptHaveRows s rows

-- ---- calls in a row

abbrev pub after_calls : List Call → Group → Group
after_calls [] s = s
after_calls (call ∷ calls) s = after_calls calls (group_after s call)

-- Each call may be made when its turn comes.
abbrev pub AllMay : List Call → Group → Type 0
AllMay [] s = Unit {0}
AllMay (call ∷ calls) s = May s call × AllMay calls (group_after s call)

-- the plans that are known to be done after calls
abbrev pub plans_after : Call → Plans → Plans
plans_after (Drop k v all) done = plans_without k v done
plans_after call done = done

abbrev pub plans_after_calls : List Call → Plans → Plans
plans_after_calls [] done = done
plans_after_calls (call ∷ calls) done = plans_after_calls calls (plans_after call done)

-- ---- the command

-- whether a change makes the device's row pending: it adds the row, or resumes it
abbrev pub is_begun : Change → (device : ℕ) → Bool
is_begun (Added device) d = device == d
is_begun (Resumed device) d = device == d
is_begun change d = false

-- Whether a row is suspended as it was before: since the same time, and for the same cause.
abbrev pub is_suspended_as : (was is : PairState) → Bool
is_suspended_as was is = is_suspended is && is_same_state was is

-- Whether a device's row is suspended after a command as it was before. Where a command resumes the row, no record shows it in another state.
abbrev pub stands_again : (before after : Option PairRow) → Bool
stands_again None after = false
stands_again (Some r) None = false
stands_again (Some r) (Some s) = is_suspended_as r.state s.state

abbrev pub as_pending : Option PairRow → List PairRow
as_pending None = []
as_pending (Some r) = in_state Pending r ∷ []

abbrev pub group_of_row : Option PairRow → Option (List ℕ)
group_of_row None = None
group_of_row (Some r) = r.group

-- the group of a device's row after a command, if it has one
abbrev pub pair_group_after : (device : ℕ) → (after : List PairRow) → Option (List ℕ)
pair_group_after device after = group_of_row (row_of device after)

-- a row in a group or in none, in the state that it has
abbrev pub regrouped_row : (group : Option (List ℕ)) → PairRow → PairRow
regrouped_row group r = record r { group = group }

-- the rows with the device's in a group or in none
abbrev pub regrouped_rows : (device : ℕ) → (group : Option (List ℕ)) → List PairRow → List PairRow
regrouped_rows device group rows = map (row_changed device (regrouped_row group)) rows

-- The rows that a command leaves of those before it, without its suspensions. The row that it adds is found among those after it. One that it
-- resumes has the group of the row after it, and it stays in its state if it is suspended again as it was.
abbrev pub rows_by_command : Change → (before after : List PairRow) → List PairRow
rows_by_command (Added device) before after = before ++ as_pending (row_of device after)
rows_by_command (Resumed device) before after =
    let group = pair_group_after device after in
    if stands_again (row_of device before) (row_of device after) then regrouped_rows device group before else with_resumed device group before
rows_by_command (Gone devices) before after = filter (λ r. not (is_among r.device devices)) before
rows_by_command change before after = before

-- An added row's volume begins to be carried, and all of its tracks are wanted.
abbrev pub carry_calls : Option PairRow → List Call
carry_calls None = []
carry_calls (Some r) = Carry r.control r.volume (fresh_plan (every_track (tracks_of_row r))) ∷ []

-- how many tracks a row's volume owes
abbrev pub tracks_owed_to : Group → Option PairRow → ℕ
tracks_owed_to s None = 0
tracks_owed_to s (Some r) = owed r.volume (control_at s r.control).volumes

-- Whether a row that is suspended again as it was owes all of its tracks. Since its time is the command's, no track of it has changed since: it owes
-- all if it owed any, and all if its own device has failed.
abbrev pub owes_again : (owed : ℕ) → PairState → Bool
owes_again owed state = is_device_suspended state || not (owed == 0)

-- A resumed row's volume is carried again, and the tracks in its map are wanted. If the row is suspended again as it was, its volume is dropped.
abbrev pub resume_calls : Group → (before after : Option PairRow) → List Call
resume_calls s None after = []
resume_calls s (Some r) after =
    Resume r.control r.volume
    ∷ (if stands_again (Some r) after then Drop r.control r.volume (owes_again (tracks_owed_to s (Some r)) r.state) ∷ [] else [])

-- The volume of a row that goes is dropped and forgotten.
abbrev pub forget_calls : (devices : List ℕ) → PairRow → List Call
forget_calls devices r = if is_among r.device devices then Drop r.control r.volume true ∷ Forget r.control r.volume ∷ [] else []

abbrev pub command_calls : Change → Group → (before after : List PairRow) → List Call
command_calls (Added device) s before after = carry_calls (row_of device after)
command_calls (Resumed device) s before after = resume_calls s (row_of device before) (row_of device after)
command_calls (Gone devices) s before after = flat_map (forget_calls devices) before
command_calls change s before after = []

-- ---- suspensions

abbrev pub drop_call : PairRow → Option Bool → List Call
drop_call r None = []
drop_call r (Some all) = Drop r.control r.volume all ∷ []

abbrev pub state_or_pending : Option PairRow → PairState
state_or_pending None = Pending
state_or_pending (Some r) = r.state

-- The state in which a command left a row, as it is after the suspensions that followed.
abbrev pub state_by_command : Change → (before : List PairRow) → PairRow → PairState
state_by_command change before r =
    if is_begun change r.device && not (stands_again (row_of r.device before) (Some r)) then Pending else state_or_pending (row_of r.device before)

abbrev pub drop_calls : Change → (before : List PairRow) → PairRow → List Call
drop_calls change before r = drop_call r (owes (state_by_command change before r) r.state)

-- ---- a change

-- The calls of the shared state for a command's change: what the command itself asks, and then a drop for each row that is suspended by the
-- command or by a failure after it.
abbrev pub calls_of_change : Change → Group → (before after : List PairRow) → List Call
calls_of_change change s before after = command_calls change s before after ++ flat_map (drop_calls change before) after

-- A row is as the command left it, but for a suspension that drops its volume.
pub record IsSuspendedSince (r s : PairRow) : Type 0 where
  pub same : s ≡ in_state s.state r
  pub stays : owes r.state s.state ≡ None → s.state ≡ r.state

-- The row that a change adds is among those after it, and its controller counts. One that it resumes is suspended, and its controller counts.
abbrev pub MayBeBegun : Group → Change → (before after : List PairRow) → Type 0
MayBeBegun s (Added device) before after = IsSomeAnd (row_of device after) (λ r. (r.control < length s.controls) × IsTrue (counts (control_at s r.control).phase))
MayBeBegun s (Resumed device) before after = IfSome (row_of device before) (λ r. IsTrue (is_suspended r.state) × IsTrue (counts (control_at s r.control).phase))
MayBeBegun s change before after = Unit {0}

-- what is so of the row that a change adds, if it adds one
abbrev pub IfAdds : Change → (after : List PairRow) → (PairRow → Type 0) → Type 0
IfAdds (Added device) after is = IfSome (row_of device after) is
IfAdds change after is = Unit {0}

-- Rows come from others by a command's change and by suspensions after it, of different pairs on different devices.
pub record MayTake (s : Group) (change : Change) (before after : List PairRow) : Type 0 where
  pub begun : MayBeBegun s change before after
  pub apart : IsTrue (none_clash (rows_by_command change before after))
  pub follow : InPlaces IsSuspendedSince (rows_by_command change before after) after

-- How many tracks are to be copied: all of an added row's, and those in the map of a resumed row's volume.
abbrev pub tracks_of_added : Option PairRow → ℕ
tracks_of_added None = 0
tracks_of_added (Some r) = tracks_of_row r

abbrev pub tracks_to_copy : Change → Group → (before after : List PairRow) → ℕ
tracks_to_copy (Added device) s before after = tracks_of_added (row_of device after)
tracks_to_copy (Resumed device) s before after = tracks_owed_to s (row_of device before)
tracks_to_copy change s before after = 0

abbrev pub is_adding : Change → Bool
is_adding (Added device) = true
is_adding change = false
