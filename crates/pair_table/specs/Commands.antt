-- What an accepted command does to the rows, and the answer to a command.
use Rattle.std.specs.Prelude.{ℕ, ◌==◌, ◌&&◌, not, List, [], ◌∷◌, ◌++◌, map, filter, Bool, true, false, Option, Some, None, Result, Ok, Err, is_none, if◌then◌else◌, IsTrue, bytes_eq}
use Rattle.std.specs.List.{list_any, list_all}
use Rattle.pair_table.specs.declared.command.Change.{Change}
use Rattle.pair_table.specs.declared.command.Change.TheVariants.{Nothing, Started, Added, Resumed, Gone, Suspended as SuspendedRows, Ended as EndedSession}
use Rattle.pair_table.specs.declared.command.Choice.{Choice}
use Rattle.pair_table.specs.declared.command.Choice.TheVariants.{One, All}
use Rattle.pair_table.specs.declared.command.Command.{Command}
use Rattle.pair_table.specs.declared.command.Command.TheVariants.{Start, AddPair, DelPair, Suspend, Query, End}
use Rattle.pair_table.specs.declared.command.Refusal.{Refusal}
use Rattle.pair_table.specs.declared.names.NamedDevice.{NamedDevice}
use Rattle.pair_table.specs.declared.names.NamedVolume.{NamedVolume}
use Rattle.pair_table.specs.declared.row.PairRow.{PairRow}
use Rattle.pair_table.specs.declared.row.PairState.TheVariants.{Pending, Suspended}
use Rattle.pair_table.specs.declared.row.SuspendCause.TheVariants.{Command as ByCommand}
use Rattle.pair_table.specs.Naming.{Naming, labelled_device, primary_of}
use Rattle.pair_table.specs.Refusals.{is_of_primary, is_pair, refusal, row_of_primary}
use Rattle.pair_table.specs.Rows.{is_suspended}
use Rattle.pair_table.specs.Tables.{Table, are_below, in_state, most_rows, resumed_in}

-- ---- the rows

abbrev pub is_chosen : Choice → PairRow → Bool
is_chosen (One primary secondary) r = is_pair primary secondary r
is_chosen All r = true

abbrev pub is_to_suspend : Choice → PairRow → Bool
is_to_suspend choice r = is_chosen choice r && not (is_suspended r.state)

abbrev pub new_row : (secondary : List ℕ) → (group : Option (List ℕ)) → NamedVolume → NamedDevice → PairRow
new_row secondary group v l = record { primary = v.serial; secondary = secondary; control = v.control; volume = v.volume; device = l.device; cylinders = v.cylinders; state = Pending; group = group }

-- a row of that primary, or else none
abbrev pub add_to : (group : Option (List ℕ)) → List PairRow → Option PairRow → Option PairRow → List PairRow
add_to group rows (Some r) new = map (λ o. if is_of_primary r.primary o then resumed_in group o else o) rows
add_to group rows None (Some new) = rows ++ new ∷ []
add_to group rows None None = rows

abbrev pub new_row_for : (secondary : List ℕ) → (group : Option (List ℕ)) → Option NamedVolume → Option NamedDevice → Option PairRow
new_row_for secondary group (Some v) (Some l) = Some (new_row secondary group v l)
new_row_for secondary group None l = None
new_row_for secondary group (Some v) None = None

abbrev pub suspended_since : Choice → (time : ℕ) → PairRow → PairRow
suspended_since choice time r = if is_to_suspend choice r then in_state (Suspended ByCommand (record { 0 = time })) r else r

-- The rows after an accepted command at a time. A new row goes last, pending; a suspended one becomes pending in its place. Either has
-- the command's group, or none. The chosen rows go. Those of the chosen that aren't suspended become so by the command, since the time.
abbrev pub rows_after : Naming → (time : ℕ) → Command → List PairRow → List PairRow
rows_after names time (AddPair primary secondary group) rows = add_to group rows (row_of_primary primary rows) (new_row_for secondary group (primary_of primary names) (labelled_device secondary names))
rows_after names time (DelPair choice) rows = filter (λ r. not (is_chosen choice r)) rows
rows_after names time (Suspend choice) rows = map (suspended_since choice time) rows
rows_after names time (Start level) rows = []
rows_after names time Query rows = rows
rows_after names time End rows = rows

-- ---- the answer

abbrev pub devices_of : List PairRow → List ℕ
devices_of rows = map (λ r. r.device) rows

abbrev pub added : Option PairRow → Option NamedDevice → Change
added (Some r) l = Resumed r.device
added None (Some l) = Added l.device
added None None = Nothing

-- What a command changes: the devices of rows that go, and of rows that become suspended.
abbrev pub change_of : Naming → Command → List PairRow → Change
change_of names (AddPair primary secondary group) rows = added (row_of_primary primary rows) (labelled_device secondary names)
change_of names (DelPair choice) rows = Gone (devices_of (filter (is_chosen choice) rows))
change_of names (Suspend choice) rows = SuspendedRows (devices_of (filter (is_to_suspend choice) rows))
change_of names (Start level) rows = Started
change_of names Query rows = Nothing
change_of names End rows = EndedSession

abbrev pub answer_by : Option Refusal → Change → Result Change Refusal
answer_by (Some why) change = Err why
answer_by None change = Ok change

abbrev pub answer : Naming → Table → (session : List ℕ) → Command → Result Change Refusal
answer names table session command = answer_by (refusal names table session command) (change_of names command table.rows)

abbrev pub is_end : Command → Bool
is_end End = true
is_end (Start level) = false
is_end (AddPair primary secondary group) = false
is_end (DelPair choice) = false
is_end (Suspend choice) = false
is_end Query = false

abbrev pub accepted : Naming → (time : ℕ) → Command → Table → Table
accepted names time command table = record table { is_started = true; is_ended = is_end command; rows = rows_after names time command table.rows }

-- The table after a command at a time. A refusal changes nothing.
abbrev pub table_after : Naming → Table → (session : List ℕ) → Command → (time : ℕ) → Table
table_after names table session command time = if is_none (refusal names table session command) then accepted names time command table else table

-- Adding a pair takes memory for its row, and taking out or suspending pairs for the list of their devices.
abbrev pub wants_memory : Command → Bool
wants_memory (AddPair primary secondary group) = true
wants_memory (DelPair choice) = true
wants_memory (Suspend choice) = true
wants_memory (Start level) = false
wants_memory Query = false
wants_memory End = false

-- ---- what a command asks of the rows

-- the volume has the row's primary, controller, volume and cylinders
abbrev pub is_volume_of : PairRow → NamedVolume → Bool
is_volume_of r v = bytes_eq v.serial r.primary && v.control == r.control && v.volume == r.volume && v.cylinders == r.cylinders

-- whether the row's volume is named
abbrev pub has_named_primary : Naming → PairRow → Bool
has_named_primary names r = list_any (is_volume_of r) names.primaries

-- Each row's primary is named with the row's controller, volume and cylinders.
abbrev pub PrimariesAreNamed : Naming → List PairRow → Type 0
PrimariesAreNamed names rows = IsTrue (list_all (has_named_primary names) rows)

-- A command may come to rows whose primaries are named and whose devices are below the most rows of a table.
pub record MayCommand (names : Naming) (rows : List PairRow) : Type 0 where
  pub named : PrimariesAreNamed names rows
  pub below : IsTrue (are_below most_rows rows)
