-- The refusals of commands, in the order in which they count.
use Rattle.std.specs.Prelude.{ℕ, ◌*◌, ◌&&◌, ◌||◌, not, List, find, Bool, true, false, Option, Some, None, nat_lt, if◌then◌else◌, bytes_eq}
use Rattle.std.specs.List.{list_any}
use Rattle.xrc_edge.specs.declared.limits.TheConstants.{TRACKS_OF_CYLINDER}
use Rattle.pair_table.specs.declared.command.Choice.{Choice}
use Rattle.pair_table.specs.declared.command.Choice.TheVariants.{One, All}
use Rattle.pair_table.specs.declared.command.Command.{Command}
use Rattle.pair_table.specs.declared.command.Command.TheVariants.{Start, AddPair, DelPair, Suspend, Query, End}
use Rattle.pair_table.specs.declared.command.Refusal.{Refusal}
use Rattle.pair_table.specs.declared.command.Refusal.TheVariants.{NoSession, SessionExists, NoPrimary, NoSecondary, SecondaryInUse, AlreadyPaired, TooSmall, OtherSecondary, NotPaired, Ended, ControlBroken}
use Rattle.pair_table.specs.declared.names.NamedDevice.{NamedDevice}
use Rattle.pair_table.specs.declared.names.NamedVolume.{NamedVolume}
use Rattle.pair_table.specs.declared.row.PairRow.{PairRow}
use Rattle.pair_table.specs.Naming.{Naming, is_broken, labelled_device, primary_of}
use Rattle.pair_table.specs.Rows.{is_suspended}
use Rattle.pair_table.specs.Tables.{Table, is_of}

-- ---- rows by their names

abbrev pub is_of_primary : (primary : List ℕ) → PairRow → Bool
is_of_primary primary r = bytes_eq r.primary primary

abbrev pub row_of_primary : (primary : List ℕ) → List PairRow → Option PairRow
row_of_primary primary rows = find (is_of_primary primary) rows

abbrev pub is_pair : (primary secondary : List ℕ) → PairRow → Bool
is_pair primary secondary r = bytes_eq r.primary primary && bytes_eq r.secondary secondary

-- ---- a command's own refusals

-- The primary has a row: of another secondary, or that isn't suspended.
abbrev pub refuses_row : (secondary : List ℕ) → PairRow → Option Refusal
refuses_row secondary r =
    if not (bytes_eq r.secondary secondary) then Some OtherSecondary
    else if not (is_suspended r.state) then Some AlreadyPaired
    else None

-- The primary has no row: the secondary's device is in one, or has fewer tracks than the primary.
abbrev pub refuses_new : List PairRow → NamedVolume → NamedDevice → Option Refusal
refuses_new rows v l =
    if list_any (is_of l.device) rows then Some SecondaryInUse
    else if nat_lt l.cylinders v.cylinders then Some (TooSmall (TRACKS_OF_CYLINDER * v.cylinders))
    else None

abbrev pub refuses_found : (secondary : List ℕ) → List PairRow → NamedVolume → NamedDevice → Option PairRow → Option Refusal
refuses_found secondary rows v l None = refuses_new rows v l
refuses_found secondary rows v l (Some r) = refuses_row secondary r

abbrev pub refuses_label : (primary secondary : List ℕ) → List PairRow → NamedVolume → Option NamedDevice → Option Refusal
refuses_label primary secondary rows v None = Some NoSecondary
refuses_label primary secondary rows v (Some l) = refuses_found secondary rows v l (row_of_primary primary rows)

abbrev pub refuses_primary : (primary secondary : List ℕ) → Naming → List PairRow → Option NamedVolume → Option Refusal
refuses_primary primary secondary names rows None = Some NoPrimary
refuses_primary primary secondary names rows (Some v) =
    if is_broken v.control names then Some (ControlBroken v.control) else refuses_label primary secondary rows v (labelled_device secondary names)

-- A choice of one pair is refused where no row has both names. All pairs are never refused.
abbrev pub refuses_choice : Choice → List PairRow → Option Refusal
refuses_choice (One primary secondary) rows = if list_any (is_pair primary secondary) rows then None else Some NotPaired
refuses_choice All rows = None

abbrev pub refuses_command : Naming → List PairRow → Command → Option Refusal
refuses_command names rows (AddPair primary secondary group) = refuses_primary primary secondary names rows (primary_of primary names)
refuses_command names rows (DelPair choice) = refuses_choice choice rows
refuses_command names rows (Suspend choice) = refuses_choice choice rows
refuses_command names rows (Start level) = None
refuses_command names rows Query = None
refuses_command names rows End = None

-- ---- the first refusal

abbrev pub is_start : Command → Bool
is_start (Start level) = true
is_start (AddPair primary secondary group) = false
is_start (DelPair choice) = false
is_start (Suspend choice) = false
is_start Query = false
is_start End = false

-- The session has ended; the name isn't the session's, or the session isn't started and the command doesn't start it; a start of a
-- started session; then the command's own.
abbrev pub refusal : Naming → Table → (session : List ℕ) → Command → Option Refusal
refusal names table session command =
    if table.is_ended then Some Ended
    else if not (bytes_eq session table.session) || (not table.is_started && not (is_start command)) then Some NoSession
    else if is_start command && table.is_started then Some SessionExists
    else refuses_command names table.rows command
