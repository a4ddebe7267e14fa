-- The rows after a formed group, and the changes of rows that it brings.
use Rattle.std.specs.Prelude.{ℕ, ◌==◌, ◌&&◌, List, [], ◌∷◌, ◌++◌, map, Bool, Option, Some, None, if◌then◌else◌}
use Rattle.std.specs.List.{flat_map, list_all, list_any}
use Rattle.tod_stamp.specs.declared.stamp.Stamp.{Stamp}
use Rattle.ckd_track.specs.declared.write.Cause.{Cause}
use Rattle.pair_table.specs.declared.row.PairRow.{PairRow}
use Rattle.pair_table.specs.declared.row.PairState.{PairState}
use Rattle.pair_table.specs.declared.row.PairState.TheVariants.{Pending, Copy, Duplex, Suspended}
use Rattle.pair_table.specs.declared.row.SuspendCause.TheVariants.{Control}
use Rattle.pair_table.specs.Rows.{is_suspended}
use Rattle.pair_table.specs.Tables.{in_state}
use Rattle.pending_queue.specs.Groups.{FormedGroup}
use Rattle.row_changes.specs.Changes.{Timed, break_time_of, is_at}
use Rattle.row_changes.specs.Changes.RowChange.{Break, Mature}

-- ---- what a group shows

-- the time of a controller's break, if it is among the breaks that a group reports
abbrev pub shown_break : (control : ℕ) → List (ℕ × Stamp × Cause) → Option Stamp
shown_break control [] = None
shown_break control (found ∷ breaks) = if found.0 == control then Some found.1 else shown_break control breaks

-- whether the plan of a row's volume is done with a group
abbrev pub is_shown_done : FormedGroup → PairRow → Bool
is_shown_done group row = list_any (λ plan. plan.0 == row.control && plan.1 == row.volume) group.done

-- whether a break that is reported at a time has this time, and so has its controller's break
abbrev pub is_break_at : (breaks : List (Option ℕ)) → (time : ℕ) → (ℕ × Stamp × Cause) → Bool
is_break_at breaks time found = found.1.0 == time && is_at time (break_time_of found.0 breaks)

-- Each break that a group reports has the cut as its time and as its controller's break time.
abbrev pub are_breaks_at_cut : (breaks : List (Option ℕ)) → FormedGroup → Bool
are_breaks_at_cut breaks group = list_all (is_break_at breaks group.cut.0) group.breaks

-- ---- the state of a row

-- A pending row is copied with the first group after its command. It is duplex, as a copied one is, once its plan is done.
abbrev pub matured_state : (is_done : Bool) → PairState → Option PairState
matured_state done Pending = if done then Some Duplex else Some Copy
matured_state done Copy = if done then Some Duplex else None
matured_state done Duplex = None
matured_state done (Suspended cause since) = None

-- A break suspends a row that isn't suspended, since the break's time.
abbrev pub broken_state : Stamp → PairState → Option PairState
broken_state since state = if is_suspended state then None else Some (Suspended Control since)

-- A break goes before a done plan.
abbrev pub state_by_group : (broken : Option Stamp) → (is_done : Bool) → PairState → Option PairState
state_by_group (Some since) done state = broken_state since state
state_by_group None done state = matured_state done state

-- the state to which a group changes a row, if it does
abbrev pub state_with_group : FormedGroup → PairRow → Option PairState
state_with_group group row = state_by_group (shown_break row.control group.breaks) (is_shown_done group row) row.state

-- ---- the rows

abbrev pub row_in : PairRow → Option PairState → PairRow
row_in row (Some state) = in_state state row
row_in row None = row

abbrev pub row_with_group : FormedGroup → PairRow → PairRow
row_with_group group row = row_in row (state_with_group group row)

abbrev pub rows_with_group : FormedGroup → List PairRow → List PairRow
rows_with_group group rows = map (row_with_group group) rows

-- ---- the changes

abbrev pub breaking : (time : ℕ) → (ℕ × Stamp × Cause) → Timed
breaking time found = record { time = time; change = Break found.0 }

abbrev pub maturing : (time device : ℕ) → Option PairState → List Timed
maturing time device (Some state) = record { time = time; change = Mature device state } ∷ []
maturing time device None = []

-- Nothing matures when its controller breaks.
abbrev pub matured_by : (broken : Option Stamp) → (is_done : Bool) → PairState → Option PairState
matured_by (Some since) done state = None
matured_by None done state = matured_state done state

abbrev pub matured_with_group : FormedGroup → PairRow → Option PairState
matured_with_group group row = matured_by (shown_break row.control group.breaks) (is_shown_done group row) row.state

-- the change of a row that a group makes copying or duplex
abbrev pub maturing_of : FormedGroup → PairRow → List Timed
maturing_of group row = maturing group.cut.0 row.device (matured_with_group group row)

-- First the breaks that the group reports, then the rows that mature with it, all at its cut.
abbrev pub group_changes : FormedGroup → List PairRow → List Timed
group_changes group rows = map (breaking group.cut.0) group.breaks ++ flat_map (maturing_of group) rows
