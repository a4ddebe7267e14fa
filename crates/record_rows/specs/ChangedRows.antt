-- The rows that a record names: those that it changes, as they stand after it.
use Rattle.std.specs.Prelude.{ℕ, ◌&&◌, ◌||◌, not, List, [], ◌∷◌, map, fold, Option, Some, None, if◌then◌else◌}
use Rattle.std.specs.List.{flat_map}
use Rattle.pair_table.specs.declared.row.PairRow.{PairRow}
use Rattle.pair_table.specs.declared.row.PairState.{PairState}
use Rattle.pair_table.specs.declared.row.SuspendCause.TheVariants.{Device}
use Rattle.pair_table.specs.Devices.{is_among}
use Rattle.pair_table.specs.Rows.{is_suspended}
use Rattle.pair_table.specs.Tables.{in_state, with_row}
use Rattle.pending_queue.specs.Groups.{FormedGroup}
use Rattle.row_changes.specs.Changes.{FaultReach, since}
use Rattle.record_rows.specs.GroupRows.{row_in, row_with_group, state_with_group}
use Rattle.record_rows.specs.Hits.{is_reached}

-- ---- rows by the states to which they change

abbrev pub rows_in_states : (PairRow → Option PairState) → List PairRow → List PairRow
rows_in_states state rows = map (λ r. row_in r (state r)) rows

abbrev pub changed_to : PairRow → Option PairState → List PairRow
changed_to row (Some state) = in_state state row ∷ []
changed_to row None = []

-- the rows that change, in order
abbrev pub changed_rows : (PairRow → Option PairState) → List PairRow → List PairRow
changed_rows state rows = flat_map (λ r. changed_to r (state r)) rows

-- Rows are put one after another, each in the place of its device's row.
abbrev pub with_rows_put : (put : List PairRow) → List PairRow → List PairRow
with_rows_put put rows = fold (λ all r. with_row r all) rows put

-- ---- the states

-- The state to which a row changes by hits of a record, or else by these and those of a mark before it, if they reach it.
abbrev pub state_told : FaultReach → (time : ℕ) → (marked hit : List ℕ) → PairRow → Option PairState
state_told reach time marked hit r =
    if is_among r.device hit then Some (since Device time)
    else if (is_reached reach marked r || is_reached reach hit r) && not (is_suspended r.state) then Some (since reach.cause time)
    else None

abbrev pub later_state : (last first : Option PairState) → Option PairState
later_state (Some state) first = Some state
later_state None first = first

-- the state to which a record of a group changes a row: hits after what the group makes of it
abbrev pub state_with_record : FaultReach → (marked hit : List ℕ) → FormedGroup → PairRow → Option PairState
state_with_record reach marked hit group r = later_state (state_told reach group.cut.0 marked hit (row_with_group group r)) (state_with_group group r)
