-- What worked records and marks name: two pairs of one controller, and groups.
use Rattle.std.specs.Prelude.{ℕ, List, [], ◌∷◌, true, false, Bool, Option, Some, None, codes}
use Rattle.tod_stamp.specs.declared.stamp.Stamp.{Stamp}
use Rattle.ckd_track.specs.declared.write.Cause.TheVariants.{ReadFault}
use Rattle.pair_table.specs.declared.row.PairRow.{PairRow}
use Rattle.pair_table.specs.declared.row.PairState.{PairState}
use Rattle.pair_table.specs.declared.row.PairState.TheVariants.{Duplex}
use Rattle.pair_table.specs.declared.row.SuspendCause.TheVariants.{Device as ByDevice}
use Rattle.pending_queue.specs.Groups.{FormedGroup, empty_group, with_break, with_done}
use Rattle.row_changes.specs.Changes.{since}
use Rattle.site_tests.specs.PairVectors.{first_row}

-- the second volume of the first controller, with the second device
abbrev pub beside_row : PairState → PairRow
beside_row state = record { primary = codes "PRIM02"; secondary = codes "SEC002"; control = 0; volume = 1; device = 1; cylinders = 1; state = state; group = None }

abbrev pub rows_beside : PairState → PairState → List PairRow
rows_beside one two = first_row one ∷ beside_row two ∷ []

abbrev pub duplex_rows : List PairRow
duplex_rows = rows_beside Duplex Duplex

-- three pairs, of which the first two are of one group
abbrev pub in_group : Option (List ℕ) → PairRow → PairRow
in_group group r = record r { group = group }

abbrev pub third_row : PairState → PairRow
third_row state = record { primary = codes "PRIM03"; secondary = codes "SEC003"; control = 0; volume = 2; device = 2; cylinders = 1; state = state; group = None }

abbrev pub grouped_rows : PairState → PairState → PairState → List PairRow
grouped_rows one two three = in_group (Some (codes "DB1")) (first_row one) ∷ in_group (Some (codes "DB1")) (beside_row two) ∷ third_row three ∷ []

abbrev pub first_failed : List Bool
first_failed = true ∷ []

abbrev pub third_failed : List Bool
third_failed = false ∷ false ∷ true ∷ []

-- two groups of two pairs each
abbrev pub fourth_row : PairState → PairRow
fourth_row state = record { primary = codes "PRIM04"; secondary = codes "SEC004"; control = 0; volume = 3; device = 3; cylinders = 1; state = state; group = None }

abbrev pub two_groups : PairState → PairState → PairState → PairState → List PairRow
two_groups one two three four =
    in_group (Some (codes "DB1")) (first_row one) ∷ in_group (Some (codes "DB1")) (beside_row two)
    ∷ in_group (Some (codes "DB2")) (third_row three) ∷ in_group (Some (codes "DB2")) (fourth_row four) ∷ []

abbrev pub first_and_third_failed : List Bool
first_and_third_failed = true ∷ false ∷ true ∷ []

-- the second pair suspended by its device
abbrev pub second_out : (time : ℕ) → List PairRow
second_out time = rows_beside Duplex (since ByDevice time)

abbrev pub stamp_at : (time : ℕ) → Stamp
stamp_at time = record { 0 = time }

-- a group that brings no change of rows
abbrev pub group_cut_at : (cut : ℕ) → FormedGroup
group_cut_at cut = empty_group 1 (stamp_at cut)

-- the group of [5F], the break time of the first controller
abbrev pub broken_group : FormedGroup
broken_group = with_break (group_cut_at 0x5F) 0 (stamp_at 0x5F) ReadFault

-- the group of [6D], with which the plan of the second volume is done
abbrev pub done_group : FormedGroup
done_group = with_done (group_cut_at 0x6D) 0 1

-- the volumes whose jobs have failed
abbrev pub second_failed : List Bool
second_failed = false ∷ true ∷ []

abbrev pub both_failed : List Bool
both_failed = true ∷ true ∷ []
