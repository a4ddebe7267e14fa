-- What worked changes name.
use Rattle.std.specs.Prelude.{ℕ, List, [], ◌∷◌, Option, None, codes}
use Rattle.pair_table.specs.declared.row.PairRow.{PairRow}
use Rattle.pair_table.specs.declared.row.PairState.{PairState}
use Rattle.site_tests.specs.PairVectors.{first_row}
use Rattle.row_changes.specs.Changes.{RowChange, Timed}

-- two pairs of two controllers, and a change at a time
abbrev pub second_row : PairState → PairRow
second_row state = record { primary = codes "PRIM02"; secondary = codes "SEC002"; control = 1; volume = 0; device = 1; cylinders = 1; state = state; group = None }

abbrev pub two_rows : PairState → PairState → List PairRow
two_rows one two = first_row one ∷ second_row two ∷ []

abbrev pub at_time : ℕ → RowChange → Timed
at_time time change = record { time = time; change = change }

-- two controllers of which none breaks
abbrev pub no_breaks : List (Option ℕ)
no_breaks = None ∷ None ∷ []

-- no volume's count rises
abbrev pub no_rises : (device : ℕ) → ℕ
no_rises device = 0
