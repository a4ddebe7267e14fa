-- Rows of devices below a number.
use Rattle.std.proofs.Common.{◌≡◌, ℕ, ◌≤◌, true, List, [], ◌∷◌, refl, arith}
use Rattle.std.specs.Prelude.{nat_lt}
use Rattle.std.specs.List.{list_all}
use Rattle.std.proofs.lemmas.Bool.{and_from, and_parts, lt-ltb, ltb-true}
use Rattle.crash_plant.specs.Moments.{PlantState}
use Rattle.pair_table.specs.declared.row.PairRow.{PairRow}
use Rattle.pair_table.specs.Tables.{are_below}
use Rattle.site_store.specs.Standing.{row_has_volume}

pub below_more : (m n : ℕ) (rows : List PairRow) → m ≤ n → are_below m rows ≡ true → are_below n rows ≡ true
below_more m n [] le below = refl
below_more m n (r ∷ rows) le below =
    let parts = and_parts (nat_lt r.device m) (are_below m rows) below in
    let lt = ltb-true r.device m parts.0 in
    and_from (nat_lt r.device n) (are_below n rows) (lt-ltb r.device n (omega (arith, lt, le))) (below_more m n rows le parts.1)

-- The rows of a plant's volumes.
pub below_volumes : (plant : PlantState) (n : ℕ) (rows : List PairRow) → plant.volumes ≤ n → list_all (row_has_volume plant) rows ≡ true → are_below n rows ≡ true
below_volumes plant n [] le have = refl
below_volumes plant n (r ∷ rows) le have =
    let parts = and_parts (row_has_volume plant r) (list_all (row_has_volume plant) rows) have in
    let lt = ltb-true r.device plant.volumes (and_parts (nat_lt r.device plant.volumes) _ parts.0).0 in
    and_from (nat_lt r.device n) (are_below n rows) (lt-ltb r.device n (omega (arith, lt, le))) (below_volumes plant n rows le parts.1)
