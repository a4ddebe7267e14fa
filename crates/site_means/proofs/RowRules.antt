-- Rows with a row more, and with one less.
use Rattle.std.proofs.Common.{◌≡◌, ℕ, ◌≤◌, ◌<◌, Bool, true, false, not, cond, nat_lt, ◌&&◌, List, [], ◌∷◌, refl, sym, ap, ◌∙◌}
use Rattle.std.proofs.lemmas.Bool.{and_parts, and_from, le-ltb, lt-ltb}
use Rattle.pair_table.specs.declared.row.PairRow.{PairRow}
use Rattle.pair_table.specs.Rows.{keeps_row_rules}
use Rattle.pair_table.specs.Tables.{is_of, with_row, without_row, MayPut, are_below}
use Rattle.state_set.specs.Slots.{are_rows}
use Rattle.state_set.proofs.After.{not_then, same_bool, rows_parts, rows_from}

alone : (b : Bool) → (b && true) ≡ b
alone true = refl
alone false = refl

beside : (a b : Bool) → b ≡ true → (a && b) ≡ a
beside a b is = ap (λ (c : Bool). a && c) is ∙ alone a

after_true : (a b : Bool) → a ≡ true → (a && b) ≡ b
after_true a b is = ap (λ (c : Bool). c && b) is

-- rows with one more are below where that one is
pub below_with : (volumes : ℕ) (rows : List PairRow) (row : PairRow) → are_below volumes rows ≡ true → are_below volumes (with_row row rows) ≡ nat_lt row.device volumes
below_with volumes [] row e = alone (nat_lt row.device volumes)
below_with volumes (r ∷ rows) row e =
    let parts = and_parts (nat_lt r.device volumes) (are_below volumes rows) e in
    by_device (is_of row.device r) parts.0 parts.1 (below_with volumes rows row parts.1)
  where
    by_device : (here : Bool) → nat_lt r.device volumes ≡ true → are_below volumes rows ≡ true → are_below volumes (with_row row rows) ≡ nat_lt row.device volumes
        → are_below volumes (cond here (row ∷ rows) (r ∷ with_row row rows)) ≡ nat_lt row.device volumes
    by_device true first others more = beside (nat_lt row.device volumes) (are_below volumes rows) others
    by_device false first others more = after_true (nat_lt r.device volumes) (are_below volumes (with_row row rows)) first ∙ more

pub below_without : (volumes device : ℕ) (rows : List PairRow) → are_below volumes rows ≡ true → are_below volumes (without_row device rows) ≡ true
below_without volumes device [] e = refl
below_without volumes device (r ∷ rows) e =
    let parts = and_parts (nat_lt r.device volumes) (are_below volumes rows) e in
    by_device (not (is_of device r)) parts.0 (below_without volumes device rows parts.1)
  where
    by_device : (stays : Bool) → nat_lt r.device volumes ≡ true → are_below volumes (without_row device rows) ≡ true → are_below volumes (cond stays (r ∷ without_row device rows) (without_row device rows)) ≡ true
    by_device true first more = and_from (nat_lt r.device volumes) (are_below volumes (without_row device rows)) first more
    by_device false first more = more

-- the tests of a row that is put
module _ (volumes : ℕ) (rows : List PairRow) (row : PairRow) (rules : keeps_row_rules row ≡ true) (below : are_below volumes rows ≡ true) where
  pub put_beyond : volumes ≤ row.device → are_rows volumes (with_row row rows) ≡ false
  put_beyond le = not_then (are_rows volumes (with_row row rows)) (nat_lt row.device volumes) (λ e. sym (below_with volumes rows row below) ∙ (rows_parts volumes (with_row row rows) e).below) (le-ltb row.device volumes le)

  pub put_within : row.device < volumes → (may : Bool) → (may ≡ true → MayPut row rows) × (MayPut row rows → may ≡ true) → may ≡ are_rows volumes (with_row row rows)
  put_within lt may tells = same_bool may (are_rows volumes (with_row row rows))
      (λ yes. let m = tells.0 yes in rows_from volumes (with_row row rows) (record { few = m.few; apart = m.apart; below = below_with volumes rows row below ∙ lt-ltb row.device volumes lt }))
      (λ are. let parts = rows_parts volumes (with_row row rows) are in tells.1 (record { rules = rules; apart = parts.apart; few = parts.few }))
