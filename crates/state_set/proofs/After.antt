-- One row after others: the rules over several rows.
use Rattle.std.proofs.Common.{◌≡◌, ℕ, ◌≤◌, ◌<◌, Bool, true, false, not, nat_eq, nat_lt, nat_le, ◌&&◌, ◌||◌, List, [], ◌∷◌, ◌++◌, length, refl, sym, ap, ◌∙◌, arith, length-append, true≢false, Option, is_some, Bor}
use Rattle.std.specs.Prelude.{bytes_eq, IsSome}
use Rattle.std.specs.List.{list_any}
use Rattle.std.proofs.lemmas.Bool.{and_parts, and_from, or_parts, or_from, not_from_false, not_from_true, false_from_ne_true, eqb-true, eq-eqb, leb-true, le-leb, lt-ltb, le-ltb}
use Rattle.pair_table.specs.declared.row.PairRow.{PairRow}
use Rattle.pair_table.specs.Rows.{keeps_row_rules}
use Rattle.pair_table.specs.Tables.{is_of, HasRow, with_row, clashes, none_clash, most_rows, MayPut, are_below}
use Rattle.state_set.specs.Slots.{are_rows}

not_true : (b : Bool) → not b ≡ true → b ≡ false
not_true false e = refl
not_true true e = absurd cc

pub not_then : (a b : Bool) → (a ≡ true → b ≡ true) → b ≡ false → a ≡ false
not_then a b to none = false_from_ne_true a (λ e. true≢false (sym (to e) ∙ none))

-- ---- the rules one by one

pub record AreRows (volumes : ℕ) (rows : List PairRow) : Type 0 where
  pub few : length rows ≤ most_rows
  pub apart : none_clash rows ≡ true
  pub below : are_below volumes rows ≡ true

pub rows_parts : (volumes : ℕ) (rows : List PairRow) → are_rows volumes rows ≡ true → AreRows volumes rows
rows_parts volumes rows e =
    let a = and_parts (nat_le (length rows) most_rows && none_clash rows) (are_below volumes rows) e in
    let b = and_parts (nat_le (length rows) most_rows) (none_clash rows) a.0 in
    record { few = leb-true (length rows) most_rows b.0; apart = b.1; below = a.1 }

pub rows_from : (volumes : ℕ) (rows : List PairRow) → AreRows volumes rows → are_rows volumes rows ≡ true
rows_from volumes rows are =
    and_from (nat_le (length rows) most_rows && none_clash rows) (are_below volumes rows)
    (and_from (nat_le (length rows) most_rows) (none_clash rows) (le-leb (length rows) most_rows are.few) are.apart) are.below

-- ---- what holds of rows holds of the first of them

any_front : (test : PairRow → Bool) (xs ys : List PairRow) → list_any test (xs ++ ys) ≡ false → list_any test xs ≡ false
any_front test [] ys e = refl
any_front test (x ∷ xs) ys e =
    let parts = or_parts (test x) (list_any test (xs ++ ys)) e in
    or_from (test x) (list_any test xs) parts.0 (any_front test xs ys parts.1)

apart_front : (xs ys : List PairRow) → none_clash (xs ++ ys) ≡ true → none_clash xs ≡ true
apart_front [] ys e = refl
apart_front (x ∷ xs) ys e =
    let parts = and_parts (not (list_any (clashes x) (xs ++ ys))) (none_clash (xs ++ ys)) e in
    and_from (not (list_any (clashes x) xs)) (none_clash xs)
    (not_from_false (list_any (clashes x) xs) (any_front (clashes x) xs ys (not_true (list_any (clashes x) (xs ++ ys)) parts.0)))
    (apart_front xs ys parts.1)

below_front : (volumes : ℕ) (xs ys : List PairRow) → are_below volumes (xs ++ ys) ≡ true → are_below volumes xs ≡ true
below_front volumes [] ys e = refl
below_front volumes (x ∷ xs) ys e =
    let parts = and_parts (nat_lt x.device volumes) (are_below volumes (xs ++ ys)) e in
    and_from (nat_lt x.device volumes) (are_below volumes xs) parts.0 (below_front volumes xs ys parts.1)

pub rows_front : (volumes : ℕ) (xs ys : List PairRow) → are_rows volumes (xs ++ ys) ≡ true → are_rows volumes xs ≡ true
rows_front volumes xs ys e =
    let are = rows_parts volumes (xs ++ ys) e in
    rows_from volumes xs (record { few = omega (arith, are.few, length-append xs ys); apart = apart_front xs ys are.apart; below = below_front volumes xs ys are.below })

-- ---- the last row

any_last : (test : PairRow → Bool) (xs : List PairRow) (y : PairRow) → list_any test (xs ++ y ∷ []) ≡ false → test y ≡ false
any_last test [] y e = (or_parts (test y) false e).0
any_last test (x ∷ xs) y e = any_last test xs y (or_parts (test x) (list_any test (xs ++ y ∷ [])) e).1

-- rows that don't clash have other devices
other_device : (r s : PairRow) → clashes r s ≡ false → is_of s.device r ≡ false
other_device r s e =
    let one = or_parts (bytes_eq r.primary s.primary || nat_eq r.device s.device) (nat_eq r.control s.control && nat_eq r.volume s.volume) e in
    let two = or_parts (bytes_eq r.primary s.primary) (nat_eq r.device s.device) one.0 in
    not_then (nat_eq s.device r.device) (nat_eq r.device s.device) (λ same. eq-eqb r.device s.device (sym (eqb-true s.device r.device same))) two.1

last_apart : (rows : List PairRow) (row : PairRow) → none_clash (rows ++ row ∷ []) ≡ true → list_any (is_of row.device) rows ≡ false
last_apart [] row e = refl
last_apart (r ∷ rows) row e =
    let parts = and_parts (not (list_any (clashes r) (rows ++ row ∷ []))) (none_clash (rows ++ row ∷ [])) e in
    let here = any_last (clashes r) rows row (not_true (list_any (clashes r) (rows ++ row ∷ [])) parts.0) in
    or_from (is_of row.device r) (list_any (is_of row.device) rows) (other_device r row here) (last_apart rows row parts.1)

below_last : (volumes : ℕ) (rows : List PairRow) (row : PairRow) → are_below volumes (rows ++ row ∷ []) ≡ true → nat_lt row.device volumes ≡ true
below_last volumes [] row e = (and_parts (nat_lt row.device volumes) true e).0
below_last volumes (r ∷ rows) row e = below_last volumes rows row (and_parts (nat_lt r.device volumes) (are_below volumes (rows ++ row ∷ [])) e).1

pub below_more : (volumes : ℕ) (rows : List PairRow) (row : PairRow) → are_below volumes rows ≡ true → nat_lt row.device volumes ≡ true → are_below volumes (rows ++ row ∷ []) ≡ true
below_more volumes [] row e lt = and_from (nat_lt row.device volumes) true lt refl
below_more volumes (r ∷ rows) row e lt =
    let parts = and_parts (nat_lt r.device volumes) (are_below volumes rows) e in
    and_from (nat_lt r.device volumes) (are_below volumes (rows ++ row ∷ [])) parts.0 (below_more volumes rows row parts.1 lt)

-- A row of a device without one goes last.
pub goes_last : (rows : List PairRow) (row : PairRow) → list_any (is_of row.device) rows ≡ false → with_row row rows ≡ rows ++ row ∷ []
goes_last [] row e = refl
goes_last (r ∷ rows) row e =
    let parts = or_parts (is_of row.device r) (list_any (is_of row.device) rows) e in
    rw parts.0 (ap (λ (t : List PairRow). r ∷ t) (goes_last rows row parts.1))

-- ---- a row may follow

-- what is tested of the row where it may
pub record Follows (volumes : ℕ) (rows : List PairRow) (row : PairRow) : Type 0 where
  pub below : nat_lt row.device volumes ≡ true
  pub absent : list_any (is_of row.device) rows ≡ false
  pub may : MayPut row rows

pub follows : (volumes : ℕ) (rows : List PairRow) (row : PairRow) → keeps_row_rules row ≡ true → are_rows volumes (rows ++ row ∷ []) ≡ true → Follows volumes rows row
follows volumes rows row rules e =
    let are = rows_parts volumes (rows ++ row ∷ []) e in
    let absent = last_apart rows row are.apart in
    let last = goes_last rows row absent in
    record {
      below = below_last volumes rows row are.below;
      absent = absent;
      may = record { rules = rules; apart = ap none_clash last ∙ are.apart; few = omega (arith, ap length last, are.few) };
    }

pub follows_from : (volumes : ℕ) (rows : List PairRow) (row : PairRow) → are_rows volumes rows ≡ true → Follows volumes rows row → are_rows volumes (rows ++ row ∷ []) ≡ true
follows_from volumes rows row before is =
    let last = goes_last rows row is.absent in
    rows_from volumes (rows ++ row ∷ []) (record {
      few = omega (arith, ap length last, is.may.few);
      apart = ap none_clash (sym last) ∙ is.may.apart;
      below = below_more volumes rows row (rows_parts volumes rows before).below is.below;
    })

-- ---- the tests of a row

pub same_bool : (a b : Bool) → (a ≡ true → b ≡ true) → (b ≡ true → a ≡ true) → a ≡ b
same_bool true b f g = sym (f refl)
same_bool false true f g = g refl
same_bool false false f g = refl

module _ (volumes : ℕ) (rows : List PairRow) (row : PairRow) (rules : keeps_row_rules row ≡ true) (before : are_rows volumes rows ≡ true) where
  pub beyond : volumes ≤ row.device → are_rows volumes (rows ++ row ∷ []) ≡ false
  beyond le = not_then (are_rows volumes (rows ++ row ∷ [])) (nat_lt row.device volumes) (λ e. (follows volumes rows row rules e).below) (le-ltb row.device volumes le)

  -- where a row of its device is shown
  module _ (shown : Option (Bor PairRow)) (found : (IsSome shown → HasRow row.device rows) × (HasRow row.device rows → IsSome shown)) where
    pub has_one : is_some shown ≡ true → are_rows volumes (rows ++ row ∷ []) ≡ false
    has_one e = not_then (are_rows volumes (rows ++ row ∷ [])) (not (list_any (is_of row.device) rows)) (λ are. not_from_false (list_any (is_of row.device) rows) (follows volumes rows row rules are).absent)
        (not_from_true (list_any (is_of row.device) rows) (found.0 e))

    pub has_none : is_some shown ≡ false → row.device < volumes → (may : Bool) → (may ≡ true → MayPut row rows) × (MayPut row rows → may ≡ true) → may ≡ are_rows volumes (rows ++ row ∷ [])
    has_none e lt may tells =
        let absent = not_then (list_any (is_of row.device) rows) (is_some shown) found.1 e in
        same_bool may (are_rows volumes (rows ++ row ∷ []))
        (λ yes. follows_from volumes rows row before (record { below = lt-ltb row.device volumes lt; absent = absent; may = tells.0 yes }))
        (λ are. tells.1 (follows volumes rows row rules are).may)
