-- Changes in a row.
use Rattle.std.proofs.Common.{◌≡◌, ℕ, ◌≤◌, Bool, true, ◌&&◌, List, [], ◌∷◌, ◌++◌, Option, refl, arith}
use Rattle.std.specs.Prelude.{nat_le}
use Rattle.std.proofs.lemmas.Bool.{and_from, and_parts, le-leb, leb-true}
use Rattle.pair_table.specs.declared.level.Level.{Level}
use Rattle.pair_table.specs.declared.row.PairRow.{PairRow}
use Rattle.row_changes.specs.Changes.{Due, Timed, after_change, after_changes, due_after, may_all_come, may_come}
use Rattle.record_rows.specs.ToldRows.{due_after_changes}

pub changes_in_a_row : (level : Level) (xs ys : List Timed) (rows : List PairRow) → after_changes level (xs ++ ys) rows ≡ after_changes level ys (after_changes level xs rows)
changes_in_a_row level [] ys rows = refl
changes_in_a_row level (t ∷ xs) ys rows = changes_in_a_row level xs ys (after_change level t rows)

module _ (level : Level) (breaks : List (Option ℕ)) where
  -- the parts of what may come first
  pub comes_here : (due : Due) (from to : ℕ) (rows : List PairRow) (t : Timed) → from ≤ t.time → t.time ≤ to → may_come breaks due rows t ≡ true → (nat_le from t.time && nat_le t.time to && may_come breaks due rows t) ≡ true
  comes_here due from to rows t after before may = and_from (nat_le from t.time && nat_le t.time to) (may_come breaks due rows t) (and_from (nat_le from t.time) (nat_le t.time to) (le-leb from t.time after) (le-leb t.time to before)) may

  -- a change, and others after it
  pub comes_first : (may_be_due : Bool) (due : Due) (from to : ℕ) (rows : List PairRow) (t : Timed) (changes : List Timed) → from ≤ t.time → t.time ≤ to → may_come breaks due rows t ≡ true
      → may_all_come level breaks may_be_due (due_after level due t) t.time to (after_change level t rows) changes ≡ true → may_all_come level breaks may_be_due due from to rows (t ∷ changes) ≡ true
  comes_first m due from to rows t changes after before may rest =
      and_from (nat_le from t.time && nat_le t.time to && may_come breaks due rows t) (may_all_come level breaks m (due_after level due t) t.time to (after_change level t rows) changes) (comes_here due from to rows t after before may) rest

  -- What comes from a time on comes from an earlier one on.
  pub comes_earlier : (may_be_due : Bool) (due : Due) (early from to : ℕ) (rows : List PairRow) (changes : List Timed) → early ≤ from → may_all_come level breaks may_be_due due from to rows changes ≡ true → may_all_come level breaks may_be_due due early to rows changes ≡ true
  comes_earlier m due early from to rows [] le may = may
  comes_earlier m due early from to rows (t ∷ changes) le may =
      let p = and_parts (nat_le from t.time && nat_le t.time to && may_come breaks due rows t) (may_all_come level breaks m (due_after level due t) t.time to (after_change level t rows) changes) may in
      let q = and_parts (nat_le from t.time && nat_le t.time to) (may_come breaks due rows t) p.0 in
      let r = and_parts (nat_le from t.time) (nat_le t.time to) q.0 in
      comes_first m due early to rows t changes (let l : from ≤ t.time = leb-true from t.time r.0 in omega (arith, le, l)) (leb-true t.time to r.1) q.1 p.1

  -- What comes up to a time and what comes after it comes in a row.
  pub comes_in_a_row : (first may_be_due : Bool) (due : Due) (from mid to : ℕ) (rows : List PairRow) (xs ys : List Timed) → mid ≤ to → from ≤ mid → may_all_come level breaks first due from mid rows xs ≡ true
      → may_all_come level breaks may_be_due (due_after_changes level due xs) mid to (after_changes level xs rows) ys ≡ true → may_all_come level breaks may_be_due due from to rows (xs ++ ys) ≡ true
  comes_in_a_row f m due from mid to rows [] ys le up may then = comes_earlier m due from mid to rows ys up then
  comes_in_a_row f m due from mid to rows (t ∷ xs) ys le up may then =
      let p = and_parts (nat_le from t.time && nat_le t.time mid && may_come breaks due rows t) (may_all_come level breaks f (due_after level due t) t.time mid (after_change level t rows) xs) may in
      let q = and_parts (nat_le from t.time && nat_le t.time mid) (may_come breaks due rows t) p.0 in
      let r = and_parts (nat_le from t.time) (nat_le t.time mid) q.0 in
      let before : t.time ≤ mid = leb-true t.time mid r.1 in
      comes_first m due from to rows t (xs ++ ys) (leb-true from t.time r.0) (omega (arith, before, le)) q.1 (comes_in_a_row f m (due_after level due t) t.time mid to (after_change level t rows) xs ys le before p.1 then)
