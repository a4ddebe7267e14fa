-- The rows of one table put into another, row by row, and taken out.
use Rattle.std.proofs.Common.{◌≡◌, ℕ, zero, suc, ◌+◌, ◌≤◌, ◌<◌, ◌==◌, ◌||◌, Bool, true, false, not, cond, List, [], ◌∷◌, ◌++◌, length, filter, take, Option, Some, None, refl, sym, ap, ◌∙◌, arith, eq-eqb, Bor}
use Rattle.std.specs.Prelude.{slice_get}
use Rattle.std.specs.Option.{option_copied}
use Rattle.std.specs.List.{list_any}
use Rattle.std.proofs.lemmas.Bool.{and_from}
use Rattle.std.proofs.lemmas.List.{take_more}
use Rattle.std.proofs.lemmas.Option.{slice_get_within, get_or_from_slice_get}
use Rattle.pair_table.specs.declared.row.PairRow.{PairRow}
use Rattle.pair_table.specs.Rows.{keeps_row_rules}
use Rattle.pair_table.specs.Tables.{AreRowsSound, MayPut, clashes, is_of, none_clash, with_row, without_row}
use Rattle.pair_table.proofs.AddLaws.{with_row-last}
use Rattle.pair_table.proofs.TableLaws.{either_false, first_apart, not_false}
use Rattle.site_store.proofs.Breaks.{eqb_sym_false}

-- ---- taken out

shorter : (keep : PairRow → Bool) (rows : List PairRow) → length (filter keep rows) ≤ length rows
shorter keep [] = omega arith
shorter keep (r ∷ rows) = by_test (keep r) (shorter keep rows)
  where
    by_test : (b : Bool) → length (filter keep rows) ≤ length rows → length (cond b (r ∷ filter keep rows) (filter keep rows)) ≤ length (r ∷ rows)
    by_test true le = omega (arith, le)
    by_test false le = omega (arith, le)

-- Without the first row there are fewer.
pub fewer : (rows : List PairRow) (row : PairRow) → slice_get rows 0 ≡ Some row → length (without_row row.device rows) < length rows
fewer [] row is = absurd (cc is)
fewer (r ∷ rows) row is =
    let same : r ≡ row = cc is in
    let own : (row.device == r.device) ≡ true = eq-eqb row.device r.device (ap (λ (s : PairRow). s.device) (sym same)) in
    let away : without_row row.device (r ∷ rows) ≡ without_row row.device rows = λ i. cond (not (own i)) (r ∷ without_row row.device rows) (without_row row.device rows) in
    omega (arith, ap length away, shorter (λ s. not (is_of row.device s)) rows)

pub none_first : (rows : List PairRow) → slice_get rows 0 ≡ None → rows ≡ []
none_first [] is = refl
none_first (r ∷ rows) is = absurd (cc is)

-- ---- put after the others

none_before : (test : PairRow → Bool) (rows : List PairRow) (i : ℕ) → list_any test rows ≡ false → list_any test (take i rows) ≡ false
none_before test [] zero none = refl
none_before test [] (suc i) none = refl
none_before test (r ∷ rows) zero none = refl
none_before test (r ∷ rows) (suc i) none =
    let parts = either_false (test r) (list_any test rows) none in
    (λ j. parts.0 j || none_before test rows i parts.1 j)

-- No two of the first rows clash.
first_apart_still : (rows : List PairRow) (i : ℕ) → none_clash rows ≡ true → none_clash (take i rows) ≡ true
first_apart_still [] zero apart = refl
first_apart_still [] (suc i) apart = refl
first_apart_still (r ∷ rows) zero apart = refl
first_apart_still (r ∷ rows) (suc i) apart =
    let first = first_apart r rows apart in
    and_from (not (list_any (clashes r) (take i rows))) (none_clash (take i rows)) (not_false (list_any (clashes r) (take i rows)) (none_before (clashes r) rows i first.first)) (first_apart_still rows i first.others)

none_there : (test : PairRow → Bool) (rows : List PairRow) (i : ℕ) (row : PairRow) → list_any test rows ≡ false → slice_get rows i ≡ Some row → test row ≡ false
none_there test [] i row none is = absurd (cc is)
none_there test (r ∷ rows) zero row none is = let same : r ≡ row = cc is in ap test (sym same) ∙ (either_false (test r) (list_any test rows) none).0
none_there test (r ∷ rows) (suc i) row none is = none_there test rows i row (either_false (test r) (list_any test rows) none).1 is

-- No row before one is of its device.
new_device : (rows : List PairRow) (i : ℕ) (row : PairRow) → none_clash rows ≡ true → slice_get rows i ≡ Some row → list_any (is_of row.device) (take i rows) ≡ false
new_device [] i row apart is = absurd (cc is)
new_device (r ∷ rows) zero row apart is = refl
new_device (r ∷ rows) (suc i) row apart is =
    let first = first_apart r rows apart in
    let differ : (row.device == r.device) ≡ false = eqb_sym_false r.device row.device (none_there (is_of r.device) rows i row first.devices is) in
    (λ j. differ j || new_device rows i row first.others is j)

module _ (rows : List PairRow) (i : ℕ) (row : PairRow) (keeps : AreRowsSound rows) (is : slice_get rows i ≡ Some row) where
  -- The next row goes after those before it.
  pub next_row : with_row row (take i rows) ≡ take (i + 1) rows
  next_row =
      with_row-last row (take i rows) (new_device rows i row keeps.apart is)
      ∙ ap (λ (r : PairRow). take i rows ++ r ∷ []) (sym (get_or_from_slice_get rows i row row is)) ∙ sym (take_more rows i row (slice_get_within rows i row is))

  few_still : length (take (i + 1) rows) ≤ length rows
  few_still = at_most (i + 1) rows
    where
      at_most : (n : ℕ) (l : List PairRow) → length (take n l) ≤ length l
      at_most zero l = omega arith
      at_most (suc n) [] = omega arith
      at_most (suc n) (r ∷ l) = omega (arith, at_most n l)

  pub may_put_next : keeps_row_rules row ≡ true → MayPut row (take i rows)
  may_put_next rules = record {
    rules = rules;
    apart = ap none_clash next_row ∙ first_apart_still rows (i + 1) keeps.apart;
    few = omega (arith, ap length next_row, few_still, keeps.few);
  }

-- ---- a row that is shown

pub no_first : (shown : Option (Bor PairRow)) (rows : List PairRow) → option_copied shown ≡ slice_get rows 0 → ((row : Bor PairRow) → shown ≡ Some row → ⊥) → rows ≡ []
no_first None rows is none = none_first rows (sym is)
no_first (Some row) rows is none = absurd (none row refl)
