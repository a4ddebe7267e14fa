-- Rows of either version, by the laws of each.
use Rattle.std.proofs.Common.{◌≡◌, ℕ, Bool, true, false, cond, nat_eq, List, length, Option, Some, None, refl}
use Rattle.std.proofs.lemmas.Bool.{eqb-true}
use Rattle.tod_stamp.specs.Fields.{IsBytes}
use Rattle.tod_stamp.specs.Options.{◌>>=◌}
use Rattle.pair_table.specs.declared.row.PairRow.{PairRow}
use Rattle.pair_table.specs.Rows.{fields_of, if_narrow, is_narrow_row, is_row, is_version_row, keeps_row_rules, narrow_row_at, narrow_spelling, row_at, row_by, row_length, row_spelling, row_text, widened}
use Rattle.pair_table.proofs.NarrowRows.{narrow_back, narrow_keep, narrow_rules, narrow_spelled}
use Rattle.pair_table.proofs.RowReads.{rows_keep, rows_spelled, where_true}
use Rattle.pair_table.proofs.RowsAgain.{rows_back}

pub version_back : (version : ℕ) (r : PairRow) → is_version_row version r ≡ true → row_by version (row_text version r) ≡ Some r
version_back version r is = by (nat_eq version 1) is
  where
    by : (first : Bool) → cond first (is_narrow_row r) (is_row r) ≡ true → cond first (narrow_row_at (cond first (narrow_spelling r) (row_spelling r))) (row_at (cond first (narrow_spelling r) (row_spelling r))) ≡ Some r
    by true is = narrow_back r is
    by false is = rows_back r is

pub version_spelled : (version : ℕ) (bytes : List ℕ) (r : PairRow) → IsBytes bytes → row_by version bytes ≡ Some r → bytes ≡ row_text version r
version_spelled version bytes r fits e = by (nat_eq version 1) e
  where
    by : (first : Bool) → cond first (narrow_row_at bytes) (row_at bytes) ≡ Some r → bytes ≡ cond first (narrow_spelling r) (row_spelling r)
    by true e = narrow_spelled bytes r fits e
    by false e = rows_spelled bytes r fits e

pub version_keeps : (version : ℕ) (bytes : List ℕ) (r : PairRow) → IsBytes bytes → row_by version bytes ≡ Some r → is_version_row version r ≡ true
version_keeps version bytes r fits e = by (nat_eq version 1) e
  where
    by : (first : Bool) → cond first (narrow_row_at bytes) (row_at bytes) ≡ Some r → cond first (is_narrow_row r) (is_row r) ≡ true
    by true e = narrow_keep bytes r fits e
    by false e = rows_keep bytes r fits e

-- What is read as a row has the length of one.
pub version_length : (version : ℕ) (bytes : List ℕ) (r : PairRow) → row_by version bytes ≡ Some r → length bytes ≡ row_length version
version_length version bytes r e = by (nat_eq version 1) e
  where
    by : (first : Bool) → cond first (narrow_row_at bytes) (row_at bytes) ≡ Some r → length bytes ≡ cond first 30 38
    by true e = eqb-true (length bytes) 30 (where_true (nat_eq (length bytes) 30) (row_at (widened bytes) >>= if_narrow) r e).0
    by false e = eqb-true (length bytes) 38 (where_true (nat_eq (length bytes) 38) (fields_of bytes) r e).0

pub text_length : (version : ℕ) (r : PairRow) → is_version_row version r ≡ true → length (row_text version r) ≡ row_length version
text_length version r is = version_length version (row_text version r) r (version_back version r is)

-- A row of either version keeps the rules of a row.
pub version_row : (version : ℕ) (r : PairRow) → is_version_row version r ≡ true → is_row r ≡ true
version_row version r is = by (nat_eq version 1) is
  where
    by : (first : Bool) → cond first (is_narrow_row r) (is_row r) ≡ true → is_row r ≡ true
    by true is = (narrow_rules r is).row
    by false is = is
