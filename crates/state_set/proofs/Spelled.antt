-- Rows that are spelled one after the other, in version 2.
use Rattle.std.proofs.Common.{◌≡◌, ℕ, ◌+◌, ◌*◌, ◌<◌, true, List, [], ◌∷◌, ◌++◌, length, get_or, take, refl, sym, ap, ◌∙◌, arith, append-nil, length-append}
use Rattle.std.specs.List.{list_all}
use Rattle.std.proofs.lemmas.Bool.{and_parts}
use Rattle.std.proofs.lemmas.List.{take_more}
use Rattle.std.proofs.lemmas.Grind.{flat_map-append}
use Rattle.pair_table.specs.declared.row.PairRow.{PairRow}
use Rattle.pair_table.specs.Rows.{is_row, row_spelling}
use Rattle.pair_table.proofs.Versions.{text_length}
use Rattle.state_set.specs.Slots.{rows_spelling}

-- one row more
pub spelled_more : (rows : List PairRow) (i : ℕ) (r : PairRow) → i < length rows → r ≡ get_or rows i r → rows_spelling 2 (take (i + 1) rows) ≡ rows_spelling 2 (take i rows) ++ row_spelling r
spelled_more rows i r lt is =
    ap (rows_spelling 2) (take_more rows i r lt) ∙ ap (λ (x : PairRow). rows_spelling 2 (take i rows ++ x ∷ [])) (sym is)
    ∙ flat_map-append row_spelling (take i rows) (r ∷ []) ∙ ap (λ (t : List ℕ). rows_spelling 2 (take i rows) ++ t) (append-nil (row_spelling r))

pub rows_length : (rows : List PairRow) → list_all is_row rows ≡ true → length (rows_spelling 2 rows) ≡ 38 * length rows
rows_length [] e = refl
rows_length (r ∷ rows) e =
    let parts = and_parts (is_row r) (list_all is_row rows) e in
    omega (arith, text_length 2 r parts.0, rows_length rows parts.1, length-append (row_spelling r) (rows_spelling 2 rows))
