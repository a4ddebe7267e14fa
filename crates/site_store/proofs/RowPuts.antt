-- The rows that change, put into a body and taken into a table, row by row.
use Rattle.std.proofs.Common.{◌≡◌, ℕ, zero, suc, eq-eqb, ◌==◌, ◌+◌, ◌*◌, ◌≤◌, ◌||◌, Bool, true, false, cond, List, [], ◌∷◌, ◌++◌, length, take, drop, get_or, Option, Some, None, refl, sym, ap, ◌∙◌, arith, length-append, append-nil}
use Rattle.std.specs.Prelude.{slice_get}
use Rattle.std.specs.List.{list_any, list_all}
use Rattle.std.proofs.lemmas.Bool.{and_from, and_parts}
use Rattle.std.proofs.lemmas.List.{take_all, take_more, flat_map_more}
use Rattle.std.proofs.lemmas.List.Folds.{list_all_more}
use Rattle.std.proofs.lemmas.Option.{slice_get_within, get_or_from_slice_get}
use Rattle.pair_table.specs.declared.row.PairState.{PairState}
use Rattle.pair_table.specs.declared.row.PairRow.{PairRow}
use Rattle.pair_table.specs.Rows.{is_row, is_state}
use Rattle.pair_table.specs.Tables.{in_state, is_of, none_clash, with_state}
use Rattle.pair_table.proofs.RowRules.{is_row_by, row_keeps, row_rules}
use Rattle.pair_table.proofs.TableLaws.{either_false, first_apart, with_state-absent}
use Rattle.pair_table.proofs.Versions.{text_length}
use Rattle.xrc_journal.specs.Bodies.{BodyState, with_item}
use Rattle.xrc_journal.specs.Items.{Item, body_spelling, item_spelling}
use Rattle.xrc_journal.specs.Items.Item.{Pair}
use Rattle.xrc_journal.proofs.Bodies.{body_push}
use Rattle.record_rows.specs.ChangedRows.{rows_in_states}
use Rattle.record_rows.specs.GroupRows.{row_in}
use Rattle.site_store.proofs.Breaks.{eqb_sym_false}
use Rattle.site_store.specs.Hits.{NextStates, is_row_in, pair_in, pair_with_next, pairs_with_next, stays_row}

-- A row in another state is one.
pub changed_is_row : (state : PairState) (row : PairRow) → is_state state ≡ true → is_row row ≡ true → is_row (in_state state row) ≡ true
changed_is_row state row ok is =
    let rules = row_rules row is in
    is_row_by (in_state state row) rules.primary rules.secondary (row_keeps row is) rules.device_lt ok rules.group

pub changed_length : (state : PairState) (row : PairRow) → is_state state ≡ true → is_row row ≡ true → length (item_spelling (Pair 2 (in_state state row))) ≡ 39
changed_length state row ok is = omega (arith, text_length 2 (in_state state row) (changed_is_row state row ok is))

-- a row of a table
pub row_at_is : (rows : List PairRow) (i : ℕ) (row : PairRow) → list_all is_row rows ≡ true → slice_get rows i ≡ Some row → is_row row ≡ true
row_at_is [] i row all is = absurd cc
row_at_is (r ∷ rows) zero row all is = let same : r ≡ row = cc is in ap is_row (sym same) ∙ (and_parts (is_row r) (list_all is_row rows) all).0
row_at_is (r ∷ rows) (suc i) row all is = row_at_is rows i row (and_parts (is_row r) (list_all is_row rows) all).1 is

-- ---- a body

-- The pairs of the first so many rows stand after the items that were there.
pub record Puts (next : NextStates) (held now : BodyState) (rows : List PairRow) (i : ℕ) : Type 0 where
  pub items_are : now.items ≡ held.items ++ pairs_with_next next (take i rows)
  pub room : now.room ≡ held.room
  pub long : length (body_spelling now.items) ≤ length (body_spelling held.items) + i * 39
  pub are_rows : list_all (stays_row next) (take i rows) ≡ true

module _ (next : NextStates) (held now : BodyState) (rows : List PairRow) (i : ℕ) (row : PairRow) (is : slice_get rows i ≡ Some row) (puts : Puts next held now rows i) where
  more : held.items ++ pairs_with_next next (take (i + 1) rows) ≡ now.items ++ pair_with_next next row
  more =
      let lt = slice_get_within rows i row is in
      ap (λ (l : List PairRow). held.items ++ pairs_with_next next l) (take_more rows i row lt)
      ∙ sym (flat_map_more (pair_with_next next) held.items (take i rows) (get_or rows i row))
      ∙ ap (λ (r : PairRow). (held.items ++ pairs_with_next next (take i rows)) ++ pair_with_next next r) (get_or_from_slice_get rows i row row is)
      ∙ ap (λ (l : List Item). l ++ pair_with_next next row) (sym puts.items_are)

  rows_more : stays_row next row ≡ true → list_all (stays_row next) (take (i + 1) rows) ≡ true
  rows_more here =
      list_all_more (stays_row next) rows i row (slice_get_within rows i row is)
      ∙ and_from (list_all (stays_row next) (take i rows)) (stays_row next (get_or rows i row)) puts.are_rows (ap (stays_row next) (get_or_from_slice_get rows i row row is) ∙ here)

  pub puts_none : next row ≡ None → Puts next held now rows (i + 1)
  puts_none none = record {
    items_are = sym (more ∙ ap (λ (l : List Item). now.items ++ l) (ap (pair_in row) none) ∙ append-nil now.items);
    room = puts.room;
    long = omega (arith, puts.long);
    are_rows = rows_more (ap (is_row_in row) none);
  }

  pub puts_one : (state : PairState) (after : BodyState) → next row ≡ Some state → is_row (in_state state row) ≡ true → after ≡ with_item (Pair 2 (in_state state row)) now → Puts next held after rows (i + 1)
  puts_one state after some is_one after_is = record {
    items_are = ap (λ (h : BodyState). h.items) after_is ∙ sym (more ∙ ap (λ (l : List Item). now.items ++ l) (ap (pair_in row) some));
    room = ap (λ (h : BodyState). h.room) after_is ∙ puts.room;
    long = omega (arith, puts.long, text_length 2 (in_state state row) is_one, ap (λ (h : BodyState). length (body_spelling h.items)) after_is, ap length (body_push now.items (Pair 2 (in_state state row))), length-append (body_spelling now.items) (item_spelling (Pair 2 (in_state state row))));
    are_rows = rows_more (ap (is_row_in row) some ∙ is_one);
  }

-- Those that change are rows still.
pub puts_kept : (next : NextStates) (held now : BodyState) (rows : List PairRow) (i : ℕ) → length rows ≤ i → Puts next held now rows i → list_all (stays_row next) rows ≡ true
puts_kept next held now rows i past puts = ap (list_all (stays_row next)) (sym (take_all i rows past)) ∙ puts.are_rows

-- ---- a table

-- the rows of which the first so many were taken
abbrev pub taken : NextStates → List PairRow → (i : ℕ) → List PairRow
taken next rows i = rows_in_states next (take i rows) ++ drop i rows

-- What stands at the next place is as it was.
pub taken_at : (next : NextStates) (rows : List PairRow) (i : ℕ) → slice_get (taken next rows i) i ≡ slice_get rows i
taken_at next [] zero = refl
taken_at next [] (suc i) = refl
taken_at next (r ∷ rows) zero = refl
taken_at next (r ∷ rows) (suc i) = taken_at next rows i

pub taken_long : (next : NextStates) (rows : List PairRow) (i : ℕ) → length (taken next rows i) ≡ length rows
taken_long next [] zero = refl
taken_long next [] (suc i) = refl
taken_long next (r ∷ rows) zero = refl
taken_long next (r ∷ rows) (suc i) = ap suc (taken_long next rows i)

pub taken_has : (next : NextStates) (rows : List PairRow) (i : ℕ) (row : PairRow) → slice_get rows i ≡ Some row → list_any (is_of row.device) (taken next rows i) ≡ true
taken_has next [] i row is = absurd cc
taken_has next (r ∷ rows) zero row is =
    let same : r ≡ row = cc is in
    (λ j. eq-eqb row.device r.device (ap (λ (s : PairRow). s.device) (sym same)) j || list_any (is_of row.device) rows)
taken_has next (r ∷ rows) (suc i) row is = after (is_of row.device (row_in r (next r))) (taken_has next rows i row is)
  where
    after : (b : Bool) → list_any (is_of row.device) (taken next rows i) ≡ true → (b || list_any (is_of row.device) (taken next rows i)) ≡ true
    after true has = refl
    after false has = has

none_at : (test : PairRow → Bool) (rows : List PairRow) (i : ℕ) (row : PairRow) → list_any test rows ≡ false → slice_get rows i ≡ Some row → test row ≡ false
none_at test [] i row none is = absurd cc
none_at test (r ∷ rows) zero row none is = let same : r ≡ row = cc is in ap test (sym same) ∙ (either_false (test r) (list_any test rows) none).0
none_at test (r ∷ rows) (suc i) row none is = none_at test rows i row (either_false (test r) (list_any test rows) none).1 is

one_on : (i : ℕ) → suc (i + 1) ≡ suc i + 1
one_on i = omega arith

-- A row stays on its device.
pub device_still : (next : NextStates) (row : PairRow) → (row_in row (next row)).device ≡ row.device
device_still next row = by_state (next row)
  where
    by_state : (state : Option PairState) → (row_in row state).device ≡ row.device
    by_state (Some state) = refl
    by_state None = refl

-- A row that doesn't change is taken as it is.
pub taken_none : (next : NextStates) (rows : List PairRow) (i : ℕ) (row : PairRow) → slice_get rows i ≡ Some row → next row ≡ None → taken next rows i ≡ taken next rows (i + 1)
taken_none next [] i row is none = absurd cc
taken_none next (r ∷ rows) zero row is none =
    let same : r ≡ row = cc is in
    ap (λ (s : PairRow). s ∷ rows) (sym (ap (row_in r) (ap next same ∙ none)))
taken_none next (r ∷ rows) (suc i) row is none = ap (λ (l : List PairRow). row_in r (next r) ∷ l) (taken_none next rows i row is none) ∙ ap (λ (n : ℕ). taken next (r ∷ rows) n) (one_on i)

-- One that changes is taken by a change of its device's state.
pub taken_some : (next : NextStates) (rows : List PairRow) (i : ℕ) (row : PairRow) (state : PairState) → none_clash rows ≡ true → slice_get rows i ≡ Some row → next row ≡ Some state → with_state row.device state (taken next rows i) ≡ taken next rows (i + 1)
taken_some next [] i row state apart is some = absurd cc
taken_some next (r ∷ rows) zero row state apart is some =
    let same : r ≡ row = cc is in
    let first = first_apart r rows apart in
    let d : row.device ≡ r.device = ap (λ (s : PairRow). s.device) (sym same) in
    ap (λ (e : ℕ). with_state e state (r ∷ rows)) d
    ∙ ap (λ (b : Bool). cond b (in_state state r) r ∷ with_state r.device state rows) (eq-eqb r.device r.device refl)
    ∙ ap (λ (l : List PairRow). in_state state r ∷ l) (with_state-absent r.device state rows first.devices)
    ∙ ap (λ (s : PairRow). s ∷ rows) (sym (ap (row_in r) (ap next same ∙ some)))
taken_some next (r ∷ rows) (suc i) row state apart is some =
    let first = first_apart r rows apart in
    let differ : (row.device == r.device) ≡ false = eqb_sym_false r.device row.device (none_at (is_of r.device) rows i row first.devices is) in
    let other : (row.device == (row_in r (next r)).device) ≡ false = ap (λ (d : ℕ). row.device == d) (device_still next r) ∙ differ in
    ap (λ (b : Bool). cond b (in_state state (row_in r (next r))) (row_in r (next r)) ∷ with_state row.device state (taken next rows i)) other
    ∙ ap (λ (l : List PairRow). row_in r (next r) ∷ l) (taken_some next rows i row state first.others is some) ∙ ap (λ (n : ℕ). taken next (r ∷ rows) n) (one_on i)
