-- Items of rows put into a body, device by device.
use Rattle.std.proofs.Common.{◌≡◌, ℕ, ◌+◌, ◌*◌, ◌≤◌, ◌<◌, Bool, true, false, cond, List, [], ◌∷◌, ◌++◌, length, take, get_or, Some, sym, ap, ◌∙◌, arith, length-append, append-nil, IsTrue}
use Rattle.std.specs.List.{flat_map, list_all}
use Rattle.std.proofs.lemmas.Bool.{and_parts}
use Rattle.std.proofs.lemmas.List.{take_more, flat_map_more}
use Rattle.pair_table.specs.declared.row.PairRow.{PairRow}
use Rattle.pair_table.specs.Rows.{is_row}
use Rattle.pair_table.specs.Tables.{is_of, row_of}
use Rattle.pair_table.proofs.Versions.{text_length}
use Rattle.xrc_journal.specs.Bodies.{BodyState, with_item}
use Rattle.xrc_journal.specs.Items.{Item, body_spelling, item_spelling}
use Rattle.xrc_journal.specs.Items.Item.{Pair}
use Rattle.xrc_journal.proofs.Bodies.{body_push}

-- A row that is found is one.
pub found_is_row : (device : ℕ) (rows : List PairRow) (row : PairRow) → IsTrue (list_all is_row rows) → row_of device rows ≡ Some row → is_row row ≡ true
found_is_row device [] row are is = absurd (cc is)
found_is_row device (r ∷ rows) row are is =
    let parts = and_parts (is_row r) (list_all is_row rows) are in
    by_device (is_of device r) parts.0 (λ found. found_is_row device rows row parts.1 found) is
  where
    by_device : (here : Bool) → is_row r ≡ true → (row_of device rows ≡ Some row → is_row row ≡ true) → cond here (Some r) (row_of device rows) ≡ Some row → is_row row ≡ true
    by_device true first others is = let same : r ≡ row = cc is in ap is_row (sym same) ∙ first
    by_device false first others is = others is

pub pair_length : (row : PairRow) → is_row row ≡ true → length (item_spelling (Pair 2 row)) ≡ 39
pair_length row is = omega (arith, text_length 2 row is)

-- The items of the first so many devices stand after those that were there.
pub record Put (items : ℕ → List Item) (held now : BodyState) (devices : List ℕ) (i : ℕ) : Type 0 where
  pub items_are : now.items ≡ held.items ++ flat_map items (take i devices)
  pub room : now.room ≡ held.room
  pub long : length (body_spelling now.items) ≤ length (body_spelling held.items) + i * 39

module _ (items : ℕ → List Item) (held now : BodyState) (devices : List ℕ) (i d : ℕ) (within : i < length devices) (is : d ≡ get_or devices i 0) (put : Put items held now devices i) where
  more : held.items ++ flat_map items (take (i + 1) devices) ≡ now.items ++ items d
  more =
      ap (λ (l : List ℕ). held.items ++ flat_map items l) (take_more devices i 0 within) ∙ sym (flat_map_more items held.items (take i devices) (get_or devices i 0))
      ∙ ap (λ (n : ℕ). (held.items ++ flat_map items (take i devices)) ++ items n) (sym is) ∙ ap (λ (l : List Item). l ++ items d) (sym put.items_are)

  pub put_none : items d ≡ [] → Put items held now devices (i + 1)
  put_none none = record {
    items_are = sym (more ∙ ap (λ (l : List Item). now.items ++ l) none ∙ append-nil now.items);
    room = put.room;
    long = omega (arith, put.long);
  }

  pub put_one : (item : Item) (next : BodyState) → items d ≡ item ∷ [] → length (item_spelling item) ≤ 39 → next ≡ with_item item now → Put items held next devices (i + 1)
  put_one item next one short next_is = record {
    items_are = ap (λ (h : BodyState). h.items) next_is ∙ sym (more ∙ ap (λ (l : List Item). now.items ++ l) one);
    room = ap (λ (h : BodyState). h.room) next_is ∙ put.room;
    long = omega (arith, put.long, short, ap (λ (h : BodyState). length (body_spelling h.items)) next_is, ap length (body_push now.items item), length-append (body_spelling now.items) (item_spelling item));
  }
