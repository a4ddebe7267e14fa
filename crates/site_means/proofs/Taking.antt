-- The items of a body taken one after another.
use Rattle.std.proofs.Common.{◌≡◌, ◌⊎◌, inl, inr, ℕ, ◌+◌, ◌-◌, ◌^◌, ◌≤◌, ◌<◌, Bool, true, false, cond, List, [], ◌∷◌, ◌++◌, length, take, drop, Option, Some, None, refl, sym, ap, subst, ◌∙◌, arith, length-append, length-drop}
use Rattle.std.proofs.lemmas.Bool.{and_parts}
use Rattle.std.proofs.lemmas.Option.{same_Some}
use Rattle.std.proofs.lemmas.List.{take_all, drop_at, drop-drop}
use Rattle.crash_plant.specs.declared.spot.Spot.{Spot}
use Rattle.pair_table.specs.declared.row.PairRow.{PairRow}
use Rattle.pair_table.specs.Tables.{Table, with_row, with_rows, are_below}
use Rattle.state_set.proofs.After.{rows_parts}
use Rattle.xrc_journal.specs.declared.reading.BodyItem.{BodyItem}
use Rattle.xrc_journal.specs.Items.{Item, Earlier, none_earlier, anywhere, earlier_after, is_item, are_items_after, item_spelling, body_spelling}
use Rattle.xrc_journal.specs.Items.Item.{Image, Delta, Pair, Gone}
use Rattle.xrc_journal.specs.Views.{AreItemBytes, told, first_told}
use Rattle.xrc_journal.proofs.ItemsAgain.{some_bytes}
use Rattle.site_means.specs.Walk.{fits_rows, first_unfit, rows_by, rows_through}
use Rattle.site_means.specs.Steps.{TakesRows}
use Rattle.site_means.proofs.RowRules.{below_without}

-- ---- one item

-- rows that an item fits stay below
pub below_by : (volumes : ℕ) (rows : List PairRow) (i : Item) → are_below volumes rows ≡ true → fits_rows volumes rows i ≡ true → are_below volumes (rows_by i rows) ≡ true
below_by volumes rows (Image device track recs) below fits = below
below_by volumes rows (Delta device track kind) below fits = below
below_by volumes rows (Pair version row) below fits = (rows_parts volumes (with_row row rows) fits).below
below_by volumes rows (Gone device) below fits = below_without volumes device rows below

-- ---- how far the items were taken

-- the rows so far, and what is left to take
pub record Fitting (volumes : ℕ) (items : List Item) (first : Table) (at : ℕ) (todo : List Item) (table : Table) : Type 0 where
  pub below : are_below volumes table.rows ≡ true
  pub unfit : first_unfit volumes 0 first.rows items ≡ first_unfit volumes at table.rows todo
  pub rows : rows_through items first.rows ≡ rows_through todo table.rows
  pub table_is : table ≡ with_rows first table.rows

pub record Taking (volumes : ℕ) (items : List Item) (first : Table) (bytes : List ℕ) (at : ℕ) (table : Table) : Type 0 where
  pub earlier : Earlier
  pub todo : List Item
  pub within : at ≤ length bytes
  pub rest : drop at bytes ≡ body_spelling todo
  pub keep : are_items_after anywhere earlier todo ≡ true
  pub fits : are_below volumes first.rows ≡ true → Fitting volumes items first at todo table

pub at_first : (volumes : ℕ) (items : List Item) (first : Table) (bytes : List ℕ) → are_items_after anywhere none_earlier items ≡ true → bytes ≡ body_spelling items → Taking volumes items first bytes 0 first
at_first volumes items first bytes keep spelled = record {
  earlier = none_earlier;
  todo = items;
  within = omega arith;
  rest = spelled;
  keep = keep;
  fits = λ below. record { below = below; unfit = refl; rows = refl; table_is = refl };
}

module _ (volumes : ℕ) (items : List Item) (first : Table) (bytes : List ℕ) (at : ℕ) (table : Table) (t : Taking volumes items first bytes at table) where
  pub rest_are : take (length bytes - at) (drop at bytes) ≡ body_spelling t.todo
  rest_are = take_all (length bytes - at) (drop at bytes) (omega (arith, length-drop at bytes)) ∙ t.rest

  pub rest_items : AreItemBytes (take (length bytes - at) (drop at bytes))
  rest_items = record { earlier = t.earlier; items = t.todo; keep = t.keep; spelled = rest_are }

  -- the item that is taken next
  pub record Next (item : BodyItem) (size : ℕ) : Type 0 where
    pub i : Item
    pub more : List Item
    pub todo_is : t.todo ≡ i ∷ more
    pub is : is_item anywhere t.earlier i ≡ true
    pub others : are_items_after anywhere (earlier_after i t.earlier) more ≡ true
    pub told_is : item ≡ told i
    pub size_is : size ≡ length (item_spelling i)
    pub some : 1 ≤ size
    pub long : at + size ≤ length bytes
    pub rest_is : drop (at + size) bytes ≡ body_spelling more

  next_by : (todo : List Item) (item : BodyItem) (size : ℕ) → t.todo ≡ todo → (let a : Option (BodyItem × ℕ) = Some (item, size) in a ≡ first_told todo) → Next item size
  next_by [] item size is e = absurd cc
  next_by (i ∷ more) item size is e =
      let parts = and_parts (is_item anywhere t.earlier i) (are_items_after anywhere (earlier_after i t.earlier) more) (subst (λ (l : List Item). are_items_after anywhere t.earlier l ≡ true) is t.keep) in
      let pair = same_Some (item, size) (told i, length (item_spelling i)) e in
      let same : (item ≡ told i) × (size ≡ length (item_spelling i)) = (ap (λ (p : BodyItem × ℕ). p.0) pair, ap (λ (p : BodyItem × ℕ). p.1) pair) in
      let spelled : drop at bytes ≡ item_spelling i ++ body_spelling more = t.rest ∙ ap (λ (l : List Item). body_spelling l) is in
      record {
        i = i;
        more = more;
        todo_is = is;
        is = parts.0;
        others = parts.1;
        told_is = same.0;
        size_is = same.1;
        some = omega (arith, same.1, some_bytes i);
        long = omega (arith, same.1, ap length spelled, length-append (item_spelling i) (body_spelling more), length-drop at bytes, t.within);
        rest_is = sym (drop-drop size at bytes) ∙ ap (λ (l : List ℕ). drop size l) spelled ∙ drop_at (item_spelling i) (body_spelling more) size (sym same.1);
      }

  pub next_of : (item : BodyItem) (size : ℕ) → (let a : Option (BodyItem × ℕ) = Some (item, size) in a ≡ first_told t.todo) → Next item size
  next_of item size e = next_by t.todo item size refl e

  module _ (item : BodyItem) (size : ℕ) (n : Next item size) where
    unfit_is : (b : Bool) → fits_rows volumes table.rows n.i ≡ b → first_unfit volumes at table.rows t.todo ≡ cond b (first_unfit volumes (at + size) (rows_by n.i table.rows) n.more) (Some at)
    unfit_is b is = ap (λ (l : List Item). first_unfit volumes at table.rows l) n.todo_is
        ∙ (λ i. cond (is i) (first_unfit volumes (at + sym n.size_is i) (rows_by n.i table.rows) n.more) (Some at))

    -- it was taken
    pub taken_next : (new : Table) (fit : Bool) → fit ≡ true → (are_below volumes table.rows ≡ true → fit ≡ fits_rows volumes table.rows n.i) → new ≡ with_rows table (rows_by n.i table.rows) → Taking volumes items first bytes (at + size) new
    taken_next new fit does_fit test is = record {
      earlier = earlier_after n.i t.earlier;
      todo = n.more;
      within = n.long;
      rest = n.rest_is;
      keep = n.others;
      fits = λ below.
          let f = t.fits below in
          let fit_is : fits_rows volumes table.rows n.i ≡ true = sym (test f.below) ∙ does_fit in
          let rows_are : new.rows ≡ rows_by n.i table.rows = ap (λ (k : Table). k.rows) is in
          record {
            below = ap (λ (l : List PairRow). are_below volumes l) rows_are ∙ below_by volumes table.rows n.i f.below fit_is;
            unfit = f.unfit ∙ unfit_is true fit_is ∙ ap (λ (l : List PairRow). first_unfit volumes (at + size) l n.more) (sym rows_are);
            rows = f.rows ∙ ap (λ (l : List Item). rows_through l table.rows) n.todo_is ∙ ap (λ (l : List PairRow). rows_through n.more l) (sym rows_are);
            table_is = is ∙ ap (λ (k : Table). with_rows k (rows_by n.i table.rows)) f.table_is ∙ ap (λ (l : List PairRow). with_rows first l) (sym rows_are);
          };
    }

-- ---- places

-- a place further on
abbrev pub shifted : ℕ → Option ℕ → Option ℕ
shifted by None = None
shifted by (Some place) = Some (by + place)

pub unfit_shifted : (volumes by at : ℕ) (rows : List PairRow) (items : List Item) → first_unfit volumes (by + at) rows items ≡ shifted by (first_unfit volumes at rows items)
unfit_shifted volumes by at rows [] = refl
unfit_shifted volumes by at rows (i ∷ items) = by_fit (fits_rows volumes rows i) (ap (λ (n : ℕ). first_unfit volumes n (rows_by i rows) items) (omega arith) ∙ unfit_shifted volumes by (at + length (item_spelling i)) (rows_by i rows) items)
  where
    by_fit : (fit : Bool) → first_unfit volumes (by + at + length (item_spelling i)) (rows_by i rows) items ≡ shifted by (first_unfit volumes (at + length (item_spelling i)) (rows_by i rows) items)
        → cond fit (first_unfit volumes (by + at + length (item_spelling i)) (rows_by i rows) items) (Some (by + at)) ≡ shifted by (cond fit (first_unfit volumes (at + length (item_spelling i)) (rows_by i rows) items) (Some at))
    by_fit true more = more
    by_fit false more = refl

pub unfit_within : (volumes at place : ℕ) (rows : List PairRow) (items : List Item) → first_unfit volumes at rows items ≡ Some place → place ≤ at + length (body_spelling items)
unfit_within volumes at place rows [] e = absurd cc
unfit_within volumes at place rows (i ∷ items) e = by_fit (fits_rows volumes rows i) e (λ more. omega (arith, unfit_within volumes (at + length (item_spelling i)) place (rows_by i rows) items more, length-append (item_spelling i) (body_spelling items)))
  where
    some_is : (a b : ℕ) → (let x : Option ℕ = Some a in let y : Option ℕ = Some b in x ≡ y) → a ≡ b
    some_is a b e = cc

    by_fit : (fit : Bool) → cond fit (first_unfit volumes (at + length (item_spelling i)) (rows_by i rows) items) (Some at) ≡ Some place
        → (first_unfit volumes (at + length (item_spelling i)) (rows_by i rows) items ≡ Some place → place ≤ at + length (body_spelling (i ∷ items))) → place ≤ at + length (body_spelling (i ∷ items))
    by_fit true e more = more e
    by_fit false e more = omega (arith, some_is at place e)

-- ---- taken from another place on

module _ (volumes at : ℕ) (items : List Item) (old new : Table) where
  same_place : shifted at (first_unfit volumes 0 old.rows items) ≡ first_unfit volumes at old.rows items
  same_place = let here : at + 0 ≡ at = omega arith in sym (unfit_shifted volumes at 0 old.rows items) ∙ ap (λ (n : ℕ). first_unfit volumes n old.rows items) here

  pub takes_none : TakesRows volumes 0 items None old new → TakesRows volumes at items None old new
  takes_none t = (ap (shifted at) t.0 ∙ same_place, t.1)

  pub takes_some : (offset place : ℕ) → place ≡ at + offset → TakesRows volumes 0 items (Some offset) old new → TakesRows volumes at items (Some place) old new
  takes_some offset place is t = (ap (λ (n : ℕ). Some n) is ∙ ap (shifted at) t.0 ∙ same_place, λ none. absurd cc)

pub place_fits : (volumes offset : ℕ) (at : Spot) (items : List Item) (old new : Table) → TakesRows volumes 0 items (Some offset) old new → (items ≡ []) ⊎ (at.place + 22 + length (body_spelling items) < 2 ^ 64) → at.place + 22 + offset < 2 ^ 64
place_fits volumes offset at items old new t (inl none) = absurd (clash (t.0 ∙ ap (λ (l : List Item). first_unfit volumes 0 old.rows l) none))
  where
    clash : (let a : Option ℕ = Some offset in a ≡ None) → ⊥
    clash e = cc
place_fits volumes offset at items old new t (inr fits) = omega (arith, fits, unfit_within volumes 0 offset old.rows items (sym t.0))
