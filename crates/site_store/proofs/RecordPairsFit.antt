-- Pairs of rows that change their states fit the rows.
use Rattle.std.proofs.Common.{eq-eqb, eqb-true, suc, ◌≡◌, ℕ, ◌+◌, Bool, true, false, cond, not, nat_le, nat_lt, ◌&&◌, ◌||◌, List, [], ◌∷◌, ◌++◌, length, map, Option, Some, None, refl, sym, ap, ◌∙◌, arith}
use Rattle.std.specs.List.{list_any, list_all}
use Rattle.std.proofs.lemmas.Bool.{and_from, and_parts, le-leb}
use Rattle.std.proofs.lemmas.Option.{same_Some}
use Rattle.crash_plant.specs.Moments.{PlantState}
use Rattle.pair_table.specs.declared.row.PairState.{PairState}
use Rattle.pair_table.specs.declared.row.PairState.TheVariants.{Pending}
use Rattle.pair_table.specs.declared.row.PairRow.{PairRow}
use Rattle.pair_table.specs.Tables.{AreRowsSound, clashes, in_state, is_of, none_clash, row_of, with_row, are_below, most_rows}
use Rattle.pair_table.proofs.TableLaws.{first_apart}
use Rattle.record_rows.specs.ChangedRows.{rows_in_states}
use Rattle.record_rows.specs.GroupRows.{row_in}
use Rattle.state_set.specs.Slots.{are_rows}
use Rattle.xrc_journal.specs.Items.{Item, item_spelling}
use Rattle.xrc_journal.specs.Items.Item.{Image, Delta, Pair, Gone}
use Rattle.site_means.specs.Walk.{first_unfit, rows_through}
use Rattle.image_former.specs.Forms.{is_image}
use Rattle.site_store.specs.Hits.{NextStates, pair_in, pairs_with_next}
use Rattle.site_store.specs.Standing.{row_has_volume}
use Rattle.site_store.proofs.Below.{below_volumes}

-- ---- rows without their states

-- the row as it would be added
abbrev pub bare : PairRow → PairRow
bare row = in_state Pending row

abbrev pub bare_rows : List PairRow → List PairRow
bare_rows rows = map bare rows

bare_clash : (r : PairRow) (rows : List PairRow) → list_any (clashes (bare r)) (bare_rows rows) ≡ list_any (clashes r) rows
bare_clash r [] = refl
bare_clash r (s ∷ rows) = ap (λ (b : Bool). clashes r s || b) (bare_clash r rows)

bare_none : (rows : List PairRow) → none_clash (bare_rows rows) ≡ none_clash rows
bare_none [] = refl
bare_none (r ∷ rows) = λ i. not (bare_clash r rows i) && bare_none rows i

bare_below : (volumes : ℕ) (rows : List PairRow) → are_below volumes (bare_rows rows) ≡ are_below volumes rows
bare_below volumes [] = refl
bare_below volumes (r ∷ rows) = ap (λ (b : Bool). nat_lt r.device volumes && b) (bare_below volumes rows)

bare_length : (rows : List PairRow) → length (bare_rows rows) ≡ length rows
bare_length [] = refl
bare_length (r ∷ rows) = ap (λ (n : ℕ). suc n) (bare_length rows)

-- The rules over several rows don't depend on states.
pub bare_are : (volumes : ℕ) (rows : List PairRow) → are_rows volumes (bare_rows rows) ≡ are_rows volumes rows
bare_are volumes rows = λ i. nat_le (bare_length rows i) most_rows && bare_none rows i && bare_below volumes rows i

-- the row is its device's, but for the state
abbrev pub IsAmongBare : List PairRow → PairRow → Type 0
IsAmongBare rows row = row_of row.device (bare_rows rows) ≡ Some (bare row)

-- A row in the place of its own keeps the others.
pub bare_with : (row : PairRow) (rows : List PairRow) → IsAmongBare rows row → bare_rows (with_row row rows) ≡ bare_rows rows
bare_with row [] among = absurd cc
bare_with row (r ∷ rows) among = by_device (is_of row.device r) among (bare_with row rows)
  where
    by_device : (here : Bool) → cond here (Some (bare r)) (row_of row.device (bare_rows rows)) ≡ Some (bare row) → (IsAmongBare rows row → bare_rows (with_row row rows) ≡ bare_rows rows) → bare_rows (cond here (row ∷ rows) (r ∷ with_row row rows)) ≡ bare_rows (r ∷ rows)
    by_device true is more = ap (λ (s : PairRow). s ∷ bare_rows rows) (sym (same_Some (bare r) (bare row) is))
    by_device false is more = ap (λ (l : List PairRow). bare r ∷ l) (more is)

-- ---- pairs of rows that stand among some rows

abbrev pub ArePairsAmong : List PairRow → List Item → Type 0
ArePairsAmong rows [] = Unit {0}
ArePairsAmong rows (Image d x recs ∷ items) = ⊥
ArePairsAmong rows (Delta d x kind ∷ items) = ⊥
ArePairsAmong rows (Pair version row ∷ items) = IsAmongBare rows row × ArePairsAmong rows items
ArePairsAmong rows (Gone d ∷ items) = ⊥

pub pairs_fit : (volumes place : ℕ) (first rows : List PairRow) (items : List Item) → are_rows volumes first ≡ true → ArePairsAmong first items → bare_rows rows ≡ bare_rows first → first_unfit volumes place rows items ≡ None
pairs_fit volumes place first rows [] are among same = refl
pairs_fit volumes place first rows (Image d x recs ∷ items) are among same = absurd among
pairs_fit volumes place first rows (Delta d x kind ∷ items) are among same = absurd among
pairs_fit volumes place first rows (Gone d ∷ items) are among same = absurd among
pairs_fit volumes place first rows (Pair version row ∷ items) are among same =
    let still : bare_rows (with_row row rows) ≡ bare_rows first = bare_with row rows (ap (λ (l : List PairRow). row_of row.device l) same ∙ among.0) ∙ same in
    let fits : are_rows volumes (with_row row rows) ≡ true = sym (bare_are volumes (with_row row rows)) ∙ ap (λ (l : List PairRow). are_rows volumes l) still ∙ bare_are volumes first ∙ are in
    (λ i. cond (fits i) (first_unfit volumes (place + length (item_spelling (Pair version row))) (with_row row rows) items) (Some place))
    ∙ pairs_fit volumes (place + length (item_spelling (Pair version row))) first (with_row row rows) items are among.1 still

-- A device with a row is the device of one.
row_then_any : (device : ℕ) (rows : List PairRow) (row : PairRow) → row_of device (bare_rows rows) ≡ Some row → list_any (is_of device) rows ≡ true
row_then_any device [] row is = absurd cc
row_then_any device (r ∷ rows) row is = by_first (is_of device r) (row_then_any device rows row) is
  where
    by_first : (b : Bool) → (row_of device (bare_rows rows) ≡ Some row → list_any (is_of device) rows ≡ true) → cond b (Some (bare r)) (row_of device (bare_rows rows)) ≡ Some row → (b || list_any (is_of device) rows) ≡ true
    by_first true more e = refl
    by_first false more e = more e

-- after a row of another device they are pairs still
more_among : (r : PairRow) (rows : List PairRow) (items : List Item) → ArePairsAmong rows items → list_any (is_of r.device) rows ≡ false → ArePairsAmong (r ∷ rows) items
more_among r rows [] among apart = tt
more_among r rows (Image d x recs ∷ items) among apart = among
more_among r rows (Delta d x kind ∷ items) among apart = among
more_among r rows (Gone d ∷ items) among apart = among
more_among r rows (Pair version row ∷ items) among apart = (one (is_of row.device r) refl, more_among r rows items among.1 apart)
  where
    one : (b : Bool) → is_of row.device r ≡ b → IsAmongBare (r ∷ rows) row
    one false differ = (λ i. cond (differ i) (Some (bare r)) (row_of row.device (bare_rows rows))) ∙ among.0
    one true same =
        let is : row.device ≡ r.device = eqb-true row.device r.device same in
        let there : list_any (is_of r.device) rows ≡ true = ap (λ (d : ℕ). list_any (is_of d) rows) (sym is) ∙ row_then_any row.device rows (bare row) among.0 in
        absurd (cc (there, apart))

-- ---- the pairs of rows that change

pub pairs_among : (next : NextStates) (rows : List PairRow) → none_clash rows ≡ true → ArePairsAmong rows (pairs_with_next next rows)
pairs_among next [] apart = tt
pairs_among next (r ∷ rows) apart =
    let first = first_apart r rows apart in
    by_state (next r) (more_among r rows (pairs_with_next next rows) (pairs_among next rows first.others) first.devices)
  where
    by_state : (state : Option PairState) → ArePairsAmong (r ∷ rows) (pairs_with_next next rows) → ArePairsAmong (r ∷ rows) (pair_in r state ++ pairs_with_next next rows)
    by_state None more = more
    by_state (Some state) more = ((λ i. cond (eq-eqb r.device r.device refl i) (Some (bare r)) (row_of r.device (bare_rows rows))), more)

-- They fit the rows.
pub next_pairs_fit : (next : NextStates) (volumes place : ℕ) (rows : List PairRow) → are_rows volumes rows ≡ true → none_clash rows ≡ true → first_unfit volumes place rows (pairs_with_next next rows) ≡ None
next_pairs_fit next volumes place rows keep apart = pairs_fit volumes place rows rows (pairs_with_next next rows) keep (pairs_among next rows apart) refl

-- The rows of a table are rows of the plant.
pub table_rows : (plant : PlantState) (rows : List PairRow) → AreRowsSound rows → list_all (row_has_volume plant) rows ≡ true → are_rows plant.volumes rows ≡ true
table_rows plant rows keeps have =
    and_from (nat_le (length rows) most_rows && none_clash rows) (are_below plant.volumes rows) (and_from (nat_le (length rows) most_rows) (none_clash rows) (le-leb (length rows) most_rows keeps.few) keeps.apart) (below_volumes plant plant.volumes rows (omega arith) have)

-- ---- images before them

-- Images change no row.
pub image_rows : (images : List Item) (items : List Item) (rows : List PairRow) → list_all is_image images ≡ true → rows_through (images ++ items) rows ≡ rows_through items rows
image_rows [] items rows are = refl
image_rows (Image d x recs ∷ images) items rows are = image_rows images items rows are
image_rows (Delta d x kind ∷ images) items rows are = absurd cc
image_rows (Pair version row ∷ images) items rows are = absurd cc
image_rows (Gone d ∷ images) items rows are = absurd cc

image_fit : (volumes place : ℕ) (images items : List Item) (rows : List PairRow) → list_all is_image images ≡ true → ((p : ℕ) → first_unfit volumes p rows items ≡ None) → first_unfit volumes place rows (images ++ items) ≡ None
image_fit volumes place [] items rows are fit = fit place
image_fit volumes place (Image d x recs ∷ images) items rows are fit = image_fit volumes (place + length (item_spelling (Image d x recs))) images items rows are fit
image_fit volumes place (Delta d x kind ∷ images) items rows are fit = absurd cc
image_fit volumes place (Pair version row ∷ images) items rows are fit = absurd cc
image_fit volumes place (Gone d ∷ images) items rows are fit = absurd cc

-- After images the pairs fit still.
pub formed_fit : (next : NextStates) (plant : PlantState) (images : List Item) (rows : List PairRow) → list_all is_image images ≡ true → AreRowsSound rows → list_all (row_has_volume plant) rows ≡ true → first_unfit plant.volumes 0 rows (images ++ pairs_with_next next rows) ≡ None
formed_fit next plant images rows are keeps have = image_fit plant.volumes 0 images (pairs_with_next next rows) rows are (λ p. next_pairs_fit next plant.volumes p rows (table_rows plant rows keeps have) keeps.apart)

-- ---- the rows after them

-- A row in another state is on its volume still.
pub next_have_volumes : (next : NextStates) (plant : PlantState) (rows : List PairRow) → list_all (row_has_volume plant) rows ≡ true → list_all (row_has_volume plant) (rows_in_states next rows) ≡ true
next_have_volumes next plant [] have = refl
next_have_volumes next plant (r ∷ rows) have =
    let parts = and_parts (row_has_volume plant r) (list_all (row_has_volume plant) rows) have in
    and_from (row_has_volume plant (row_in r (next r))) (list_all (row_has_volume plant) (rows_in_states next rows)) (by_state (next r) ∙ parts.0) (next_have_volumes next plant rows parts.1)
  where
    by_state : (state : Option PairState) → row_has_volume plant (row_in r state) ≡ row_has_volume plant r
    by_state (Some state) = refl
    by_state None = refl
