-- Items of rows over rows that differ in states alone.
use Rattle.std.proofs.Common.{◌≡◌, ◌⊎◌, inl, ℕ, suc, ◌+◌, ◌==◌, Bool, true, false, cond, not, nat_le, nat_lt, ◌&&◌, ◌||◌, List, [], ◌∷◌, length, map, Some, refl, sym, ap, subst, ◌∙◌}
use Rattle.std.specs.List.{list_any}
use Rattle.pair_table.specs.declared.row.PairState.TheVariants.{Pending}
use Rattle.pair_table.specs.declared.row.PairRow.{PairRow}
use Rattle.pair_table.specs.Tables.{are_below, clashes, in_state, is_of, most_rows, none_clash, with_row, without_row}
use Rattle.record_rows.specs.Hits.{is_hit_now}
use Rattle.state_set.specs.Slots.{are_rows}
use Rattle.site_means.specs.Walk.{first_unfit, fits_rows, rows_by, rows_through}
use Rattle.xrc_journal.specs.Items.{Item, item_spelling}
use Rattle.xrc_journal.specs.Items.Item.{Image, Delta, Pair, Gone}

-- ---- rows without their states

-- the row ns it would be added
abbrev pub bare : PairRow → PairRow
bare row = in_state Pending row

abbrev pub bare_rows : List PairRow → List PairRow
bare_rows rows = map bare rows

bare_clash : (r : PairRow) (rows : List PairRow) → list_any (clashes (bare r)) (bare_rows rows) ≡ list_any (clashes r) rows
bare_clash r [] = refl
bare_clash r (s ∷ rows) = ap (λ (b : Bool). clashes r s || b) (bare_clash r rows)

bare_none : (rows : List PairRow) → none_clash (bare_rows rows) ≡ none_clash rows
bare_none [] = refl
bare_none (r ∷ rows) = λ i. not (bare_clash r rows i) && bare_none rows i

bare_below : (volumes : ℕ) (rows : List PairRow) → are_below volumes (bare_rows rows) ≡ are_below volumes rows
bare_below volumes [] = refl
bare_below volumes (r ∷ rows) = ap (λ (b : Bool). nat_lt r.device volumes && b) (bare_below volumes rows)

bare_length : (rows : List PairRow) → length (bare_rows rows) ≡ length rows
bare_length [] = refl
bare_length (r ∷ rows) = ap (λ (n : ℕ). suc n) (bare_length rows)

-- The rules over several rows don't depend on states.
bare_are : (volumes : ℕ) (rows : List PairRow) → are_rows volumes (bare_rows rows) ≡ are_rows volumes rows
bare_are volumes rows = λ i. nat_le (bare_length rows i) most_rows && bare_none rows i && bare_below volumes rows i

bare_has : (d : ℕ) (rows : List PairRow) → list_any (is_of d) (bare_rows rows) ≡ list_any (is_of d) rows
bare_has d [] = refl
bare_has d (r ∷ rows) = ap (λ (b : Bool). is_of d r || b) (bare_has d rows)

pub same_are : (volumes : ℕ) (ns bs : List PairRow) → bare_rows ns ≡ bare_rows bs → are_rows volumes ns ≡ are_rows volumes bs
same_are volumes ns bs same = sym (bare_are volumes ns) ∙ ap (λ (l : List PairRow). are_rows volumes l) same ∙ bare_are volumes bs

same_has : (d : ℕ) (ns bs : List PairRow) → bare_rows ns ≡ bare_rows bs → list_any (is_of d) ns ≡ list_any (is_of d) bs
same_has d ns bs same = sym (bare_has d ns) ∙ ap (λ (l : List PairRow). list_any (is_of d) l) same ∙ bare_has d bs

-- ---- rows that are near

-- A row is the other but for its state, and it is the other where the other isn't hit.
pub record IsNear (failed : List Bool) (a b : PairRow) : Type 0 where
  pub bare_is : bare a ≡ bare b
  pub same : (a ≡ b) ⊎ (is_hit_now failed b ≡ true)

abbrev pub AreNear : (failed : List Bool) → List PairRow → List PairRow → Type 0
AreNear failed [] [] = Unit {0}
AreNear failed [] (b ∷ bs) = ⊥
AreNear failed (a ∷ ns) [] = ⊥
AreNear failed (a ∷ ns) (b ∷ bs) = IsNear failed a b × AreNear failed ns bs

pub near_same : (failed : List Bool) (rows : List PairRow) → AreNear failed rows rows
near_same failed [] = tt
near_same failed (r ∷ rows) = (record { bare_is = refl; same = inl refl }, near_same failed rows)

module _ (failed : List Bool) where
  pub near_bare : (ns bs : List PairRow) → AreNear failed ns bs → bare_rows ns ≡ bare_rows bs
  near_bare [] [] near = refl
  near_bare [] (b ∷ bs) near = absurd near
  near_bare (a ∷ ns) [] near = absurd near
  near_bare (a ∷ ns) (b ∷ bs) near = λ i. near.0.bare_is i ∷ near_bare ns bs near.1 i

  near_device : (a b : PairRow) → IsNear failed a b → a.device ≡ b.device
  near_device a b near = ap (λ (r : PairRow). r.device) near.bare_is

  near_with : (row : PairRow) (ns bs : List PairRow) → AreNear failed ns bs → AreNear failed (with_row row ns) (with_row row bs)
  near_with row [] [] near = near_same failed (row ∷ [])
  near_with row [] (b ∷ bs) near = absurd near
  near_with row (a ∷ ns) [] near = absurd near
  near_with row (a ∷ ns) (b ∷ bs) near =
      subst (λ (x : Bool). AreNear failed (cond x (row ∷ ns) (a ∷ with_row row ns)) (with_row row (b ∷ bs))) (sym (ap (λ (d : ℕ). row.device == d) (near_device a b near.0))) (by_device (is_of row.device b) (near_with row ns bs near.1))
    where
      by_device : (here : Bool) → AreNear failed (with_row row ns) (with_row row bs) → AreNear failed (cond here (row ∷ ns) (a ∷ with_row row ns)) (cond here (row ∷ bs) (b ∷ with_row row bs))
      by_device true more = (record { bare_is = refl; same = inl refl }, near.1)
      by_device false more = (near.0, more)

  near_without : (d : ℕ) (ns bs : List PairRow) → AreNear failed ns bs → AreNear failed (without_row d ns) (without_row d bs)
  near_without d [] [] near = tt
  near_without d [] (b ∷ bs) near = absurd near
  near_without d (a ∷ ns) [] near = absurd near
  near_without d (a ∷ ns) (b ∷ bs) near =
      subst (λ (x : Bool). AreNear failed (cond (not x) (a ∷ without_row d ns) (without_row d ns)) (without_row d (b ∷ bs))) (sym (ap (λ (e : ℕ). d == e) (near_device a b near.0))) (by_device (is_of d b) (near_without d ns bs near.1))
    where
      by_device : (here : Bool) → AreNear failed (without_row d ns) (without_row d bs) → AreNear failed (cond (not here) (a ∷ without_row d ns) (without_row d ns)) (cond (not here) (b ∷ without_row d bs) (without_row d bs))
      by_device true more = more
      by_device false more = (near.0, more)

  near_by : (i : Item) (ns bs : List PairRow) → AreNear failed ns bs → AreNear failed (rows_by i ns) (rows_by i bs)
  near_by (Image d x recs) ns bs near = near
  near_by (Delta d x kind) ns bs near = near
  near_by (Pair version row) ns bs near = near_with row ns bs near
  near_by (Gone d) ns bs near = near_without d ns bs near

  near_fits : (volumes : ℕ) (i : Item) (ns bs : List PairRow) → AreNear failed ns bs → fits_rows volumes ns i ≡ fits_rows volumes bs i
  near_fits volumes (Image d x recs) ns bs near = refl
  near_fits volumes (Delta d x kind) ns bs near = refl
  near_fits volumes (Pair version row) ns bs near = same_are volumes (with_row row ns) (with_row row bs) (near_bare (with_row row ns) (with_row row bs) (near_with row ns bs near))
  near_fits volumes (Gone d) ns bs near = same_has d ns bs (near_bare ns bs near)

  -- Items leave near rows near, and fit both or neither.
  pub near_through : (items : List Item) (ns bs : List PairRow) → AreNear failed ns bs → AreNear failed (rows_through items ns) (rows_through items bs)
  near_through [] ns bs near = near
  near_through (i ∷ items) ns bs near = near_through items (rows_by i ns) (rows_by i bs) (near_by i ns bs near)

  pub near_unfit : (volumes place : ℕ) (items : List Item) (ns bs : List PairRow) → AreNear failed ns bs → first_unfit volumes place ns items ≡ first_unfit volumes place bs items
  near_unfit volumes place [] ns bs near = refl
  near_unfit volumes place (i ∷ items) ns bs near =
      λ k. cond (near_fits volumes i ns bs near k) (near_unfit volumes (place + length (item_spelling i)) items (rows_by i ns) (rows_by i bs) (near_by i ns bs near) k) (Some place)
