-- No two of the rows that images mean clash.
use Rattle.std.proofs.Common.{◌≡◌, ℕ, ◌+◌, ◌^◌, ◌<◌, Bool, true, false, cond, not, List, [], ◌∷◌, drop, length, slice_index, Option, Some, None, Ok, refl, sym, ap, subst, ◌∙◌}
use Rattle.std.specs.Prelude.{ok_or, slice_range}
use Rattle.std.specs.Int.{w16, from_be_bytes}
use Rattle.std.specs.List.{flat_map}
use Rattle.std.proofs.lemmas.Option.{same_Some}
use Rattle.tod_stamp.specs.Options.{◌>>=◌}
use Rattle.crash_plant.specs.declared.device.Device.TheVariants.{State}
use Rattle.crash_plant.specs.declared.spot.Spot.{Spot}
use Rattle.pair_table.specs.declared.row.PairRow.{PairRow}
use Rattle.pair_table.specs.Tables.{is_of, none_clash, with_row}
use Rattle.pair_table.proofs.TableLaws.{apart-filter}
use Rattle.state_set.specs.Slots.{Stored, are_rows, has_title, kept, level_of_number, rows_at, rows_in, slot_fields, state_at, state_of, state_slot_place}
use Rattle.state_set.proofs.After.{rows_parts}
use Rattle.state_set.proofs.RowsAt.{bind_some}
use Rattle.site_means.specs.declared.means.Means.{Means}
use Rattle.site_means.specs.Images.{Images, Shape}
use Rattle.site_means.specs.Laws.{FitRows}
use Rattle.site_means.specs.Meaning.{meaning_in}
use Rattle.site_means.specs.Meaning.Meaning.{Meant}
use Rattle.site_means.specs.Walk.{Walk, first_unfit, fits_rows, rows_by, rows_through}
use Rattle.site_means.proofs.Goes.{rows_append}
use Rattle.site_means.proofs.Reaching.{meant_by}
use Rattle.site_store.proofs.Walking.{walks_through}
use Rattle.xrc_journal.specs.Items.{Item, item_spelling}
use Rattle.xrc_journal.specs.Items.Item.{Image, Delta, Pair, Gone}
use Rattle.xrc_journal.specs.Walks.{Logged}

-- ---- the rows that a slot of the state holds

kept_apart : (volumes : ℕ) (o : Option (List PairRow)) (rows : List PairRow) → kept volumes o ≡ Some rows → none_clash rows ≡ true
kept_apart volumes None rows e = absurd cc
kept_apart volumes (Some found) rows e = by_rules (are_rows volumes found) refl e
  where
    by_rules : (b : Bool) → are_rows volumes found ≡ b → cond b (Some found) None ≡ Some rows → none_clash rows ≡ true
    by_rules true are e = subst (λ (l : List PairRow). none_clash l ≡ true) (same_Some found rows e) (rows_parts volumes found are).apart
    by_rules false are e = absurd cc

fields_apart : (version volumes : ℕ) (bytes : List ℕ) (s : Stored) → slot_fields version volumes bytes ≡ Some s → none_clash s.rows ≡ true
fields_apart version volumes bytes s e =
    let count = from_be_bytes w16 (slice_range bytes 13 15) in
    let one = bind_some (level_of_number version (slice_index bytes 12)) (λ level. rows_in version volumes count (drop 15 bytes) >>= (λ rows. Some (record { level = level; rows = rows }))) s e in
    let two = bind_some (rows_in version volumes count (drop 15 bytes)) (λ rows. Some (record { level = one.0; rows = rows })) s one.2 in
    subst (λ (x : Stored). none_clash x.rows ≡ true) (same_Some (record { level = one.0; rows = two.0 }) s two.2) (kept_apart volumes (rows_at version count (drop 15 bytes)) two.0 two.1)

held_apart : (volumes : ℕ) (session bytes : List ℕ) (s : Stored) → state_at volumes session bytes ≡ Some s → none_clash s.rows ≡ true
held_apart volumes session bytes s e = by_title (has_title 2 session bytes) (has_title 1 session bytes) e
  where
    by_title : (second first : Bool) → cond second (slot_fields 2 volumes bytes) (cond first (slot_fields 1 volumes bytes) None) ≡ Some s → none_clash s.rows ≡ true
    by_title true first e = fields_apart 2 volumes bytes s e
    by_title false true e = fields_apart 1 volumes bytes s e
    by_title false false e = absurd cc

stored_apart : (volumes : ℕ) (session : List ℕ) (slot : ℕ) (state : List ℕ) (s : Stored) → state_of volumes session slot state ≡ Ok s → none_clash s.rows ≡ true
stored_apart volumes session slot state s e = by_held (state_at volumes session (drop (state_slot_place slot) state)) refl e
  where
    by_held : (o : Option Stored) → state_at volumes session (drop (state_slot_place slot) state) ≡ o → ok_or o (state_slot_place slot) ≡ Ok s → none_clash s.rows ≡ true
    by_held (Some found) is e = let same : found ≡ s = cc e in held_apart volumes session (drop (state_slot_place slot) state) s (is ∙ ap (λ (x : Stored). let o : Option Stored = Some x in o) same)
    by_held None is e = absurd cc

-- ---- the rows after items that fit

by_item : (volumes : ℕ) (i : Item) (rows : List PairRow) → fits_rows volumes rows i ≡ true → none_clash rows ≡ true → none_clash (rows_by i rows) ≡ true
by_item volumes (Image d x recs) rows fits apart = apart
by_item volumes (Delta d x kind) rows fits apart = apart
by_item volumes (Pair version row) rows fits apart = (rows_parts volumes (with_row row rows) fits).apart
by_item volumes (Gone d) rows fits apart = apart-filter (λ r. not (is_of d r)) rows apart

by_items : (volumes place : ℕ) (items : List Item) (rows : List PairRow) → first_unfit volumes place rows items ≡ None → none_clash rows ≡ true → none_clash (rows_through items rows) ≡ true
by_items volumes place [] rows fit apart = apart
by_items volumes place (i ∷ items) rows fit apart = by_fit (fits_rows volumes rows i) refl fit (λ fits more. by_items volumes (place + length (item_spelling i)) items (rows_by i rows) more (by_item volumes i rows fits apart))
  where
    by_fit : (b : Bool) → fits_rows volumes rows i ≡ b → cond b (first_unfit volumes (place + length (item_spelling i)) (rows_by i rows) items) (Some place) ≡ None
        → (fits_rows volumes rows i ≡ true → first_unfit volumes (place + length (item_spelling i)) (rows_by i rows) items ≡ None → none_clash (rows_through items (rows_by i rows)) ≡ true) → none_clash (rows_through items (rows_by i rows)) ≡ true
    by_fit true is fit more = more is fit
    by_fit false is fit more = absurd cc

by_groups : (volumes : ℕ) (groups : List Logged) (rows : List PairRow) → FitRows volumes rows groups → none_clash rows ≡ true → none_clash (rows_through (flat_map (λ g. g.items) groups) rows) ≡ true
by_groups volumes [] rows fit apart = apart
by_groups volumes (g ∷ groups) rows fit apart =
    ap none_clash (rows_append g.items (flat_map (λ h. h.items) groups) rows) ∙ by_groups volumes groups (rows_through g.items rows) fit.1 (by_items volumes 0 g.items rows fit.0 apart)

-- ---- the rows that are meant

pub meant_apart : (shape : Shape) (images : Images) (means : Means) (w : Walk) → meaning_in shape images ≡ Meant means w → means.from.number < 2 ^ 64 → none_clash means.table.rows ≡ true
meant_apart shape images means w meant low =
    let by = meant_by shape images means w meant in
    let m = by.mark in
    let rows = by.stored.rows in
    let from : means.from ≡ m.at = ap (λ (k : Means). k.from) (sym by.means_are) in
    let number : m.at.number < 2 ^ 64 = subst (λ (k : Spot). k.number < 2 ^ 64) from low in
    let through = walks_through shape images m rows number (ap (λ (k : Walk). k.bad) by.walk_is ∙ by.good) in
    let fits : FitRows shape.volumes rows w.groups = subst (λ (k : Walk). FitRows shape.volumes rows k.groups) by.walk_is through.fits in
    ap (λ (k : Means). none_clash k.table.rows) (sym by.means_are) ∙ by_groups shape.volumes w.groups rows fits (stored_apart shape.volumes m.session m.state_slot (images State) by.stored by.holds)
