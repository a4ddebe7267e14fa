use Rattle.std.proofs.Common.{◌≡◌, ℕ, zero, suc, ◌<◌, true, List, [], ◌∷◌, ◌++◌, length, take, get_or, Option, Some, None, refl, sym, ap, ◌∙◌, arith}
use Rattle.std.specs.Borrow.{Bor}
use Rattle.std.specs.Option.{is_some, option_copied}
use Rattle.std.proofs.lemmas.List.{flat_map_more, take_all, take_more}
use Rattle.pair_table.specs.declared.row.PairRow.{PairRow}
use Rattle.pair_table.specs.Tables.{row_of}
use Rattle.xrc_journal.specs.Items.{Item}
use Rattle.site_store.specs.Changing.{pair_item, pairs_of}
use Rattle.site_store.specs.RowRecords.{has_items}
use Rattle.site_store.proofs.ChangeEnds.{no_items}
use Rattle.site_store.proofs.changing.has_row.Goals as goal

item_of : (found : Option (Bor PairRow)) (row : Option PairRow) → option_copied found ≡ row → has_items (pair_item row) ≡ is_some found
item_of None row is = sym (ap (λ (o : Option PairRow). has_items (pair_item o)) is)
item_of (Some r) row is = sym (ap (λ (o : Option PairRow). has_items (pair_item o)) is)

has_more : (xs ys : List Item) → has_items ys ≡ true → has_items (xs ++ ys) ≡ true
has_more [] ys has = has
has_more (x ∷ xs) ys has = refl

has_first : (xs ys : List Item) → has_items xs ≡ true → has_items (xs ++ ys) ≡ true
has_first [] ys has = absurd cc
has_first (x ∷ xs) ys has = refl

has_at : (devices : List ℕ) (rows : List PairRow) (i : ℕ) → i < length devices → has_items (pair_item (row_of (get_or devices i 0) rows)) ≡ true → has_items (pairs_of devices rows) ≡ true
has_at [] rows i lt has = absurd (omega (arith, lt))
has_at (d ∷ devices) rows zero lt has = has_first (pair_item (row_of d rows)) (pairs_of devices rows) has
has_at (d ∷ devices) rows (suc i) lt has = has_more (pair_item (row_of d rows)) (pairs_of devices rows) (has_at devices rows i (omega (arith, lt)) has)

pub returns-then-is_some : goal.returns-then-is_some
returns-then-is_some c =
    sym (has_at c.args.devices.now c.args.table.now.rows c.loop-device.device-index c.loop-device-test.true
    (item_of c.row_of.result (row_of (get_or c.args.devices.now c.loop-device.device-index 0) c.args.table.now.rows) c.row_of.ensures.row ∙ sym c.is_some.ensures ∙ c.if-is_some.true))

pub loop-device-preserved : goal.loop-device-preserved
loop-device-preserved c =
    let devices = c.args.devices.now in
    let rows = c.args.table.now.rows in
    let i = c.loop-device.device-index in
    let d = get_or devices i 0 in
    let none = no_items (pair_item (row_of d rows)) (item_of c.row_of.result (row_of d rows) c.row_of.ensures.row ∙ sym c.is_some.ensures ∙ c.if-is_some.false) in
    ap (λ (l : List ℕ). pairs_of l rows) (take_more devices i 0 c.loop-device-test.true) ∙ sym (flat_map_more (λ e. pair_item (row_of e rows)) [] (take i devices) d)
    ∙ ap (λ (l : List Item). l ++ pair_item (row_of d rows)) c.loop-device.invariant ∙ none

pub returns : goal.returns
returns c =
    let all : take c.loop-device.device-index c.args.devices.now ≡ c.args.devices.now = take_all c.loop-device.device-index c.args.devices.now (omega (arith, c.loop-device-test.false)) in
    sym (ap has_items (ap (λ (l : List ℕ). pairs_of l c.args.table.now.rows) (sym all) ∙ c.loop-device.invariant))
