-- The items of a formed record: images, and after them the pairs of the rows that change.
use Rattle.std.proofs.Common.{◌≡◌, ◌==◌, ℕ, ◌+◌, ◌*◌, true, nat_lt, List, [], ◌∷◌, ◌++◌, Option, Some, None, refl, sym, ap, subst, ◌∙◌, arith, eqb-true}
use Rattle.std.specs.List.{All, list_all}
use Rattle.std.proofs.lemmas.Bool.{and_parts, and_from, lt-ltb, le-leb}
use Rattle.crash_plant.specs.declared.device.Device.TheVariants.{Volume}
use Rattle.crash_plant.specs.Moments.{PlantState}
use Rattle.pair_table.specs.declared.row.PairState.{PairState}
use Rattle.pair_table.specs.declared.row.PairRow.{PairRow}
use Rattle.pair_table.specs.Tables.{in_state, none_clash, with_row}
use Rattle.record_rows.specs.ChangedRows.{changed_rows, changed_to, rows_in_states, with_rows_put}
use Rattle.record_rows.proofs.Changed.{changed_make}
use Rattle.record_rows.proofs.Devices.{apart_of}
use Rattle.site_means.specs.Walk.{rows_through}
use Rattle.pending_queue.specs.Entries.{WaitingEntry}
use Rattle.xrc_journal.specs.Items.{AreItems, Earlier, Form, Item, are_items_after, earlier_after, form_of, is_item, is_within, none_earlier}
use Rattle.xrc_journal.specs.Items.Item.{Pair}
use Rattle.xrc_journal.specs.Contents.{HasItem}
use Rattle.image_former.specs.Entries.{HasEntry, is_device, is_entry_on, row_device}
use Rattle.image_former.specs.Forms.{AreItemsWhereAllowed}
use Rattle.site_store.specs.Hits.{NextStates, is_row_in, pair_in, pairs_with_next, stays_row}
use Rattle.site_store.specs.Logging.{IsOfSomeRow, is_entry_of_device, is_pair_item}
use Rattle.site_store.specs.Standing.{row_has_volume}
use Rattle.site_store.proofs.LentJobs.{found_any, row_of_entry, slot_reach}

-- ---- pairs

pub pairs_are : (next : NextStates) (rows : List PairRow) → list_all is_pair_item (pairs_with_next next rows) ≡ true
pairs_are next [] = refl
pairs_are next (r ∷ rows) = by_state (next r) (pairs_are next rows)
  where
    by_state : (state : Option PairState) → list_all is_pair_item (pairs_with_next next rows) ≡ true → list_all is_pair_item (pair_in r state ++ pairs_with_next next rows) ≡ true
    by_state (Some state) more = more
    by_state None more = more

pairs_put : (next : NextStates) (rows all : List PairRow) → rows_through (pairs_with_next next rows) all ≡ with_rows_put (changed_rows next rows) all
pairs_put next [] all = refl
pairs_put next (r ∷ rows) all = by_state (next r) (λ l. pairs_put next rows l)
  where
    by_state : (state : Option PairState) → ((l : List PairRow) → rows_through (pairs_with_next next rows) l ≡ with_rows_put (changed_rows next rows) l) → rows_through (pair_in r state ++ pairs_with_next next rows) all ≡ with_rows_put (changed_to r state ++ changed_rows next rows) all
    by_state (Some state) more = more (with_row (in_state state r) all)
    by_state None more = more all

-- Pairs lead from rows to those in their new states.
pub pairs_lead : (next : NextStates) (rows : List PairRow) → none_clash rows ≡ true → rows_through (pairs_with_next next rows) rows ≡ rows_in_states next rows
pairs_lead next rows apart = pairs_put next rows rows ∙ changed_make next rows (apart_of rows apart)

-- ---- the rules on one record

-- Pairs of rows keep them whatever tracks a form allows.
pairs_keep : (form : Form) (next : NextStates) (rows : List PairRow) → list_all (stays_row next) rows ≡ true → (earlier : Earlier) → are_items_after form earlier (pairs_with_next next rows) ≡ true
pairs_keep form next [] are earlier = refl
pairs_keep form next (r ∷ rows) are earlier =
    let parts = and_parts (stays_row next r) (list_all (stays_row next) rows) are in
    by_state (next r) parts.0 (pairs_keep form next rows parts.1)
  where
    by_state : (state : Option PairState) → is_row_in r state ≡ true → ((e : Earlier) → are_items_after form e (pairs_with_next next rows) ≡ true) → are_items_after form earlier (pair_in r state ++ pairs_with_next next rows) ≡ true
    by_state None is more = more earlier
    by_state (Some state) is more =
        let item : Item = Pair 2 (in_state state r) in
        and_from (is_item form earlier item) (are_items_after form (earlier_after item earlier) (pairs_with_next next rows)) is (more (earlier_after item earlier))

-- The slot of a track with an entry is one of the plant's.
pub slot_there : (start : PlantState) (rows : List PairRow) (entries : List WaitingEntry) → list_all (row_has_volume start) rows ≡ true → All (IsOfSomeRow rows) entries → (device x : ℕ) → HasEntry rows device x entries → (form_of start).has_slot device x ≡ true
slot_there start rows entries below live device x has =
    let f = found_any (is_entry_on rows device x) entries has in
    let r = row_of_entry start rows f.element below (subst (IsOfSomeRow rows) f.there (live f.place f.element f.within)) in
    let on = and_parts (is_entry_of_device rows device f.element) (f.element.head.track == x) f.passes in
    let is : r.row.device ≡ device = eqb-true r.row.device device (ap (λ (o : Option PairRow). is_device device (row_device o)) (sym r.found) ∙ on.0) in
    and_from (nat_lt device start.volumes) (is_within (start.lengths (Volume device)) x) (lt-ltb device start.volumes (omega (arith, r.there, is)))
    (le-leb (512 + x * 57344 + 57344) (start.lengths (Volume device)) (omega (arith, slot_reach start rows entries below live device x has)))

-- Items that keep them after whatever items keep them after these.
pub keep_both : (form : Form) (earlier : Earlier) (xs ys : List Item) → are_items_after form earlier xs ≡ true → ((e : Earlier) → are_items_after form e ys ≡ true) → are_items_after form earlier (xs ++ ys) ≡ true
keep_both form earlier [] ys first last = last earlier
keep_both form earlier (x ∷ xs) ys first last =
    let parts = and_parts (is_item form earlier x) (are_items_after form (earlier_after x earlier) xs) first in
    and_from (is_item form earlier x) (are_items_after form (earlier_after x earlier) (xs ++ ys)) parts.0 (keep_both form (earlier_after x earlier) xs ys parts.1 last)

-- The items of a formed record keep the rules on one record.
pub formed_keep : (start : PlantState) (rows : List PairRow) (entries : List WaitingEntry) (next : NextStates) (images items : List Item) → list_all (row_has_volume start) rows ≡ true → All (IsOfSomeRow rows) entries → AreItemsWhereAllowed images
    → ((d x : ℕ) → HasItem d x images → HasEntry rows d x entries) → items ≡ images ++ pairs_with_next next rows → list_all (stays_row next) rows ≡ true → AreItems (form_of start) items
formed_keep start rows entries next images items below live allowed on is are =
    let form = form_of start in
    let first : AreItems form images = allowed form (λ d x has. slot_there start rows entries below live d x (on d x has)) in
    subst (AreItems form) (sym is) (keep_both form none_earlier images (pairs_with_next next rows) first (pairs_keep form next rows are))
