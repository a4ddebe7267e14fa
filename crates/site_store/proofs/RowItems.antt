-- Items of rows alone: they change no content, and keep the rules on one record.
use Rattle.std.proofs.Common.{◌≡◌, ℕ, Bool, ◌&&◌, ◌||◌, true, false, List, [], ◌∷◌, ◌++◌, Option, Some, None, refl, sym, ap, subst, ◌∙◌, IsTrue, true≢false}
use Rattle.std.specs.List.{list_any}
use Rattle.ckd_track.specs.declared.rec.Rec.{Rec}
use Rattle.pair_table.specs.declared.command.Change.{Change}
use Rattle.pair_table.specs.declared.command.Change.TheVariants.{Nothing, Started, Added, Resumed, Gone as GoneRows, Suspended, Ended}
use Rattle.pair_table.specs.declared.row.PairState.{PairState}
use Rattle.pair_table.specs.declared.row.PairRow.{PairRow}
use Rattle.pair_table.specs.Tables.{row_of}
use Rattle.xrc_journal.specs.Items.{AreItems, Earlier, Form, Item, anywhere, are_items_after, earlier_after, is_item, none_earlier}
use Rattle.xrc_journal.specs.Items.Item.{Image, Delta, Pair, Gone}
use Rattle.xrc_journal.specs.Contents.{HasItem, content_by, content_through, is_of_track}
use Rattle.site_store.specs.Changing.{changed_items, gone_of, pair_item, pairs_of}
use Rattle.site_store.specs.Hits.{NextStates, pair_in, pairs_with_next}

abbrev pub is_row_item : Item → Bool
is_row_item (Image device track recs) = false
is_row_item (Delta device track kind) = false
is_row_item (Pair version row) = true
is_row_item (Gone device) = true

abbrev pub AreRowItems : List Item → Type 0
AreRowItems [] = Unit {0}
AreRowItems (i ∷ items) = (is_row_item i ≡ true) × AreRowItems items

-- ---- changes and hits have them alone

pub both_rows : (xs ys : List Item) → AreRowItems xs → AreRowItems ys → AreRowItems (xs ++ ys)
both_rows [] ys a b = b
both_rows (x ∷ xs) ys a b = (a.0, both_rows xs ys a.1 b)

one_row : (row : Option PairRow) → AreRowItems (pair_item row)
one_row (Some row) = (refl, tt)
one_row None = tt

pairs_rows : (devices : List ℕ) (rows : List PairRow) → AreRowItems (pairs_of devices rows)
pairs_rows [] rows = tt
pairs_rows (d ∷ devices) rows = both_rows (pair_item (row_of d rows)) (pairs_of devices rows) (one_row (row_of d rows)) (pairs_rows devices rows)

gone_rows : (devices : List ℕ) → AreRowItems (gone_of devices)
gone_rows [] = tt
gone_rows (d ∷ devices) = (refl, gone_rows devices)

pub changes_rows : (change : Change) (rows : List PairRow) → AreRowItems (changed_items change rows)
changes_rows Nothing rows = tt
changes_rows Started rows = tt
changes_rows (Added device) rows = pairs_rows (device ∷ []) rows
changes_rows (Resumed device) rows = pairs_rows (device ∷ []) rows
changes_rows (GoneRows devices) rows = gone_rows devices
changes_rows (Suspended devices) rows = pairs_rows devices rows
changes_rows Ended rows = tt

pub next_rows : (next : NextStates) (rows : List PairRow) → AreRowItems (pairs_with_next next rows)
next_rows next [] = tt
next_rows next (r ∷ rows) = both_rows (pair_in r (next r)) (pairs_with_next next rows) (by_state (next r)) (next_rows next rows)
  where
    by_state : (state : Option PairState) → AreRowItems (pair_in r state)
    by_state (Some state) = (refl, tt)
    by_state None = tt

-- ---- what they leave as it is

still_by : (device track : ℕ) (old : Option (List Rec)) (i : Item) → is_row_item i ≡ true → content_by device track old i ≡ old
still_by device track old (Image d x recs) is = absurd (true≢false (sym is))
still_by device track old (Delta d x kind) is = absurd (true≢false (sym is))
still_by device track old (Pair version row) is = refl
still_by device track old (Gone d) is = refl

pub content_still : (device track : ℕ) (items : List Item) (old : Option (List Rec)) → AreRowItems items → content_through device track items old ≡ old
content_still device track [] old are = refl
content_still device track (i ∷ items) old are = ap (λ (o : Option (List Rec)). content_through device track items o) (still_by device track old i are.0) ∙ content_still device track items old are.1

-- So they do after others.
pub content_before : (device track : ℕ) (first items : List Item) (old : Option (List Rec)) → AreRowItems items → content_through device track (first ++ items) old ≡ content_through device track first old
content_before device track [] items old are = content_still device track items old are
content_before device track (i ∷ first) items old are = content_before device track first items (content_by device track old i) are

none_by : (device track : ℕ) (i : Item) → is_row_item i ≡ true → is_of_track device track i ≡ false
none_by device track (Image d x recs) is = absurd (true≢false (sym is))
none_by device track (Delta d x kind) is = absurd (true≢false (sym is))
none_by device track (Pair version row) is = refl
none_by device track (Gone d) is = refl

-- A track with an item among both has one among the first.
pub item_before : (device track : ℕ) (xs ys : List Item) → AreRowItems ys → HasItem device track (xs ++ ys) → HasItem device track xs
item_before device track [] [] are has = has
item_before device track [] (y ∷ ys) are has = item_before device track [] ys are.1 (subst (λ (b : Bool). IsTrue (b || list_any (is_of_track device track) ys)) (none_by device track y are.0) has)
item_before device track (x ∷ xs) ys are has = by_first (is_of_track device track x) (λ later. item_before device track xs ys are later) has
  where
    by_first : (b : Bool) → (HasItem device track (xs ++ ys) → HasItem device track xs) → IsTrue (b || list_any (is_of_track device track) (xs ++ ys)) → IsTrue (b || list_any (is_of_track device track) xs)
    by_first true rest has = refl
    by_first false rest has = rest has

-- Whatever tracks a form allows, they keep its rules.
same_rule : (form : Form) (earlier : Earlier) (i : Item) → is_row_item i ≡ true → is_item form earlier i ≡ is_item anywhere earlier i
same_rule form earlier (Image d x recs) is = absurd (true≢false (sym is))
same_rule form earlier (Delta d x kind) is = absurd (true≢false (sym is))
same_rule form earlier (Pair version row) is = refl
same_rule form earlier (Gone d) is = refl

rules_same : (form : Form) (earlier : Earlier) (items : List Item) → AreRowItems items → are_items_after form earlier items ≡ are_items_after anywhere earlier items
rules_same form earlier [] are = refl
rules_same form earlier (i ∷ items) are = λ n. same_rule form earlier i are.0 n && rules_same form (earlier_after i earlier) items are.1 n

pub keep_anywhere : (form : Form) (items : List Item) → AreRowItems items → AreItems anywhere items → AreItems form items
keep_anywhere form items are keep = rules_same form none_earlier items are ∙ keep
