-- Which volumes a formed record has items for, and that each entry is of a write.
use Rattle.std.proofs.Common.{◌≡◌, inl, inr, ℕ, zero, suc, ◌+◌, ◌≤◌, ◌<◌, ◌==◌, ◌&&◌, ◌||◌, Bool, true, false, List, [], ◌∷◌, ◌++◌, length, map, get_or, refl, ap, sym, subst, ◌∙◌, arith, eq-eqb}
use Rattle.std.specs.Prelude.{◌↔◌, IfSome, nat_lt, not, slice_get}
use Rattle.std.specs.List.{All, list_all, list_any}
use Rattle.std.proofs.lemmas.Bool.{and_from, and_parts, cases_lt, ltb-true, or_cases}
use Rattle.pair_table.specs.declared.row.PairRow.{PairRow}
use Rattle.pending_queue.specs.Entries.{IsOfWrite, WaitingEntry}
use Rattle.xrc_journal.specs.Contents.{HasItem, is_of_track}
use Rattle.crash_plant.specs.declared.device.Device.TheVariants.{Volume}
use Rattle.crash_plant.specs.Moments.{PlantState}
use Rattle.xrc_journal.specs.Items.{Item, is_within}
use Rattle.xrc_journal.specs.Items.Item.{Image, Delta, Pair, Gone}
use Rattle.image_former.specs.Changes.{AreSpelled}
use Rattle.image_former.specs.Entries.{HasEntry, is_entry_on}
use Rattle.site_store.specs.Jobs.{has_device, is_of_device}
use Rattle.site_store.specs.Logging.{IsOfSomeRow, is_entry_of_device, is_pair_item}
use Rattle.site_store.specs.Standing.{row_has_volume}
use Rattle.site_store.proofs.FormedItems.{slot_there}

-- ---- entries of writes

written_at : (entries : List WaitingEntry) (i : ℕ) (d : WaitingEntry) → i < length entries → IfSome (slice_get entries i) IsOfWrite → IsOfWrite (get_or entries i d)
written_at [] i d lt is = absurd (omega (arith, lt))
written_at (e ∷ entries) zero d lt is = is
written_at (e ∷ entries) (suc i) d lt is = written_at entries i d (omega (arith, lt)) is

-- One entry more is of a write.
pub written_more : (entries : List WaitingEntry) (i : ℕ) → i < length entries → IfSome (slice_get entries i) IsOfWrite → ((k : ℕ) (d : WaitingEntry) → k < i → IsOfWrite (get_or entries k d)) → (k : ℕ) (d : WaitingEntry) → k < i + 1 → IsOfWrite (get_or entries k d)
written_more entries i lt is before k d less = elim (cases_lt k i) [
  | inl early ↦ before k d early
  | inr late ↦ let here : i ≡ k = omega (arith, late, less) in subst (λ (j : ℕ). IsOfWrite (get_or entries j d)) here (written_at entries i d lt is)
]

-- They are spelled by what they do.
pub spelled_by_kinds : (entries : List WaitingEntry) → All IsOfWrite entries → AreSpelled entries (map (λ e. e.kind) entries)
spelled_by_kinds [] all = tt
spelled_by_kinds (e ∷ entries) all = (all zero e (omega arith), spelled_by_kinds entries (λ i d lt. all (suc i) d (omega (arith, lt))))

-- ---- volumes with items

any_more : {A : Type 0} (test : A → Bool) (a : A) (xs : List A) → list_any test xs ≡ true → list_any test (a ∷ xs) ≡ true
any_more test a xs has = after (test a)
  where
    after : (b : Bool) → (b || list_any test xs) ≡ true
    after true = refl
    after false = has

any_here : {A : Type 0} (test : A → Bool) (a : A) (xs : List A) → test a ≡ true → list_any test (a ∷ xs) ≡ true
any_here test a xs is = ap (λ (b : Bool). b || list_any test xs) is

-- The track of an item of a device.
track_of : (d : ℕ) (items : List Item) → has_device d items ≡ true → (x : ℕ) × HasItem d x items
track_of d [] has = absurd cc
track_of d (Pair version row ∷ items) has = track_of d items has
track_of d (Gone e ∷ items) has = track_of d items has
track_of d (Image e y recs ∷ items) has = elim (or_cases (e == d) (has_device d items) has) [
  | inl here ↦ (y, any_here (is_of_track d y) (Image e y recs) items (and_from (e == d) (y == y) here (eq-eqb y y refl)))
  | inr later ↦ let found = track_of d items later in (found.0, any_more (is_of_track d found.0) (Image e y recs) items found.1)
]
track_of d (Delta e y kind ∷ items) has = elim (or_cases (e == d) (has_device d items) has) [
  | inl here ↦ (y, any_here (is_of_track d y) (Delta e y kind) items (and_from (e == d) (y == y) here (eq-eqb y y refl)))
  | inr later ↦ let found = track_of d items later in (found.0, any_more (is_of_track d found.0) (Delta e y kind) items found.1)
]

device_of : (d x : ℕ) (items : List Item) → HasItem d x items → has_device d items ≡ true
device_of d x [] has = absurd cc
device_of d x (Pair version row ∷ items) has = device_of d x items has
device_of d x (Gone e ∷ items) has = device_of d x items has
device_of d x (Image e y recs ∷ items) has = elim (or_cases (e == d && y == x) (list_any (is_of_track d x) items) has) [
  | inl here ↦ any_here (is_of_device d) (Image e y recs) items (and_parts (e == d) (y == x) here).0
  | inr later ↦ any_more (is_of_device d) (Image e y recs) items (device_of d x items later)
]
device_of d x (Delta e y kind ∷ items) has = elim (or_cases (e == d && y == x) (list_any (is_of_track d x) items) has) [
  | inl here ↦ any_here (is_of_device d) (Delta e y kind) items (and_parts (e == d) (y == x) here).0
  | inr later ↦ any_more (is_of_device d) (Delta e y kind) items (device_of d x items later)
]

-- The track of an entry on a device.
entry_track : (rows : List PairRow) (d : ℕ) (entries : List WaitingEntry) → list_any (is_entry_of_device rows d) entries ≡ true → (x : ℕ) × HasEntry rows d x entries
entry_track rows d [] has = absurd cc
entry_track rows d (e ∷ entries) has = elim (or_cases (is_entry_of_device rows d e) (list_any (is_entry_of_device rows d) entries) has) [
  | inl here ↦ (e.head.track, any_here (is_entry_on rows d e.head.track) e entries (and_from (is_entry_of_device rows d e) (e.head.track == e.head.track) here (eq-eqb e.head.track e.head.track refl)))
  | inr later ↦ let found = entry_track rows d entries later in (found.0, any_more (is_entry_on rows d found.0) e entries found.1)
]

entry_on : (rows : List PairRow) (d x : ℕ) (entries : List WaitingEntry) → HasEntry rows d x entries → list_any (is_entry_of_device rows d) entries ≡ true
entry_on rows d x [] has = absurd cc
entry_on rows d x (e ∷ entries) has = elim (or_cases (is_entry_on rows d x e) (list_any (is_entry_on rows d x) entries) has) [
  | inl here ↦ any_here (is_entry_of_device rows d) e entries (and_parts (is_entry_of_device rows d e) (e.head.track == x) here).0
  | inr later ↦ any_more (is_entry_of_device rows d) e entries (entry_on rows d x entries later)
]

-- Pairs are of no volume.
no_device : (d : ℕ) (images pairs : List Item) → list_all is_pair_item pairs ≡ true → has_device d (images ++ pairs) ≡ has_device d images
no_device d [] [] are = refl
no_device d [] (Pair version row ∷ pairs) are = no_device d [] pairs are
no_device d [] (Image e y recs ∷ pairs) are = absurd cc
no_device d [] (Delta e y kind ∷ pairs) are = absurd cc
no_device d [] (Gone e ∷ pairs) are = absurd cc
no_device d (i ∷ images) pairs are = ap (λ (b : Bool). is_of_device d i || b) (no_device d images pairs are)

same_flag : (a b : Bool) → (a ≡ true → b ≡ true) → (b ≡ true → a ≡ true) → a ≡ b
same_flag true b to from = sym (to refl)
same_flag false true to from = from refl
same_flag false false to from = refl

good_of : (failed : Bool) → not failed ≡ true → failed ≡ false
good_of true is = absurd cc
good_of false is = refl

-- There are items of a volume exactly where the group has entries on it and its job hasn't failed.
pub due_items : (rows : List PairRow) (entries : List WaitingEntry) (d : ℕ) (failed : Bool) (images pairs items : List Item) → list_all is_pair_item pairs ≡ true → items ≡ images ++ pairs
    → ((x : ℕ) → HasItem d x images ↔ (HasEntry rows d x entries × (failed ≡ false))) → (list_any (is_entry_of_device rows d) entries && not failed) ≡ has_device d items
due_items rows entries d failed images pairs items are parts tracks =
    same_flag (list_any (is_entry_of_device rows d) entries && not failed) (has_device d images) to from ∙ sym (no_device d images pairs are) ∙ ap (has_device d) (sym parts)
  where
    to : (list_any (is_entry_of_device rows d) entries && not failed) ≡ true → has_device d images ≡ true
    to both =
        let each = and_parts (list_any (is_entry_of_device rows d) entries) (not failed) both in
        let found = entry_track rows d entries each.0 in
        device_of d found.0 images ((tracks found.0).1 (found.1, good_of failed each.1))

    from : has_device d images ≡ true → (list_any (is_entry_of_device rows d) entries && not failed) ≡ true
    from has =
        let found = track_of d images has in
        let each = (tracks found.0).0 found.1 in
        and_from (list_any (is_entry_of_device rows d) entries) (not failed) (entry_on rows d found.0 entries each.0) (ap not each.1)

-- ---- devices without a volume

pub flags_past : (flags : List Bool) (d : ℕ) → length flags ≤ d → get_or flags d false ≡ false
flags_past [] d past = refl
flags_past (f ∷ flags) zero past = absurd (omega (arith, past))
flags_past (f ∷ flags) (suc d) past = flags_past flags d (omega (arith, past))

-- No entry is on a device past the volumes.
pub none_past : (start : PlantState) (rows : List PairRow) (entries : List WaitingEntry) (d : ℕ) → list_all (row_has_volume start) rows ≡ true → All (IsOfSomeRow rows) entries → start.volumes ≤ d → list_any (is_entry_of_device rows d) entries ≡ false
none_past start rows entries d below live past = by_flag (list_any (is_entry_of_device rows d) entries) refl
  where
    by_flag : (b : Bool) → list_any (is_entry_of_device rows d) entries ≡ b → list_any (is_entry_of_device rows d) entries ≡ false
    by_flag false none = none
    by_flag true has =
        let found = entry_track rows d entries has in
        let there = and_parts (nat_lt d start.volumes) (is_within (start.lengths (Volume d)) found.0) (slot_there start rows entries below live d found.0 found.1) in
        absurd (omega (arith, ltb-true d start.volumes there.0, past))
