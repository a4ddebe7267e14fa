-- The first item of bytes, as it is told.
use Rattle.std.proofs.Common.{◌≡◌, ◌≢◌, inl, inr, ℕ, ◌+◌, ◌-◌, ◌≤◌, true, List, [], ◌∷◌, length, take, drop, slice_index, Some, Ok, refl, sym, ap, subst, ◌∙◌, arith, length-append}
use Rattle.std.specs.Int.{w16, w32, from_be_bytes}
use Rattle.std.proofs.lemmas.List.{take_at}
use Rattle.tod_stamp.proofs.FieldLaws.{wide16, wide32}
use Rattle.ckd_track.specs.declared.rec.Rec.{Rec}
use Rattle.ckd_track.specs.Images.{image, image_at}
use Rattle.pair_table.specs.declared.row.PairRow.{PairRow}
use Rattle.tod_stamp.specs.Fields.{is_version}
use Rattle.pair_table.specs.Rows.{is_version_row, row_by, row_length, row_text}
use Rattle.pair_table.proofs.Versions.{text_length, version_back}
use Rattle.xrc_journal.specs.declared.reading.BodyItem.{BodyItem}
use Rattle.xrc_journal.specs.Items.{Item, Earlier, anywhere, earlier_after, is_item, are_items_after, item_spelling, body_spelling, pair_tag}
use Rattle.xrc_journal.specs.Items.Item.{Image, Delta, Pair, Gone}
use Rattle.xrc_journal.specs.Bodies.{BeginsWith, BeginsWithItem}
use Rattle.xrc_journal.specs.Views.{told, first_told}
use Rattle.tod_stamp.proofs.Versions.{one_or_two}
use Rattle.xrc_journal.proofs.Fields.{both_true}
use Rattle.xrc_journal.proofs.ItemsAgain.{image_rules, some_bytes}
use Rattle.xrc_journal.proofs.Scans.{tag_high, tag_is, tag_split, image_length}

-- ---- each kind

-- device and track at the front of an image's item
pub image_fields : (bytes : List ℕ) (device track : ℕ) (recs : List Rec) → BeginsWith bytes (Image device track recs) → (from_be_bytes w16 (take 2 (drop 1 bytes)) ≡ device) × (from_be_bytes w32 (take 4 (drop 3 bytes)) ≡ track)
image_fields bytes device track recs b =
    let rules = image_rules anywhere b.earlier device track recs b.keeps in (
      ap (λ (l : List ℕ). from_be_bytes w16 (take 2 (drop 1 l))) b.parts ∙ wide16.again device rules.device_fits,
      ap (λ (l : List ℕ). from_be_bytes w32 (take 4 (drop 3 l))) b.parts ∙ wide32.again track rules.track_fits,
    )

-- the rules of a pair's item
pub row_keeps : (version : ℕ) (bytes : List ℕ) (row : PairRow) → BeginsWith bytes (Pair version row) → is_version_row version row ≡ true
row_keeps version bytes row b = (both_true (is_version version) (is_version_row version row) b.keeps).1

pub row_here : (version : ℕ) (bytes : List ℕ) (row : PairRow) → BeginsWith bytes (Pair version row) → row_by version (take (row_length version) (drop 1 bytes)) ≡ Some row
row_here version bytes row b =
    let is = row_keeps version bytes row b in
    ap (λ (l : List ℕ). row_by version (take (row_length version) (drop 1 l))) b.parts
    ∙ ap (row_by version) (take_at (row_text version row) b.rest (row_length version) (text_length version row is)) ∙ version_back version row is

-- The bytes reach to the end of the row.
pub row_within : (version : ℕ) (bytes : List ℕ) (row : PairRow) → BeginsWith bytes (Pair version row) → 1 + row_length version ≤ length bytes
row_within version bytes row b =
    omega (arith, ap length b.parts, length-append (item_spelling (Pair version row)) b.rest, text_length version row (row_keeps version bytes row b))

-- ---- the first of some items

-- an item that bytes begin with, and those after it
pub record First (bytes : List ℕ) (items : List Item) : Type 0 where
  pub item : Item
  pub more : List Item
  pub are : items ≡ item ∷ more
  pub begins : BeginsWith bytes item

pub first_of : (bytes : List ℕ) (earlier : Earlier) (items : List Item) → are_items_after anywhere earlier items ≡ true → bytes ≡ body_spelling items → 1 ≤ length bytes → First bytes items
first_of bytes earlier [] keep spelled some = absurd (omega (arith, some, ap length spelled))
first_of bytes earlier (i ∷ items) keep spelled some =
    let parts = both_true (is_item anywhere earlier i) (are_items_after anywhere (earlier_after i earlier) items) keep in
    record { item = i; more = items; are = refl; begins = record { earlier = earlier; rest = body_spelling items; keeps = parts.0; parts = spelled } }

pub none_of : (bytes : List ℕ) (items : List Item) → bytes ≡ body_spelling items → length bytes ≡ 0 → items ≡ []
none_of bytes [] spelled none = refl
none_of bytes (i ∷ items) spelled none = absurd (omega (arith, none, ap length spelled, some_bytes i, length-append (item_spelling i) (body_spelling items)))

pub begins_item : (bytes : List ℕ) (items : List Item) → First bytes items → BeginsWithItem bytes
begins_item bytes items f = record { earlier = f.begins.earlier; item = f.item; rest = f.begins.rest; keeps = f.begins.keeps; parts = f.begins.parts }

-- ---- by its tag

-- A pair's tag tells its version.
same_version : (a b : ℕ) → is_version a ≡ true → is_version b ≡ true → pair_tag a ≡ pair_tag b → a ≡ b
same_version a b first second same = elim (one_or_two a first) [
  | inl a_one ↦ elim (one_or_two b second) [
    | inl b_one ↦ a_one ∙ sym b_one
    | inr b_two ↦ absurd (omega (arith, sym (ap pair_tag a_one) ∙ same ∙ ap pair_tag b_two))
  ]
  | inr a_two ↦ elim (one_or_two b second) [
    | inl b_one ↦ absurd (omega (arith, sym (ap pair_tag a_two) ∙ same ∙ ap pair_tag b_one))
    | inr b_two ↦ a_two ∙ sym b_two
  ]
]

-- No device that goes has a pair's tag.
no_gone_tag : (version n : ℕ) → n ≡ pair_tag version → n ≡ 4 → ⊥
no_gone_tag version n is four = elim (tag_split version) [
  | inl three ↦ omega (arith, is, four, three)
  | inr five ↦ omega (arith, is, four, five)
]

pub row_of_tag : (version : ℕ) (bytes : List ℕ) (item : Item) → is_version version ≡ true → slice_index bytes 0 ≡ pair_tag version → BeginsWith bytes item → (row : PairRow) × (item ≡ Pair version row)
row_of_tag version bytes (Image device track recs) known tag b = absurd (omega (arith, tag, tag_is bytes (Image device track recs) b, tag_high version))
row_of_tag version bytes (Delta device track kind) known tag b = absurd (omega (arith, tag, tag_is bytes (Delta device track kind) b, tag_high version))
row_of_tag version bytes (Pair found row) known tag b =
    let same = same_version found version (both_true (is_version found) (is_version_row found row) b.keeps).0 known (sym (tag_is bytes (Pair found row) b) ∙ tag) in
    (row, ap (λ v. Pair v row) same)
row_of_tag version bytes (Gone device) known tag b = absurd (no_gone_tag version (slice_index bytes 0) tag (tag_is bytes (Gone device) b))

-- a row that its tag names
pub row_begins : (version : ℕ) (bytes : List ℕ) → BeginsWithItem bytes → is_version version ≡ true → slice_index bytes 0 ≡ pair_tag version → (row : PairRow) × BeginsWith bytes (Pair version row)
row_begins version bytes r known tag =
    let begins : BeginsWith bytes r.item = record { earlier = r.earlier; rest = r.rest; keeps = r.keeps; parts = r.parts } in
    let row = row_of_tag version bytes r.item known tag begins in
    (row.0, subst (λ (i : Item). BeginsWith bytes i) row.1 begins)

pub row_size : (version : ℕ) (bytes : List ℕ) (row : PairRow) → BeginsWith bytes (Pair version row) → 1 + row_length version ≡ length (item_spelling (Pair version row))
row_size version bytes row b = omega (arith, text_length version row (row_keeps version bytes row b))

-- An item's tag tells its length, if it is a row's.
pub tagged_size : (version : ℕ) (bytes : List ℕ) (item : Item) → is_version version ≡ true → slice_index bytes 0 ≡ pair_tag version → BeginsWith bytes item → 1 + row_length version ≡ length (item_spelling item)
tagged_size version bytes item known tag b =
    let row = row_of_tag version bytes item known tag b in
    row_size version bytes row.0 (subst (λ (i : Item). BeginsWith bytes i) row.1 b) ∙ ap (λ (i : Item). length (item_spelling i)) (sym row.1)

-- no body has a change
no_change : (bytes : List ℕ) (device track : ℕ) (kind : _) → BeginsWith bytes (Delta device track kind) → ⊥
no_change bytes device track kind b = cc

pub gone_of_tag : (bytes : List ℕ) (item : Item) → slice_index bytes 0 ≢ 1 → slice_index bytes 0 ≢ 3 → slice_index bytes 0 ≢ 5 → BeginsWith bytes item → (device : ℕ) × (item ≡ Gone device)
gone_of_tag bytes (Image device track recs) image narrow pair b = absurd (image (tag_is bytes (Image device track recs) b))
gone_of_tag bytes (Delta device track kind) image narrow pair b = absurd (no_change bytes device track kind b)
gone_of_tag bytes (Pair version row) image narrow pair b = elim (tag_split version) [
  | inl three ↦ absurd (narrow (tag_is bytes (Pair version row) b ∙ three))
  | inr five ↦ absurd (pair (tag_is bytes (Pair version row) b ∙ five))
]
gone_of_tag bytes (Gone device) image narrow pair b = (device, refl)

pub image_told : (bytes : List ℕ) (item : Item) (device track n : ℕ) (recs : List Rec) (more : List ℕ) → slice_index bytes 0 ≡ 1 → BeginsWith bytes item → device ≡ from_be_bytes w16 (take 2 (drop 1 bytes)) → track ≡ from_be_bytes w32 (take 4 (drop 3 bytes))
    → image_at (take (length bytes - 7) (drop 7 bytes)) ≡ Ok (recs, more) → n ≡ length (image recs) → (let r : BodyItem × ℕ = (BodyItem.Image device track, 7 + n) in r ≡ (told item, length (item_spelling item)))
image_told bytes (Image d x r) device track n recs more tag b device_is track_is read len =
    let fields = image_fields bytes d x r b in
    let size = image_length bytes (Image d x r) recs more n tag b read len in
    (λ i. (BodyItem.Image ((device_is ∙ fields.0) i) ((track_is ∙ fields.1) i), size.0 i))
image_told bytes (Delta d x kind) device track n recs more tag b device_is track_is read len = absurd (omega (arith, tag, tag_is bytes (Delta d x kind) b))
image_told bytes (Pair version row) device track n recs more tag b device_is track_is read len = absurd (omega (arith, tag, tag_is bytes (Pair version row) b, tag_high version))
image_told bytes (Gone d) device track n recs more tag b device_is track_is read len = absurd (omega (arith, tag, tag_is bytes (Gone d) b))

pub pair_told : (version : ℕ) (bytes : List ℕ) (items : List Item) (f : First bytes items) (row found : PairRow) → f.item ≡ Pair version row → found ≡ row → Some (BodyItem.Pair found, 1 + row_length version) ≡ first_told items
pair_told version bytes items f row found is same =
    let here = subst (λ (i : Item). BeginsWith bytes i) is f.begins in
    let len = row_size version bytes row here in
    (λ i. Some (BodyItem.Pair (same i), len i)) ∙ ap (λ (t : Item). Some (told t, length (item_spelling t))) (sym is) ∙ ap first_told (sym f.are)

pub gone_told : (bytes : List ℕ) (items : List Item) (f : First bytes items) (device found : ℕ) → f.item ≡ Gone device → found ≡ device → Some (BodyItem.Gone found, 3) ≡ first_told items
gone_told bytes items f device found is same = (λ i. Some (BodyItem.Gone (same i), 3)) ∙ ap (λ (t : Item). Some (told t, length (item_spelling t))) (sym is) ∙ ap first_told (sym f.are)
