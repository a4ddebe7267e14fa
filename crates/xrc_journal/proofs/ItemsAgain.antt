-- What items spell is read again.
use Rattle.std.proofs.Common.{◌≡◌, ℕ, zero, suc, ◌+◌, ◌^◌, ◌<◌, ◌≤◌, Bool, true, false, not, nat_lt, ◌&&◌, List, [], ◌∷◌, ◌++◌, length, Ok, None, refl, sym, ap, subst, inl, inr, ◌∙◌, append_assoc, arith, length-append}
use Rattle.std.specs.Int.{w16, w32, to_be_bytes}
use Rattle.std.proofs.lemmas.Bool.{ltb-true}
use Rattle.tod_stamp.specs.Fields.{Left, any, is_version}
use Rattle.tod_stamp.proofs.FieldLaws.{at_place, wide16, wide32, number_again, bytes_again}
use Rattle.ckd_track.specs.declared.rec.Rec.{Rec}
use Rattle.ckd_track.specs.declared.write.Kind.{Kind}
use Rattle.ckd_track.specs.Effects.{is_kind}
use Rattle.ckd_track.specs.Entries.{delta_spelling, changes_part}
use Rattle.ckd_track.specs.Tracks.{is_track}
use Rattle.ckd_track.specs.Images.{image}
use Rattle.pair_table.specs.declared.row.PairRow.{PairRow}
use Rattle.pair_table.specs.Rows.{is_version_row, row_length, row_text}
use Rattle.pair_table.proofs.Versions.{text_length, version_back}
use Rattle.xrc_journal.specs.Items.{Item, Form, Earlier, none_earlier, earlier_after, may_draw, is_item, are_items_after, item_spelling, body_spelling, pair_tag, AreItems}
use Rattle.xrc_journal.specs.Items.Item.{Image, Delta, Pair, Gone}
use Rattle.xrc_journal.specs.Reading.{Items, track_at, image_item_at, delta_item_at, pair_item_at, gone_item_at, is_tag, item_at, items_from, items_at}
use Rattle.xrc_journal.proofs.Changes.{changes_again}
use Rattle.tod_stamp.proofs.Versions.{one_or_two}
use Rattle.xrc_journal.proofs.Fields.{both_true, byte_again, image_back}
use Rattle.std.specs.Prelude.{IsTrue}

-- what an image's item keeps
pub record IsImageItem (form : Form) (earlier : Earlier) (device track : ℕ) (recs : List Rec) : Type 0 where
  pub early : not earlier.late ≡ true
  pub device_fits : device < 2 ^ 16
  pub track_fits : track < 2 ^ 32
  pub drawable : may_draw form earlier device track ≡ true
  pub are : is_track recs ≡ true

pub image_rules : (form : Form) (earlier : Earlier) (device track : ℕ) (recs : List Rec) → is_item form earlier (Image device track recs) ≡ true → IsImageItem form earlier device track recs
image_rules form earlier device track recs is =
    let d = not earlier.late && nat_lt device (2 ^ 16) in
    let a = both_true (d && nat_lt track (2 ^ 32) && may_draw form earlier device track) (is_track recs) is in
    let b = both_true (d && nat_lt track (2 ^ 32)) (may_draw form earlier device track) a.0 in
    let c = both_true d (nat_lt track (2 ^ 32)) b.0 in
    let e = both_true (not earlier.late) (nat_lt device (2 ^ 16)) c.0 in
    record { early = e.0; device_fits = ltb-true device (2 ^ 16) e.1; track_fits = ltb-true track (2 ^ 32) c.1; drawable = b.1; are = a.1 }

-- what a change's item keeps
pub record IsDeltaItem (form : Form) (earlier : Earlier) (device track : ℕ) (kind : Kind) : Type 0 where
  pub allowed : (form.deltas && not earlier.late) ≡ true
  pub device_fits : device < 2 ^ 16
  pub track_fits : track < 2 ^ 32
  pub has_slot : form.has_slot device track ≡ true
  pub part : changes_part kind ≡ true
  pub is : is_kind kind ≡ true

pub delta_rules : (form : Form) (earlier : Earlier) (device track : ℕ) (kind : Kind) → is_item form earlier (Delta device track kind) ≡ true → IsDeltaItem form earlier device track kind
delta_rules form earlier device track kind is =
    let d = (form.deltas && not earlier.late) && nat_lt device (2 ^ 16) in
    let a = both_true (d && nat_lt track (2 ^ 32) && form.has_slot device track) (changes_part kind && is_kind kind) is in
    let b = both_true (d && nat_lt track (2 ^ 32)) (form.has_slot device track) a.0 in
    let c = both_true d (nat_lt track (2 ^ 32)) b.0 in
    let e = both_true (form.deltas && not earlier.late) (nat_lt device (2 ^ 16)) c.0 in
    let k = both_true (changes_part kind) (is_kind kind) a.1 in
    record { allowed = e.0; device_fits = ltb-true device (2 ^ 16) e.1; track_fits = ltb-true track (2 ^ 32) c.1; has_slot = b.1; part = k.0; is = k.1 }

-- ---- each kind of item

image_fields : (form : Form) (earlier : Earlier) (place device track : ℕ) (recs : List Rec) (rest : List ℕ) → IsImageItem form earlier device track recs
    → image_item_at form earlier (at_place place (to_be_bytes w16 device ++ (to_be_bytes w32 track ++ (image recs ++ rest)))) ≡ Ok (Image device track recs, at_place (place + 2 + 4 + length (image recs)) rest)
unfolding image_item_at track_at
image_fields form earlier place device track recs rest is =
    let one = number_again w16 (2 ^ 16) wide16 any place device (to_be_bytes w32 track ++ (image recs ++ rest)) is.device_fits refl in
    let two = number_again w32 (2 ^ 32) wide32 (may_draw form earlier device) (place + 2) track (image recs ++ rest) is.track_fits is.drawable in
    let three = image_back (place + 2 + 4) recs rest is.are in
    rw (one, two, three) refl

delta_fields : (form : Form) (place device track : ℕ) (kind : Kind) (rest : List ℕ) → device < 2 ^ 16 → track < 2 ^ 32 → form.has_slot device track ≡ true → changes_part kind ≡ true → is_kind kind ≡ true
    → delta_item_at form (at_place place (to_be_bytes w16 device ++ (to_be_bytes w32 track ++ (delta_spelling kind ++ rest)))) ≡ Ok (Delta device track kind, at_place (place + 2 + 4 + length (delta_spelling kind)) rest)
unfolding delta_item_at track_at
delta_fields form place device track kind rest device_fits track_fits has part is =
    let one = number_again w16 (2 ^ 16) wide16 any place device (to_be_bytes w32 track ++ (delta_spelling kind ++ rest)) device_fits refl in
    let two = number_again w32 (2 ^ 32) wide32 (form.has_slot device) (place + 2) track (delta_spelling kind ++ rest) track_fits has in
    let three = changes_again (place + 2 + 4) kind rest part is in
    rw (one, two, three) refl

pair_fields : (version place : ℕ) (row : PairRow) (rest : List ℕ) → is_version_row version row ≡ true → pair_item_at version (at_place place (row_text version row ++ rest)) ≡ Ok (Pair version row, at_place (place + row_length version) rest)
unfolding pair_item_at
pair_fields version place row rest is =
    let one = bytes_again (row_length version) any place (row_text version row) rest (text_length version row is) refl in
    let two = version_back version row is in
    rw (one, two) refl

gone_fields : (place device : ℕ) (rest : List ℕ) → device < 2 ^ 16 → gone_item_at (at_place place (to_be_bytes w16 device ++ rest)) ≡ Ok (Gone device, at_place (place + 2) rest)
unfolding gone_item_at
gone_fields place device rest lt = rw (number_again w16 (2 ^ 16) wide16 any place device rest lt refl) refl

tag_early : (deltas late : Bool) → not late ≡ true → is_tag deltas late 1 ≡ true
tag_early deltas true e = absurd cc
tag_early deltas false e = refl

tag_delta : (deltas late : Bool) → (deltas && not late) ≡ true → is_tag deltas late 2 ≡ true
tag_delta true true e = absurd cc
tag_delta true false e = refl
tag_delta false late e = absurd cc

-- each after its tag
image_tagged : (form : Form) (earlier : Earlier) (place : ℕ) (fields : List ℕ) → not earlier.late ≡ true → item_at form earlier (at_place place (1 ∷ fields)) ≡ image_item_at form earlier (at_place (place + 1) fields)
unfolding item_at
image_tagged form earlier place fields early = rw (byte_again (is_tag form.deltas earlier.late) place 1 fields (tag_early form.deltas earlier.late early)) refl

delta_tagged : (form : Form) (earlier : Earlier) (place : ℕ) (fields : List ℕ) → (form.deltas && not earlier.late) ≡ true → item_at form earlier (at_place place (2 ∷ fields)) ≡ delta_item_at form (at_place (place + 1) fields)
unfolding item_at
delta_tagged form earlier place fields allowed = rw (byte_again (is_tag form.deltas earlier.late) place 2 fields (tag_delta form.deltas earlier.late allowed)) refl

narrow_tagged : (form : Form) (earlier : Earlier) (place : ℕ) (fields : List ℕ) → item_at form earlier (at_place place (3 ∷ fields)) ≡ pair_item_at 1 (at_place (place + 1) fields)
unfolding item_at
narrow_tagged form earlier place fields = rw (byte_again (is_tag form.deltas earlier.late) place 3 fields refl) refl

wide_tagged : (form : Form) (earlier : Earlier) (place : ℕ) (fields : List ℕ) → item_at form earlier (at_place place (5 ∷ fields)) ≡ pair_item_at 2 (at_place (place + 1) fields)
unfolding item_at
wide_tagged form earlier place fields = rw (byte_again (is_tag form.deltas earlier.late) place 5 fields refl) refl

pair_tagged : (version : ℕ) (form : Form) (earlier : Earlier) (place : ℕ) (fields : List ℕ) → is_version version ≡ true → item_at form earlier (at_place place (pair_tag version ∷ fields)) ≡ pair_item_at version (at_place (place + 1) fields)
pair_tagged version form earlier place fields known = elim (one_or_two version known) [
  | inl one ↦ subst (λ v. item_at form earlier (at_place place (pair_tag v ∷ fields)) ≡ pair_item_at v (at_place (place + 1) fields)) (sym one) (narrow_tagged form earlier place fields)
  | inr two ↦ subst (λ v. item_at form earlier (at_place place (pair_tag v ∷ fields)) ≡ pair_item_at v (at_place (place + 1) fields)) (sym two) (wide_tagged form earlier place fields)
]

gone_tagged : (form : Form) (earlier : Earlier) (place : ℕ) (fields : List ℕ) → item_at form earlier (at_place place (4 ∷ fields)) ≡ gone_item_at (at_place (place + 1) fields)
unfolding item_at
gone_tagged form earlier place fields = rw (byte_again (is_tag form.deltas earlier.late) place 4 fields refl) refl

three_parts : (a b c rest : List ℕ) → (a ++ b ++ c) ++ rest ≡ a ++ (b ++ (c ++ rest))
three_parts a b c rest = simp append_assoc refl

-- An item that keeps the rules is read back, whatever follows.
pub items_again : (form : Form) (earlier : Earlier) (place : ℕ) (item : Item) (rest : List ℕ) → IsTrue (is_item form earlier item)
    → item_at form earlier (record { place = place; bytes = item_spelling item ++ rest }) ≡ Ok (item, record { place = place + length (item_spelling item); bytes = rest })
items_again form earlier place (Image device track recs) rest is =
    let rules = image_rules form earlier device track recs is in
    let front = to_be_bytes w16 device ++ to_be_bytes w32 track in
    image_tagged form earlier place ((front ++ image recs) ++ rest) rules.early
    ∙ ap (λ (t : List ℕ). image_item_at form earlier (at_place (place + 1) t)) (three_parts (to_be_bytes w16 device) (to_be_bytes w32 track) (image recs) rest)
    ∙ image_fields form earlier (place + 1) device track recs rest rules ∙ ap (λ n. Ok (Image device track recs, at_place n rest)) (omega (arith, length-append front (image recs)))
items_again form earlier place (Delta device track kind) rest is =
    let rules = delta_rules form earlier device track kind is in
    let front = to_be_bytes w16 device ++ to_be_bytes w32 track in
    delta_tagged form earlier place ((front ++ delta_spelling kind) ++ rest) rules.allowed
    ∙ ap (λ (t : List ℕ). delta_item_at form (at_place (place + 1) t)) (three_parts (to_be_bytes w16 device) (to_be_bytes w32 track) (delta_spelling kind) rest)
    ∙ delta_fields form (place + 1) device track kind rest rules.device_fits rules.track_fits rules.has_slot rules.part rules.is
    ∙ ap (λ n. Ok (Delta device track kind, at_place n rest)) (omega (arith, length-append front (delta_spelling kind)))
items_again form earlier place (Pair version row) rest is =
    let parts = both_true (is_version version) (is_version_row version row) is in
    pair_tagged version form earlier place (row_text version row ++ rest) parts.0 ∙ pair_fields version (place + 1) row rest parts.1
    ∙ ap (λ n. Ok (Pair version row, at_place n rest)) (omega (arith, text_length version row parts.1))
items_again form earlier place (Gone device) rest is =
    gone_tagged form earlier place (to_be_bytes w16 device ++ rest) ∙ gone_fields (place + 1) device rest (ltb-true device (2 ^ 16) is) ∙ ap (λ n. Ok (Gone device, at_place n rest)) (omega arith)

-- ---- bodies

-- the first item and what is read after it
pub first_is : (turns : ℕ) (form : Form) (earlier : Earlier) (left : Left) (item : Item) (next : Left) → 1 ≤ length left.bytes → item_at form earlier left ≡ Ok (item, next)
    → items_from (suc turns) form earlier left ≡ record { good = item ∷ (items_from turns form (earlier_after item earlier) next).good; bad = (items_from turns form (earlier_after item earlier) next).bad }
unfolding items_from
first_is turns form earlier left item next some is = grind (arith, some, is)

pub some_bytes : (item : Item) → 1 ≤ length (item_spelling item)
some_bytes (Image device track recs) = omega arith
some_bytes (Delta device track kind) = omega arith
some_bytes (Pair version row) = omega arith
some_bytes (Gone device) = omega arith

pub body_again : (turns : ℕ) (form : Form) (earlier : Earlier) (place : ℕ) (items : List Item) → are_items_after form earlier items ≡ true → length (body_spelling items) ≤ turns
    → items_from turns form earlier (at_place place (body_spelling items)) ≡ record { good = items; bad = None }
unfolding items_from
body_again zero form earlier place [] are le = refl
body_again (suc turns) form earlier place [] are le = refl
body_again zero form earlier place (i ∷ items) are le = absurd (omega (arith, le, some_bytes i, length-append (item_spelling i) (body_spelling items)))
body_again (suc turns) form earlier place (i ∷ items) are le =
    let parts = both_true (is_item form earlier i) (are_items_after form (earlier_after i earlier) items) are in
    let len = length-append (item_spelling i) (body_spelling items) in
    let rest = body_again turns form (earlier_after i earlier) (place + length (item_spelling i)) items parts.1 (omega (arith, le, len, some_bytes i)) in
    first_is turns form earlier (at_place place (item_spelling i ++ body_spelling items)) i (at_place (place + length (item_spelling i)) (body_spelling items)) (omega (arith, len, some_bytes i)) (items_again form earlier place i (body_spelling items) parts.0)
    ∙ ap (λ (r : Items). record { good = i ∷ r.good; bad = r.bad }) rest

-- The items of a body that keeps the rules are read back.
pub bodies_again : (form : Form) (place : ℕ) (items : List Item) → AreItems form items → items_at form place (body_spelling items) ≡ record { good = items; bad = None }
bodies_again form place items are = body_again (length (body_spelling items)) form none_earlier place items are (omega arith)
