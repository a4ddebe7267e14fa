-- The length of the item that bytes begin with, kind by kind.
use Rattle.std.proofs.Common.{◌≡◌, ◌≢◌, inl, inr, ℕ, ◌+◌, ◌-◌, ◌<◌, ◌≤◌, slice_index, Bool, true, false, not, cond, nat_eq, ◌&&◌, ◌||◌, List, [], ◌∷◌, length, take, drop, Option, Some, None, Result, Ok, Err, refl, sym, ap, ◌∙◌, arith, length-drop}
use Rattle.std.specs.Int.{w16, w32, from_be_bytes}
use Rattle.std.proofs.lemmas.Bool.{cases_lt, le-ltb, ne_eqb}
use Rattle.tod_stamp.specs.Fields.{◌>>=◌, IsBytes, Left, Bad, bytes_at, number_at, any}
use Rattle.tod_stamp.specs.Fields.Bad.{Cut, Broken}
use Rattle.tod_stamp.proofs.FieldLaws.{at_place, IsBytes-take, IsBytes-drop}
use Rattle.ckd_track.specs.declared.rec.Rec.{Rec}
use Rattle.ckd_track.specs.declared.fault.ImageError.{ImageError}
use Rattle.ckd_track.specs.Images.{image, image_at, longest_image}
use Rattle.ckd_track.proofs.ImageLaws.{image_taken}
use Rattle.ckd_track.proofs.Parts.{length-image}
use Rattle.std.proofs.lemmas.List.{take_all}
use Rattle.pair_table.specs.declared.row.PairRow.{PairRow}
use Rattle.pair_table.specs.Rows.{row_by, row_length}
use Rattle.xrc_journal.specs.Items.{Form, Earlier, may_draw, item_spelling}
use Rattle.xrc_journal.specs.Items.Item.{Image, Pair}
use Rattle.xrc_journal.specs.Deltas.{as_body_field}
use Rattle.xrc_journal.specs.Reading.{track_at, row_or, image_item_at, delta_item_at, pair_item_at, gone_item_at, is_tag, item_at}
use Rattle.xrc_journal.specs.Answers.{length_of}
use Rattle.xrc_journal.proofs.Steps.{number_step, number_cut, bytes_cut}
use Rattle.pair_table.proofs.Versions.{text_length, version_keeps}

-- ---- a gone device

pub gone_cut : (p : ℕ) (fields : List ℕ) → length fields < 2 → length_of (gone_item_at (at_place p fields)) ≡ None
unfolding gone_item_at
gone_cut p fields short = rw (number_cut w16 any p fields short) refl

pub gone_whole : (p : ℕ) (fields : List ℕ) → 2 ≤ length fields → length_of (gone_item_at (at_place p fields)) ≡ Some 3
unfolding gone_item_at
gone_whole p fields long = rw (number_step w16 any p 0 fields long) refl

-- ---- a row

pub pair_cut : (version p : ℕ) (fields : List ℕ) → length fields < row_length version → length_of (pair_item_at version (at_place p fields)) ≡ None
unfolding pair_item_at
pair_cut version p fields short = rw (bytes_cut (row_length version) any p fields short) refl

-- the length of a row's item, where the row is read
abbrev row_length_of : (version : ℕ) → Option PairRow → Option ℕ
row_length_of version (Some row) = Some (length (item_spelling (Pair version row)))
row_length_of version None = None

pair_read : (version p : ℕ) (fields : List ℕ) → row_length version ≤ length fields → length_of (pair_item_at version (at_place p fields)) ≡ row_length_of version (row_by version (take (row_length version) fields))
unfolding pair_item_at bytes_at
pair_read version p fields long = rw (le-ltb (length fields) (row_length version) long) (by_row (row_by version (take (row_length version) fields)))
  where
    by_row : (r : Option PairRow) → length_of (row_or (at_place p fields) r >>= (λ row. Ok (Pair version row, at_place (p + row_length version) (drop (row_length version) fields)))) ≡ row_length_of version r
    by_row (Some row) = refl
    by_row None = refl

pub pair_none : (version p : ℕ) (fields : List ℕ) → row_length version ≤ length fields → row_by version (take (row_length version) fields) ≡ None → length_of (pair_item_at version (at_place p fields)) ≡ None
pair_none version p fields long none = pair_read version p fields long ∙ ap (row_length_of version) none

pub pair_whole : (version p : ℕ) (fields : List ℕ) (row : PairRow) → IsBytes fields → row_length version ≤ length fields → row_by version (take (row_length version) fields) ≡ Some row
    → length_of (pair_item_at version (at_place p fields)) ≡ Some (1 + row_length version)
pair_whole version p fields row fits long is =
    let text = take (row_length version) fields in
    let len = text_length version row (version_keeps version text row (IsBytes-take (row_length version) fields fits) is) in
    let total : length (item_spelling (Pair version row)) ≡ 1 + row_length version = omega (arith, len) in
    pair_read version p fields long ∙ ap (row_length_of version) is ∙ ap (λ (n : ℕ). Some n) total

-- ---- an image

-- the device and the track at the front
abbrev pub device_in : List ℕ → ℕ
device_in fields = from_be_bytes w16 (take 2 fields)

abbrev pub track_in : List ℕ → ℕ
track_in fields = from_be_bytes w32 (take 4 (drop 2 fields))

-- the length of an image's item, where the image is read
abbrev image_length_of : (device track : ℕ) → Result (List Rec × List ℕ) ImageError → Option ℕ
image_length_of device track (Ok found) = Some (length (item_spelling (Image device track found.0)))
image_length_of device track (Err bad) = None

module _ (form : Form) (earlier : Earlier) (p : ℕ) (fields : List ℕ) where
  no_track : length fields < 6 → (rule : ℕ → ℕ → Bool) → (bad : Bad) × (track_at rule (at_place p fields) ≡ Err bad)
  unfolding track_at
  no_track short rule = elim (cases_lt (length fields) 2) [
    | inl none ↦ (Cut p, rw (number_cut w16 any p fields none) refl)
    | inr some ↦ (
      Cut (p + 2),
      rw (number_step w16 any p 0 fields some, number_cut w32 (rule (device_in fields)) (p + 2) (drop 2 fields) (omega (arith, short, length-drop 2 fields))) refl,
    )
  ]

  a_track : 6 ≤ length fields → (rule : ℕ → ℕ → Bool)
      → track_at rule (at_place p fields) ≡ cond (rule (device_in fields) (track_in fields)) (Ok ((device_in fields, track_in fields), at_place (p + 2 + 4) (drop 6 fields))) (Err (Broken (p + 2)))
  unfolding track_at
  a_track long rule =
      rw (number_step w16 any p 0 fields (omega (arith, long)), number_step w32 (rule (device_in fields)) (p + 2) 2 fields long) (by_rule (rule (device_in fields) (track_in fields)))
    where
      by_rule : (b : Bool) → (let read : Result (ℕ × Left) Bad = cond b (Ok (track_in fields, at_place (p + 2 + 4) (drop 6 fields))) (Err (Broken (p + 2))) in let then : ℕ × Left → Result ((ℕ × ℕ) × Left) Bad = λ t. Ok ((device_in fields, t.0), t.1) in read >>= then) ≡ cond b (Ok ((device_in fields, track_in fields), at_place (p + 2 + 4) (drop 6 fields))) (Err (Broken (p + 2)))
      by_rule true = refl
      by_rule false = refl

  pub image_cut : length fields < 6 → length_of (image_item_at form earlier (at_place p fields)) ≡ None
  unfolding image_item_at
  image_cut short = let none = no_track short (may_draw form earlier) in rw none.1 refl

  pub image_barred : 6 ≤ length fields → may_draw form earlier (device_in fields) (track_in fields) ≡ false → length_of (image_item_at form earlier (at_place p fields)) ≡ None
  unfolding image_item_at
  image_barred long barred = rw (a_track long (may_draw form earlier), barred) refl

  image_read : 6 ≤ length fields → may_draw form earlier (device_in fields) (track_in fields) ≡ true → length_of (image_item_at form earlier (at_place p fields)) ≡ image_length_of (device_in fields) (track_in fields) (image_at (drop 6 fields))
  unfolding image_item_at
  image_read long may = rw (a_track long (may_draw form earlier), may) (by_image (image_at (drop 6 fields)))
    where
      by_image : (r : Result (List Rec × List ℕ) ImageError) → length_of (as_body_field (at_place (p + 2 + 4) (drop 6 fields)) r >>= (λ recs. Ok (Image (device_in fields) (track_in fields) recs.0, recs.1))) ≡ image_length_of (device_in fields) (track_in fields) r
      by_image (Ok found) = refl
      by_image (Err bad) = refl

  pub image_none : 6 ≤ length fields → may_draw form earlier (device_in fields) (track_in fields) ≡ true → (bad : ImageError) → image_at (drop 6 fields) ≡ Err bad → length_of (image_item_at form earlier (at_place p fields)) ≡ None
  image_none long may bad is = image_read long may ∙ ap (λ (r : Result (List Rec × List ℕ) ImageError). image_length_of (device_in fields) (track_in fields) r) is

  pub image_whole : 6 ≤ length fields → may_draw form earlier (device_in fields) (track_in fields) ≡ true → (recs : List Rec) (rest : List ℕ) (n : ℕ) → image_at (drop 6 fields) ≡ Ok (recs, rest) → n ≡ length (image recs)
      → length_of (image_item_at form earlier (at_place p fields)) ≡ Some (7 + n)
  image_whole long may recs rest n is len = image_read long may ∙ ap (λ (r : Result (List Rec × List ℕ) ImageError). image_length_of (device_in fields) (track_in fields) r) is ∙ ap (λ (k : ℕ). Some k) (omega (arith, len))

-- the same of the numbers that were read, and of the rest as a slice
module _ (form : Form) (earlier : Earlier) (p : ℕ) (fields : List ℕ) (device track : ℕ) (long : 6 ≤ length fields) (device_is : device ≡ device_in fields) (track_is : track ≡ track_in fields) where
  pub barred_by : may_draw form earlier device track ≡ false → length_of (image_item_at form earlier (at_place p fields)) ≡ None
  barred_by barred = image_barred form earlier p fields long (sym (λ i. may_draw form earlier (device_is i) (track_is i)) ∙ barred)

  rest_is : take (length fields - 6) (drop 6 fields) ≡ drop 6 fields
  rest_is = take_all (length fields - 6) (drop 6 fields) (omega (arith, length-drop 6 fields))

  pub none_by : may_draw form earlier device track ≡ true → (bad : ImageError) → image_at (take (length fields - 6) (drop 6 fields)) ≡ Err bad → length_of (image_item_at form earlier (at_place p fields)) ≡ None
  none_by may bad is = image_none form earlier p fields long (sym (λ i. may_draw form earlier (device_is i) (track_is i)) ∙ may) bad (ap (λ (l : List ℕ). image_at l) (sym rest_is) ∙ is)

  pub whole_by : may_draw form earlier device track ≡ true → (recs : List Rec) (rest : List ℕ) (n : ℕ) → image_at (take (length fields - 6) (drop 6 fields)) ≡ Ok (recs, rest) → n ≡ length (image recs) → length_of (image_item_at form earlier (at_place p fields)) ≡ Some (7 + n)
  whole_by may recs rest n is len = image_whole form earlier p fields long (sym (λ i. may_draw form earlier (device_is i) (track_is i)) ∙ may) recs rest n (ap (λ (l : List ℕ). image_at l) (sym rest_is) ∙ is) len

pub short_image : (bytes : List ℕ) (recs : List Rec) (rest : List ℕ) → IsBytes bytes → image_at (take (length bytes - 6) (drop 6 bytes)) ≡ Ok (recs, rest) → length (image recs) ≤ longest_image
short_image bytes recs rest fits is = length-image recs (image_taken (take (length bytes - 6) (drop 6 bytes)) rest recs (IsBytes-take (length bytes - 6) (drop 6 bytes) (IsBytes-drop 6 bytes fits)) is).0

-- ---- after a tag

module _ (form : Form) (earlier : Earlier) (no_deltas : form.deltas ≡ false) (p : ℕ) (fields : List ℕ) where
  tagged : (tag : ℕ) (b : Bool) → is_tag form.deltas earlier.late tag ≡ b
      → length_of (item_at form earlier (at_place p (tag ∷ fields)))
      ≡ cond b (length_of (cond (nat_eq tag 1) (image_item_at form earlier (at_place (p + 1) fields)) (cond (nat_eq tag 2) (delta_item_at form (at_place (p + 1) fields)) (cond (nat_eq tag 3) (pair_item_at 1 (at_place (p + 1) fields)) (cond (nat_eq tag 5) (pair_item_at 2 (at_place (p + 1) fields)) (gone_item_at (at_place (p + 1) fields))))))) None
  unfolding item_at number_at
  tagged tag b is = rw (le-ltb (length (tag ∷ fields)) 1 (omega arith), is) (by_rule b)
    where
      by_rule : (b : Bool) → length_of (let read : Result (ℕ × Left) Bad = cond b (Ok (tag, at_place (p + 1) fields)) (Err (Broken p)) in read >>= (λ t. cond (nat_eq t.0 1) (image_item_at form earlier t.1) (cond (nat_eq t.0 2) (delta_item_at form t.1) (cond (nat_eq t.0 3) (pair_item_at 1 t.1) (cond (nat_eq t.0 5) (pair_item_at 2 t.1) (gone_item_at t.1))))))
          ≡ cond b (length_of (cond (nat_eq tag 1) (image_item_at form earlier (at_place (p + 1) fields)) (cond (nat_eq tag 2) (delta_item_at form (at_place (p + 1) fields)) (cond (nat_eq tag 3) (pair_item_at 1 (at_place (p + 1) fields)) (cond (nat_eq tag 5) (pair_item_at 2 (at_place (p + 1) fields)) (gone_item_at (at_place (p + 1) fields))))))) None
      by_rule true = refl
      by_rule false = refl

  late_image : earlier.late ≡ true → is_tag form.deltas earlier.late 1 ≡ false
  late_image late = (λ i. is_tag (no_deltas i) (late i) 1)

  pub tag_late : earlier.late ≡ true → length_of (item_at form earlier (at_place p (1 ∷ fields))) ≡ None
  tag_late late = tagged 1 false (late_image late)

  pub tag_image : earlier.late ≡ false → length_of (item_at form earlier (at_place p (1 ∷ fields))) ≡ length_of (image_item_at form earlier (at_place (p + 1) fields))
  tag_image early = tagged 1 true (λ i. is_tag (no_deltas i) (early i) 1)

  pub tag_narrow : length_of (item_at form earlier (at_place p (3 ∷ fields))) ≡ length_of (pair_item_at 1 (at_place (p + 1) fields))
  tag_narrow = tagged 3 true refl

  pub tag_pair : length_of (item_at form earlier (at_place p (5 ∷ fields))) ≡ length_of (pair_item_at 2 (at_place (p + 1) fields))
  tag_pair = tagged 5 true refl

  pub tag_gone : length_of (item_at form earlier (at_place p (4 ∷ fields))) ≡ length_of (gone_item_at (at_place (p + 1) fields))
  tag_gone = tagged 4 true refl

  pub tag_none : (tag : ℕ) → tag ≢ 1 → tag ≢ 3 → tag ≢ 4 → tag ≢ 5 → length_of (item_at form earlier (at_place p (tag ∷ fields))) ≡ None
  tag_none tag one three four five = tagged tag false (rw (no_deltas, ne_eqb tag 1 one, ne_eqb tag 3 three, ne_eqb tag 4 four, ne_eqb tag 5 five) (by_two (nat_eq tag 2)))
    where
      by_two : (two : Bool) → ((false && not earlier.late) || (two && (false && not earlier.late)) || false || false || false) ≡ false
      by_two true = refl
      by_two false = refl

-- bytes that were split after their tag
pub split_tag : (bytes front fields : List ℕ) (tag : ℕ) → 1 ≤ length bytes → front ≡ take 1 bytes → fields ≡ drop 1 bytes → slice_index front 0 ≡ tag → bytes ≡ tag ∷ fields
split_tag [] front fields tag some first rest is = absurd (omega (arith, some))
split_tag (b ∷ bytes) front fields tag some first rest is = let same : b ≡ tag = ap (λ (l : List ℕ). slice_index l 0) (sym first) ∙ is in (λ i. same i ∷ rest' i)
  where
    rest' : bytes ≡ fields
    rest' = sym rest
