-- Reading the items of a group one after another, up to the first that breaks its rules.
use Rattle.std.specs.Prelude.{ℕ, zero, suc, ◌==◌, ◌&&◌, ◌||◌, not, List, [], ◌∷◌, length, Bool, Option, Some, None, Result, Ok, Err, if◌then◌else◌}
use Rattle.std.specs.Int.{w8, w16, w32}
use Rattle.tod_stamp.specs.Fields.{◌>>=◌, Left, Bad, bytes_at, number_at, any}
use Rattle.tod_stamp.specs.Fields.Bad.{Broken}
use Rattle.ckd_track.specs.declared.rec.Rec.{Rec}
use Rattle.ckd_track.specs.Images.{image_at}
use Rattle.pair_table.specs.declared.row.PairRow.{PairRow}
use Rattle.pair_table.specs.Rows.{row_by, row_length}
use Rattle.xrc_journal.specs.Items.{Item, Form, Earlier, none_earlier, earlier_after, may_draw}
use Rattle.xrc_journal.specs.Deltas.{as_body_field, change_at}
use Rattle.xrc_journal.specs.Items.Item.{Image, Delta, Pair, Gone}

-- ---- one item

-- a device and a track of it
unfoldable pub track_at : (rule : ℕ → ℕ → Bool) → Left → Result ((ℕ × ℕ) × Left) Bad
track_at rule left = do
  device ← number_at w16 any left
  track ← number_at w32 (rule device.0) device.1
  Ok ((device.0, track.0), track.1)

-- an image as one field
abbrev pub body_image_field : Left → Result (List Rec × Left) Bad
body_image_field left = as_body_field left (image_at left.bytes)

-- a row as one field
abbrev pub row_or : Left → Option PairRow → Result PairRow Bad
row_or left (Some row) = Ok row
row_or left None = Err (Broken left.place)

unfoldable pub image_item_at : Form → Earlier → Left → Result (Item × Left) Bad
image_item_at form earlier left = do
  at ← track_at (may_draw form earlier) left
  recs ← body_image_field at.1
  Ok (Image at.0.0 at.0.1 recs.0, recs.1)

unfoldable pub delta_item_at : Form → Left → Result (Item × Left) Bad
delta_item_at form left = do
  at ← track_at form.has_slot left
  kind ← change_at at.1
  Ok (Delta at.0.0 at.0.1 kind.0, kind.1)

unfoldable pub pair_item_at : (version : ℕ) → Left → Result (Item × Left) Bad
pair_item_at version left = do
  text ← bytes_at (row_length version) any left
  row ← row_or left (row_by version text.0)
  Ok (Pair version row, text.1)

unfoldable pub gone_item_at : Left → Result (Item × Left) Bad
gone_item_at left = do
  device ← number_at w16 any left
  Ok (Gone device.0, device.1)

-- 1 is the tag of an image, 2 that of a change, 3 and 5 those of a pair in version 1 and in version 2, and 4 that of a device whose row goes.
abbrev pub is_tag : (deltas late : Bool) → ℕ → Bool
is_tag deltas late tag = (tag == 1 && not late) || (tag == 2 && (deltas && not late)) || tag == 3 || tag == 4 || tag == 5

unfoldable pub item_at : Form → Earlier → Left → Result (Item × Left) Bad
item_at form earlier left = do
  tag ← number_at w8 (is_tag form.deltas earlier.late) left
  if tag.0 == 1 then image_item_at form earlier tag.1
      else if tag.0 == 2 then delta_item_at form tag.1
      else if tag.0 == 3 then pair_item_at 1 tag.1
      else if tag.0 == 5 then pair_item_at 2 tag.1
      else gone_item_at tag.1

-- ---- the items of a body

-- the items up to the first that breaks its rules, and the place of that one's first byte
pub record Items : Type 0 where
  pub good : List Item
  pub bad : Option ℕ

abbrev pub no_items : Items
no_items = record { good = []; bad = None }

-- a first item and those after it
abbrev pub first_and_rest : (place : ℕ) → Result (Item × Left) Bad → (Item × Left → Items) → Items
first_and_rest place (Ok first) rest = record { good = first.0 ∷ (rest first).good; bad = (rest first).bad }
first_and_rest place (Err bad) rest = record { good = []; bad = Some place }

-- Each item takes a byte at least, so as many turns as there are bytes reach the end.
unfoldable pub items_from : (turns : ℕ) → Form → Earlier → Left → Items
items_from zero form earlier left = no_items
items_from (suc turns) form earlier left = if length left.bytes == 0 then no_items else first_and_rest left.place (item_at form earlier left) (λ i. items_from turns form (earlier_after i.0 earlier) i.1)

-- the items of a body, whose first byte stands at a place
abbrev pub items_at : Form → (place : ℕ) → List ℕ → Items
items_at form place bytes = items_from (length bytes) form none_earlier (record { place = place; bytes = bytes })
