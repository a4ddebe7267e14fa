-- The items of a group: their one spelling, and the rules that each keeps after the items before it.
use Rattle.std.specs.Prelude.{ℕ, ◌^◌, ◌==◌, ◌&&◌, ◌||◌, not, List, [], ◌∷◌, ◌++◌, Bool, true, false, nat_lt, nat_le, IsTrue, if◌then◌else◌}
use Rattle.tod_stamp.specs.Fields.{is_version}
use Rattle.std.specs.List.{flat_map, list_any}
use Rattle.std.specs.Int.{w16, w32, to_be_bytes}
use Rattle.crash_plant.specs.declared.device.Device.TheVariants.{Volume}
use Rattle.crash_plant.specs.Moments.{PlantState}
use Rattle.ckd_track.specs.declared.rec.Rec.{Rec}
use Rattle.ckd_track.specs.declared.write.Kind.{Kind}
use Rattle.ckd_track.specs.Tracks.{is_track}
use Rattle.ckd_track.specs.Effects.{is_kind}
use Rattle.ckd_track.specs.Images.{image}
use Rattle.ckd_track.specs.SlotPlaces.{slot_end}
use Rattle.ckd_track.specs.Entries.{delta_spelling, changes_part}
use Rattle.pair_table.specs.declared.row.PairRow.{PairRow}
use Rattle.pair_table.specs.Rows.{is_version_row, row_text}

-- What a group says of a track, or of the rows: a whole track, a change of a track, a pair's row in either version, or a device whose row
-- goes.
pub data Item : Type 0 where
  Image : (device : ℕ) → (track : ℕ) → (recs : List Rec) → Item
  Delta : (device : ℕ) → (track : ℕ) → (kind : Kind) → Item
  Pair : (version : ℕ) → (row : PairRow) → Item
  Gone : (device : ℕ) → Item

-- ---- the spelling

-- the tag of a pair's row, which tells its version
abbrev pub pair_tag : (version : ℕ) → ℕ
pair_tag version = if version == 1 then 3 else 5

abbrev pub item_spelling : Item → List ℕ
item_spelling (Image device track recs) = 1 ∷ to_be_bytes w16 device ++ to_be_bytes w32 track ++ image recs
item_spelling (Delta device track kind) = 2 ∷ to_be_bytes w16 device ++ to_be_bytes w32 track ++ delta_spelling kind
item_spelling (Pair version row) = pair_tag version ∷ row_text version row
item_spelling (Gone device) = 4 ∷ to_be_bytes w16 device

abbrev pub body_spelling : List Item → List ℕ
body_spelling items = flat_map item_spelling items

-- ---- the rules

-- What the format allows: changes of tracks beside images, and the tracks of which an item may be.
pub record Form : Type 0 where
  pub deltas : Bool
  pub has_slot : (device track : ℕ) → Bool

-- images alone, of any track of any device
abbrev pub anywhere : Form
anywhere = record { deltas = false; has_slot = λ device track. true }

-- whether a device of this length has the whole slot of a track
abbrev pub is_within : (len track : ℕ) → Bool
is_within len track = nat_le (slot_end track) len

-- images alone, of the tracks whose whole slots lie in the volumes of a plant
abbrev pub form_of : PlantState → Form
form_of plant = record { deltas = false; has_slot = λ device track. nat_lt device plant.volumes && is_within (plant.lengths (Volume device)) track }

-- what the items before one say: whether one of them is of a row, and the tracks that have an image
pub record Earlier : Type 0 where
  pub late : Bool
  pub drawn : List (ℕ × ℕ)

abbrev pub none_earlier : Earlier
none_earlier = record { late = false; drawn = [] }

abbrev pub earlier_after : Item → Earlier → Earlier
earlier_after (Image device track recs) earlier = record { late = earlier.late; drawn = (device, track) ∷ earlier.drawn }
earlier_after (Delta device track kind) earlier = earlier
earlier_after (Pair version row) earlier = record { late = true; drawn = earlier.drawn }
earlier_after (Gone device) earlier = record { late = true; drawn = earlier.drawn }

-- the same after a list of items
abbrev pub earlier_after_all : List Item → Earlier → Earlier
earlier_after_all [] earlier = earlier
earlier_after_all (i ∷ items) earlier = earlier_after_all items (earlier_after i earlier)

abbrev pub is_drawn : List (ℕ × ℕ) → (device track : ℕ) → Bool
is_drawn drawn device track = list_any (λ t. t.0 == device && t.1 == track) drawn

-- Without changes, a device's track has one image at most.
abbrev pub may_draw : Form → Earlier → (device track : ℕ) → Bool
may_draw form earlier device track = form.has_slot device track && (form.deltas || not (is_drawn earlier.drawn device track))

-- Items of tracks stand before those of rows.
abbrev pub is_item : Form → Earlier → Item → Bool
is_item form earlier (Image device track recs) = not earlier.late && nat_lt device (2 ^ 16) && nat_lt track (2 ^ 32) && may_draw form earlier device track && is_track recs
is_item form earlier (Delta device track kind) = (form.deltas && not earlier.late) && nat_lt device (2 ^ 16) && nat_lt track (2 ^ 32) && form.has_slot device track && (changes_part kind && is_kind kind)
is_item form earlier (Pair version row) = is_version version && is_version_row version row
is_item form earlier (Gone device) = nat_lt device (2 ^ 16)

abbrev pub are_items_after : Form → Earlier → List Item → Bool
are_items_after form earlier [] = true
are_items_after form earlier (i ∷ items) = is_item form earlier i && are_items_after form (earlier_after i earlier) items

-- The items are those of a group.
abbrev pub AreItems : Form → List Item → Type 0
AreItems form items = IsTrue (are_items_after form none_earlier items)
