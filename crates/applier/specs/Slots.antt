-- The slots of the tracks of which items are, what they hold, and what may differ outside of them.
use Rattle.std.specs.Prelude.{◌≡◌, ◌≤◌, ◌⊎◌, ◌+◌, ℕ, List, [], length, slice_range, Option, Some, None}
use Rattle.ckd_track.specs.declared.rec.Rec.{Rec}
use Rattle.ckd_track.specs.Images.{image}
use Rattle.ckd_track.specs.SlotPlaces.{slot_place, slot_end, slot_track}
use Rattle.xrc_journal.specs.Items.{Item}
use Rattle.xrc_journal.specs.Contents.{HasItem, content_through}

-- A range of bytes meets no slot of the device's tracks of which an item is.
abbrev pub IsApart : (device : ℕ) → List Item → (from to : ℕ) → Type 0
IsApart device items from to = (x : ℕ) → HasItem device x items → (to ≤ slot_place x) ⊎ (slot_end x ≤ from)

-- Only these slots may differ.
pub record DiffersInSlots (device : ℕ) (items : List Item) (old new : List ℕ) : Type 0 where
  pub size : length new ≡ length old
  pub others : (from to : ℕ) → from ≤ to → IsApart device items from to → slice_range new from to ≡ slice_range old from to

-- The slot of a track begins with the image of this track.
abbrev pub BeginsWithTrack : (volume : List ℕ) → (track : ℕ) → Option (List Rec) → Type 0
BeginsWithTrack volume x (Some recs) = slice_range volume (slot_place x) (slot_place x + length (image recs)) ≡ image recs
BeginsWithTrack volume x None = ⊥

-- But for the tracks of some items, each whole slot holds what the items leave of its track, and begins with the image of that
-- where an item is of the track.
pub record HoldsContentBut (but : List Item) (device : ℕ) (items : List Item) (old new : List ℕ) : Type 0 where
  pub content : (x : ℕ) → slot_end x ≤ length old → ¬ HasItem device x but → slot_track new x ≡ content_through device x items (slot_track old x)
  pub begins : (x : ℕ) → HasItem device x items → ¬ HasItem device x but → BeginsWithTrack new x (content_through device x items (slot_track old x))

-- The same of all tracks.
abbrev pub HoldsContent : (device : ℕ) → List Item → (old new : List ℕ) → Type 0
HoldsContent device items old new = HoldsContentBut [] device items old new
