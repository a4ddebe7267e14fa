-- What recovery leaves on the volumes.
use Rattle.std.specs.Prelude.{◌≡◌, ◌≤◌, ℕ, List, [], All, Contains, length, take, slice_range, Option, Some, None, true}
use Rattle.ckd_track.specs.SlotPlaces.{slot_end, slot_track}
use Rattle.crash_plant.specs.declared.device.Device.{Device}
use Rattle.crash_plant.specs.declared.device.Device.TheVariants.{Control, State, Journal, Volume}
use Rattle.crash_plant.specs.Moments.{PlantState, on, IsDurable}
use Rattle.pair_table.specs.declared.row.PairRow.{PairRow}
use Rattle.xrc_journal.specs.Items.{Item}
use Rattle.xrc_journal.specs.Contents.{HasItem, content_through}
use Rattle.site_means.specs.declared.means.Means.{Means}
use Rattle.site_means.specs.Images.{Images}
use Rattle.site_means.specs.Sight.{means_of}
use Rattle.applier.specs.Slots.{BeginsWithTrack, IsApart}
use Rattle.volume_label.specs.Labels.{label_spelling}
use Rattle.xrecover.specs.declared.labelling.Labelling.{Labelling}
use Rattle.xrecover.specs.declared.labelling.Labelling.TheVariants.{AsPrimary, AsItIs}
use Rattle.xrecover.specs.Pairs.{HasDuplex}
use Rattle.pair_table.specs.States.{is_duplex}

-- Only a label's 14 bytes, and the slots of the device's tracks of which an item is, may differ.
pub record Redoes (device : ℕ) (items : List Item) (old new : List ℕ) : Type 0 where
  pub size : length new ≡ length old
  pub others : (from to : ℕ) → 14 ≤ from → from ≤ to → IsApart device items from to → slice_range new from to ≡ slice_range old from to

-- On the devices of duplex pairs only these may differ, and nothing elsewhere.
abbrev pub Recovers : List PairRow → List Item → Device → List ℕ → List ℕ → Type 0
Recovers rows items (Volume v) b c = (HasDuplex rows v → Redoes v items b c) × (¬ HasDuplex rows v → c ≡ b)
Recovers rows items Control b c = c ≡ b
Recovers rows items State b c = c ≡ b
Recovers rows items (Journal j) b c = c ≡ b

-- the rows of what is meant
abbrev pub rows_of : Option Means → List PairRow
rows_of None = []
rows_of (Some means) = means.table.rows

abbrev pub meant_rows : PlantState → Images → List PairRow
meant_rows plant images = rows_of (means_of plant images)

-- Each track of which an item is has a slot that begins with the image of its content.
abbrev pub Draws : (device : ℕ) → List Item → (old new : List ℕ) → Type 0
Draws device items old new = (x : ℕ) → HasItem device x items → BeginsWithTrack new x (content_through device x items (slot_track old x))

-- Each whole slot holds the content of its track.
abbrev pub HoldsTracks : (device : ℕ) → List Item → (old new : List ℕ) → Type 0
HoldsTracks device items old new = (x : ℕ) → slot_end x ≤ length old → slot_track new x ≡ content_through device x items (slot_track old x)

-- the same 14 bytes of a label
abbrev pub SameLabel : List ℕ → List ℕ → Type 0
SameLabel b c = take 14 c ≡ take 14 b

-- A pair's label is that of its primary with the pair's cylinders, or it is as it was.
abbrev pub BearsLabel : Labelling → PairRow → (old new : List ℕ) → Type 0
BearsLabel AsPrimary row old new = take 14 new ≡ label_spelling (record { serial = row.primary; cylinders = row.cylinders })
BearsLabel AsItIs row old new = SameLabel old new

-- A pair's volume: its tracks hold their content, it bears its label, and a crash leaves what reads give.
pub record IsRedone (labelling : Labelling) (row : PairRow) (items : List Item) (old new : PlantState) : Type 0 where
  pub draws : Draws row.device items (old.bytes (Volume row.device)) (new.bytes (Volume row.device))
  pub content : HoldsTracks row.device items (old.bytes (Volume row.device)) (new.bytes (Volume row.device))
  pub label : BearsLabel labelling row (old.bytes (Volume row.device)) (new.bytes (Volume row.device))
  pub durable : IsDurable (on new (Volume row.device))

-- So is the volume of each duplex pair whose device isn't among those that failed.
abbrev pub Redone : Labelling → List PairRow → List Item → (failed : List ℕ) → (old new : PlantState) → Type 0
Redone labelling rows items failed old new = All (λ row. is_duplex row.state ≡ true → ¬ Contains failed row.device → IsRedone labelling row items old new) rows
