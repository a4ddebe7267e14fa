-- What the items of a body are to the entries of a group.
use Rattle.std.specs.Prelude.{◌≡◌, ℕ, List, Bool, true, false, IsTrue}
use Rattle.ckd_track.specs.declared.write.Kind.{Kind}
use Rattle.ckd_track.specs.SlotPlaces.{slot_track}
use Rattle.xrc_journal.specs.Items.{Item, Form, AreItems}
use Rattle.xrc_journal.specs.Items.Item.{Image, Delta, Pair, Gone}
use Rattle.xrc_journal.specs.Contents.{HasItem, content_through}
use Rattle.pair_table.specs.declared.row.PairRow.{PairRow}
use Rattle.pending_queue.specs.Entries.{WaitingEntry}
use Rattle.image_former.specs.Changes.{AreSpelled, changed_through}

abbrev pub is_image : Item → Bool
is_image (Image device track recs) = true
is_image (Delta device track kind) = false
is_image (Pair version row) = false
is_image (Gone device) = false

-- What the items leave of each track of a device, from what the volume's slot holds, is what the entries leave of it.
abbrev pub StandFor : List PairRow → List WaitingEntry → (device : ℕ) → List Item → (volume : List ℕ) → Type 0
StandFor rows entries device items volume = (x : ℕ) (kinds : List Kind) → AreSpelled entries kinds
    → content_through device x items (slot_track volume x) ≡ changed_through rows device x entries kinds (slot_track volume x)

-- The items are those of a group in each form that allows items of their tracks.
abbrev pub AreItemsWhereAllowed : List Item → Type 0
AreItemsWhereAllowed items = (form : Form) → ((device x : ℕ) → HasItem device x items → IsTrue (form.has_slot device x)) → AreItems form items
