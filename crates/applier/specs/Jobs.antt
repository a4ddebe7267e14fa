-- What a job's volume is before and after a call.
use Rattle.std.specs.Prelude.{◌≡◌, ◌≤◌, ◌++◌, ℕ, List, [], ◌∷◌, Option, Some, None}
use Rattle.ckd_track.specs.SlotPlaces.{slot_end}
use Rattle.crash_plant.specs.Moments.{Standing, Follows}
use Rattle.xrc_journal.specs.Items.{Item}
use Rattle.xrc_journal.specs.Contents.{HasItem}
use Rattle.applier.specs.Slots.{DiffersInSlots, HoldsContentBut}

-- The slots of the device's tracks of which an item is lie in the volume, which is lent where there is one.
abbrev pub HasSlots : {D : Type 0} (state : D → Standing) → (device : ℕ) → List Item → Option D → Type 0
HasSlots state device items (Some disk) = (x : ℕ) → HasItem device x items → slot_end x ≤ (state disk).length_is
HasSlots state device items None = (x : ℕ) → ¬ HasItem device x items

-- A write failed at one of the device's items: those before it are done, and those after it aren't begun.
pub record StopsAtItem (device : ℕ) (items : List Item) (old new : Standing) : Type 0 where
  pub done : List Item
  pub item : Item
  pub rest : List Item
  pub parts : items ≡ done ++ item ∷ rest
  pub track : ℕ
  pub own : HasItem device track (item ∷ [])
  pub moments : Follows (DiffersInSlots device (done ++ item ∷ [])) old new
  pub bytes : DiffersInSlots device (done ++ item ∷ []) old.bytes new.bytes
  pub holds : HoldsContentBut (item ∷ []) device done old.bytes new.bytes
