-- The writes of items, one after another.
use Rattle.std.specs.Prelude.{◌≡◌, ◌≤◌, ◌==◌, ◌++◌, ℕ, List, [], ◌∷◌, fold, Bool, true, false, None, IfSome, Result, is_err, IsErr, IsTrue, OnOk, if◌then◌else◌}
use Rattle.xrc_edge.specs.declared.outcome.Failed.{Failed}
use Rattle.xrc_edge.specs.Causes.{HasCause}
use Rattle.ckd_track.specs.Images.{image}
use Rattle.ckd_track.specs.SlotPlaces.{slot_place, slot_end}
use Rattle.crash_plant.specs.Bytes.{patched}
use Rattle.crash_plant.specs.Moments.{Standing, Follows, SamePast}
use Rattle.xrc_journal.specs.declared.job.VolumeJob.{VolumeJob}
use Rattle.xrc_journal.specs.declared.reading.BodyItem.{BodyItem}
use Rattle.xrc_journal.specs.declared.reading.BodyItem.TheVariants.{Image as ImageTold}
use Rattle.xrc_journal.specs.Items.{Item, Earlier, anywhere, is_item, item_spelling}
use Rattle.xrc_journal.specs.Items.Item.{Image, Delta, Pair, Gone}
use Rattle.xrc_journal.specs.Views.{told}
use Rattle.xrc_journal.specs.Contents.{HasItem}
use Rattle.xrc_journal.specs.Jobs.{FailsByCount}
use Rattle.applier.specs.Disks.{OnDisks}
use Rattle.applier.specs.Slots.{DiffersInSlots}

-- The bytes are those of an item that a body may have, and this is told of it.
pub record IsItemTold (tells : BodyItem) (bytes : List ℕ) (i : Item) : Type 0 where
  pub earlier : Earlier
  pub keeps : IsTrue (is_item anywhere earlier i)
  pub told_is : tells ≡ told i
  pub spelled : bytes ≡ item_spelling i

-- The slot of the track of which an image is told lies in the disk that the device's job has.
abbrev pub HasSlotRoom : {D : Type 0} (state : D → Standing) → BodyItem → VolumeJob D → Type 0
HasSlotRoom state item job = (x : ℕ) → job.failed ≡ false → item ≡ ImageTold job.device x → IfSome job.disk (λ disk. slot_end x ≤ (state disk).length_is)

-- the bytes of a device after an item: an image stands at the front of its track's slot
abbrev pub written_by : (device : ℕ) → List ℕ → Item → List ℕ
written_by device bytes (Image d x recs) = if d == device then patched (slot_place x) (image recs) bytes else bytes
written_by device bytes (Delta d x kind) = bytes
written_by device bytes (Pair version row) = bytes
written_by device bytes (Gone d) = bytes

-- the bytes after items in turn
abbrev pub written : (device : ℕ) → List Item → List ℕ → List ℕ
written device items bytes = fold (written_by device) bytes items

-- An item was written, or its write failed. An item of another device, or of a row, calls nothing.
pub record Writes {D : Type 0} (state : D → Standing) (tells : Type 0) (device : ℕ) (i : Item) (old new : D) (result : Result (Unit {0}) Failed) : Type 0 where
  pub length_is : (state new).length_is ≡ (state old).length_is
  pub cause : HasCause (state old).faults (state new).faults result
  pub idle : ((x : ℕ) → ¬ HasItem device x (i ∷ [])) → new ≡ old
  pub fails : IsErr result → (x : ℕ) × HasItem device x (i ∷ [])
  pub past : tells → SamePast (state old) (state new)
  pub moments : tells → Follows (DiffersInSlots device (i ∷ [])) (state old) (state new)
  pub bytes : tells → DiffersInSlots device (i ∷ []) (state old).bytes (state new).bytes
  pub done : tells → OnOk result ((state new).bytes ≡ written_by device (state old).bytes i)

-- The write of an item by which a job fails, or doesn't.
pub record WritesOn {D : Type 0} (state : D → Standing) (tells : Type 0) (device : ℕ) (i : Item) (failed : Bool) (old new : D) : Type 0 where
  pub result : Result (Unit {0}) Failed
  pub failed_by : failed ≡ is_err result
  pub writes : Writes state tells device i old new result

-- An item was written to a job's volume, or its write failed. A job that failed before, or has no disk, is as it was.
pub record WritesToJob {D : Type 0} (state : D → Standing) (tells : Type 0) (i : Item) (old new : VolumeJob D) : Type 0 where
  pub device : new.device ≡ old.device
  pub left_alone : old.failed ≡ true → new ≡ old
  pub without_disk : old.disk ≡ None → new ≡ old
  pub writes : old.failed ≡ false → OnDisks (WritesOn state tells old.device i new.failed) old.disk new.disk

-- All items were written, one after another.
pub record WritesAll {D : Type 0} (state : D → Standing) (tells : Type 0) (device : ℕ) (items : List Item) (old new : D) : Type 0 where
  pub length_is : (state new).length_is ≡ (state old).length_is
  pub faults : (state new).faults ≡ (state old).faults
  pub idle : ((x : ℕ) → ¬ HasItem device x items) → new ≡ old
  pub past : tells → SamePast (state old) (state new)
  pub moments : tells → Follows (DiffersInSlots device items) (state old) (state new)
  pub bytes : tells → (state new).bytes ≡ written device items (state old).bytes

-- The items before one were written, and the write of that one failed.
pub record StopsAt {D : Type 0} (state : D → Standing) (tells : Type 0) (device : ℕ) (items : List Item) (old new : D) : Type 0 where
  pub before : List Item
  pub item : Item
  pub rest : List Item
  pub parts : items ≡ before ++ item ∷ rest
  pub track : ℕ
  pub own : HasItem device track (item ∷ [])
  pub cause : FailsByCount true (state old).faults (state new).faults
  pub length_is : (state new).length_is ≡ (state old).length_is
  pub past : tells → SamePast (state old) (state new)
  pub moments : tells → Follows (DiffersInSlots device (before ++ item ∷ [])) (state old) (state new)
  pub bytes : tells → DiffersInSlots device (item ∷ []) (written device before (state old).bytes) (state new).bytes

-- What became of the disk of a job that hadn't failed: all items were written, or the job failed at one of them.
abbrev pub EndsAs : {D : Type 0} (state : D → Standing) (tells : Type 0) (device : ℕ) (items : List Item) (failed : Bool) (old new : D) → Type 0
EndsAs state tells device items true old new = StopsAt state tells device items old new
EndsAs state tells device items false old new = WritesAll state tells device items old new

-- Items were written to a job's volume in turn, up to the first write that failed.
pub record WritesInTurn {D : Type 0} (state : D → Standing) (tells : Type 0) (items : List Item) (old new : VolumeJob D) : Type 0 where
  pub device : new.device ≡ old.device
  pub left_alone : old.failed ≡ true → new ≡ old
  pub without_disk : old.disk ≡ None → new ≡ old
  pub writes : old.failed ≡ false → OnDisks (EndsAs state tells old.device items new.failed) old.disk new.disk
