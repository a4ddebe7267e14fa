-- Where a device of a plant in memory is, and what it holds.
use Rattle.std.specs.Prelude.{◌≡◌, ◌++◌, ◌+◌, ℕ, Bool, true, false, List, [], ◌∷◌, length}
use Rattle.crash_plant.specs.declared.entry.Done.{Done}
use Rattle.crash_plant.specs.declared.memory_disk.MemoryDisk.{MemoryDisk}
use Rattle.crash_plant.specs.declared.shelf.Shelf.{Shelf}
use Rattle.crash_plant.specs.declared.shelf.Shelf.TheVariants.{Here, Lent, Away}
use Rattle.crash_plant.specs.Bytes.{patched}
use Rattle.crash_plant.specs.Clock.{clock_of}
use Rattle.crash_plant.specs.MemoryDisk.{HasRoom, held, first_held, past_of}
use Rattle.crash_plant.specs.Moments.{Standing}
use Rattle.crash_plant.specs.Pasts.{Note, Reach, last_till}
use Rattle.crash_plant.specs.PastlessPlants.{unknown}
use Rattle.std.specs.declared.snapshot.Snapshot.{Snapshot}

-- what a read gives; of the bytes of a volume that is lent nothing is known
abbrev pub shelf_bytes : Shelf → List ℕ
shelf_bytes (Here disk) = held disk
shelf_bytes (Lent n at was) = []
shelf_bytes (Away n) = []

abbrev pub shelf_length : Shelf → ℕ
shelf_length (Here disk) = length (held disk)
shelf_length (Lent n at was) = n
shelf_length (Away n) = n

-- the record, with what the device held first; a volume that is lent has the one that it had then
abbrev pub shelf_past : Shelf → List Note
shelf_past (Here disk) = past_of disk
shelf_past (Lent n at was) = past_of was.value
shelf_past (Away n) = []

abbrev pub shelf_base : Shelf → List ℕ
shelf_base (Here disk) = first_held disk
shelf_base (Lent n at was) = first_held was.value
shelf_base (Away n) = []

abbrev pub shelf_is_lent : Shelf → Bool
shelf_is_lent (Here disk) = false
shelf_is_lent (Lent n at was) = true
shelf_is_lent (Away n) = true

-- what a crash may leave at a moment
abbrev pub shelf_images : Shelf → ℕ → List ℕ → Type 0
shelf_images shelf t c = Reach t (shelf_past shelf) (shelf_base shelf) c

-- the moment at which the last call was done
abbrev pub last_done : Shelf → ℕ
last_done shelf = last_till 0 (shelf_past shelf)

-- the tick at which the volume was lent
abbrev pub lent_at : Shelf → ℕ
lent_at (Here disk) = 0
lent_at (Lent n at was) = at
lent_at (Away n) = 0

-- the first moment of the lent time
abbrev pub shelf_since : Shelf → ℕ
shelf_since (Here disk) = 1
shelf_since (Lent n at was) = clock_of at + 1
shelf_since (Away n) = 1

-- what the volume was when it was lent
abbrev pub shelf_lent : Shelf → Standing
shelf_lent (Here disk) = unknown
shelf_lent (Lent n at was) = record { bytes = held was.value; clock = clock_of at; images = λ t c. Reach t (past_of was.value) (first_held was.value) c; length_is = n; faults = 0 }
shelf_lent (Away n) = unknown

abbrev pub IsNow : Shelf → MemoryDisk → Type 0
IsNow shelf disk = shelf ≡ Here disk

-- The volume was lent at a moment, as it is remembered.
abbrev pub IsLentAs : ℕ → MemoryDisk → Shelf → Type 0
IsLentAs at disk shelf = (was : Snapshot MemoryDisk) × (was.value ≡ disk) × (shelf ≡ Lent (length (held disk)) at was)

-- A call is noted that wrote these bytes.
pub record ShelfNotes (now : ℕ) (done : Done) (place : ℕ) (bytes : List ℕ) (old new : Shelf) : Type 0 where
  pub bytes_are : shelf_bytes new ≡ patched place bytes (shelf_bytes old)
  pub base : shelf_base new ≡ shelf_base old
  pub past : shelf_past new ≡ shelf_past old ++ record { since = now; till = now; done = done; after = shelf_bytes new } ∷ []
  pub here : shelf_is_lent new ≡ false

-- the same bytes and the same past
pub record ShelfAlike (old new : Shelf) : Type 0 where
  pub bytes_are : shelf_bytes new ≡ shelf_bytes old
  pub base : shelf_base new ≡ shelf_base old
  pub past : shelf_past new ≡ shelf_past old
  pub here : shelf_is_lent new ≡ false

-- The record of a device that is here has room for one more call.
abbrev pub ShelfRoom : Shelf → Type 0
ShelfRoom (Here disk) = HasRoom disk
ShelfRoom (Lent n at was) = ⊥
ShelfRoom (Away n) = ⊥
