-- What a call does to a device that keeps its past.
use Rattle.std.specs.Prelude.{◌≡◌, ◌⊎◌, ◌≤◌, ◌<◌, ◌+◌, ℕ, List}
use Rattle.crash_plant.specs.declared.entry.Done.{Done}
use Rattle.crash_plant.specs.declared.entry.Done.TheVariants.{Write, Sync}
use Rattle.crash_plant.specs.declared.memory_disk.MemoryDisk.{MemoryDisk}
use Rattle.crash_plant.specs.declared.shelf.Shelf.{Shelf}
use Rattle.crash_plant.specs.declared.shelf.Shelf.TheVariants.{Here}
use Rattle.crash_plant.specs.Bytes.{Torn}
use Rattle.crash_plant.specs.Clock.{clock_of, last_tick}
use Rattle.crash_plant.specs.MemoryDisk.{Moves}
use Rattle.crash_plant.specs.Moments.{Same, Standing, Stands}
use Rattle.crash_plant.specs.Shelves.{shelf_bytes, shelf_images, shelf_is_lent, shelf_length}

-- what a call that does this may change
abbrev pub step_of : Done → List ℕ → List ℕ → Type 0
step_of (Write place count) = Torn place count
step_of Sync = Same

-- Between two moments a device stays, or a call on it comes to its record.
pub record Passes (step : List ℕ → List ℕ → Type 0) (clock now : ℕ) (old new : Shelf) : Type 0 where
  pub later : clock ≤ now
  pub same : (t : ℕ) → t ≤ clock → (c : List ℕ) → shelf_images new t c → shelf_images old t c
  pub all : (t : ℕ) → t ≤ clock → (c : List ℕ) → shelf_images old t c → shelf_images new t c
  pub follows : (t : ℕ) → clock ≤ t → t ≤ now → (c : List ℕ) → shelf_images new t c → (b : List ℕ) × shelf_images old clock b × step b c
  pub takes : step (shelf_bytes old) (shelf_bytes new)
  pub length_is : shelf_length new ≡ shelf_length old
  pub here : shelf_is_lent new ≡ shelf_is_lent old

abbrev pub DiskPasses : (List ℕ → List ℕ → Type 0) → ℕ → ℕ → MemoryDisk → MemoryDisk → Type 0
DiskPasses step clock now old new = Passes step clock now (Here old) (Here new)

-- A crash may leave whatever it could leave when the call began: what was open stays open.
abbrev pub ShelfStands : (clock now : ℕ) → Shelf → Shelf → Type 0
ShelfStands clock now old new = (t : ℕ) → clock ≤ t → t ≤ now → (c : List ℕ) → shelf_images old clock c → shelf_images new t c

-- A write opens its range: a crash may leave any bytes there, over each image that it could leave before.
abbrev pub Opens : (place count : ℕ) → Standing → Standing → Type 0
Opens place count old new = (b c : List ℕ) → old.images old.clock b → Torn place count b c → new.images new.clock c

-- A write that failed has opened its range, or changed nothing: neither the bytes, nor what a crash may leave.
abbrev pub OpensOrNot : (place count : ℕ) → Standing → Standing → Type 0
OpensOrNot place count old new = ((new.bytes ≡ old.bytes) × Stands old new) ⊎ Opens place count old new

abbrev pub ShelfOpens : Done → (clock now : ℕ) → Shelf → Shelf → Type 0
ShelfOpens (Write place count) clock now old new = (b c : List ℕ) → shelf_images old clock b → Torn place count b c → shelf_images new now c
ShelfOpens Sync clock now old new = Unit {0}

abbrev pub DiskStands : (clock now : ℕ) → MemoryDisk → MemoryDisk → Type 0
DiskStands clock now old new = ShelfStands clock now (Here old) (Here new)

abbrev pub DiskOpens : Done → (clock now : ℕ) → MemoryDisk → MemoryDisk → Type 0
DiskOpens done clock now old new = ShelfOpens done clock now (Here old) (Here new)

-- After a sync a crash leaves what a read gives.
abbrev pub IsSynced : Done → ℕ → Shelf → Type 0
IsSynced (Write place count) now shelf = Unit {0}
IsSynced Sync now shelf = (c : List ℕ) → shelf_images shelf now c → c ≡ shelf_bytes shelf

abbrev pub IsSyncDone : Done → ℕ → MemoryDisk → Type 0
IsSyncDone done now disk = IsSynced done now (Here disk)

abbrev pub IsMoved : ℕ → ℕ → MemoryDisk → Shelf → Type 0
IsMoved lent till disk shelf = (moved_disk : MemoryDisk) × Moves lent till disk moved_disk × (shelf ≡ Here moved_disk)

-- A volume is in its place again. Where it has own calls they are moved, and the clock goes on; else it is as it was.
abbrev pub Shelves : (own lent ticks now : ℕ) → MemoryDisk → Shelf → Type 0
Shelves own lent ticks now disk shelf = (lent < own → (lent + 1 ≤ now) × (lent + 1 ≤ last_tick) × IsMoved (clock_of lent) (clock_of now) disk shelf) × (own ≤ lent → (now ≡ ticks) × (shelf ≡ Here disk))
