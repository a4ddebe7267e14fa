-- What one crash leaves of the disks of a plant in memory.
use Rattle.std.specs.Prelude.{ℕ, Bool, true, false, List, []}
use Rattle.crash_plant.specs.declared.memory_disk.MemoryDisk.{MemoryDisk}
use Rattle.crash_plant.specs.declared.plain_disk.PlainDisk.{PlainDisk}
use Rattle.crash_plant.specs.declared.plain_plant.VolumePlace.{VolumePlace}
use Rattle.crash_plant.specs.declared.shelf.Shelf.{Shelf}
use Rattle.crash_plant.specs.declared.shelf.Shelf.TheVariants.{Here, Lent, Away}
use Rattle.crash_plant.specs.DiskRemains.{left_of}
use Rattle.crash_plant.specs.MemoryDisk.{held, past_of}
use Rattle.crash_plant.specs.PlainPlant.{disk_bytes, disk_length, place_bytes, place_length, place_is_lent}
use Rattle.crash_plant.specs.Shelves.{shelf_length, shelf_is_lent}

-- what is known of a place after a crash
pub record Remains : Type 0 where
  pub bytes : List ℕ
  pub length_is : ℕ
  pub is_lent : Bool

-- the bytes left of a device that is here
abbrev pub left_at : List ℕ → Shelf → List ℕ
left_at choice (Here disk) = left_of choice (past_of disk) (held disk)
left_at choice (Lent n at was) = []
left_at choice (Away n) = []

abbrev pub remains_of : List ℕ → Shelf → Remains
remains_of choice shelf = record { bytes = left_at choice shelf; length_is = shelf_length shelf; is_lent = shelf_is_lent shelf }

abbrev pub remains_here : List ℕ → MemoryDisk → Remains
remains_here choice disk = remains_of choice (Here disk)

abbrev pub disk_remains : PlainDisk → Remains
disk_remains disk = record { bytes = disk_bytes disk; length_is = disk_length disk; is_lent = false }

abbrev pub place_remains : VolumePlace → Remains
place_remains place = record { bytes = place_bytes place; length_is = place_length place; is_lent = place_is_lent place }

abbrev pub nothing : Remains
nothing = record { bytes = []; length_is = 0; is_lent = true }
