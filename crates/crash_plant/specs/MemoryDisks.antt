-- The disks of a plant in memory, each with its past.
use Rattle.std.specs.Prelude.{◌≡◌, ◌<◌, ℕ, false, length}
use Rattle.crash_plant.specs.declared.device.Device.{Device}
use Rattle.crash_plant.specs.declared.device.Device.TheVariants.{Control, State, Journal, Volume}
use Rattle.crash_plant.specs.declared.memory_disks.MemoryDisks.{MemoryDisks}
use Rattle.crash_plant.specs.declared.shelf.Shelf.{Shelf}
use Rattle.crash_plant.specs.declared.shelf.Shelf.TheVariants.{Here, Away}
use Rattle.crash_plant.specs.Devices.{seen_of}
use Rattle.crash_plant.specs.Shelves.{shelf_is_lent}

abbrev pub journals_of : MemoryDisks → ℕ
journals_of disks = length disks.journals.items

abbrev pub volumes_of : MemoryDisks → ℕ
volumes_of disks = length disks.volumes.items

-- where a device is, and what it holds; where there is none it is away for good
abbrev pub view : MemoryDisks → Device → Shelf
view disks d = seen_of Here (λ shelf. shelf) (Away 0) disks.control disks.state disks.journals.items disks.volumes.items d

-- The device is there, and isn't lent.
abbrev pub IsHome : MemoryDisks → Device → Type 0
IsHome disks Control = Unit {0}
IsHome disks State = Unit {0}
IsHome disks (Journal j) = j < journals_of disks
IsHome disks (Volume v) = (v < volumes_of disks) × (shelf_is_lent (view disks (Volume v)) ≡ false)

-- as many journals and volumes
pub record SameSizes (old new : MemoryDisks) : Type 0 where
  pub journals : journals_of new ≡ journals_of old
  pub volumes : volumes_of new ≡ volumes_of old
