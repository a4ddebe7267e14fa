-- What is known of a plant over files: numbers, lengths, counts, and what is lent.
use Rattle.std.specs.Prelude.{ℕ, Bool, true, false, List, [], map}
use Rattle.crash_plant.specs.declared.file_disk.FileDisk.{FileDisk}
use Rattle.crash_plant.specs.declared.file_plant.Shelf.{Shelf}
use Rattle.crash_plant.specs.declared.file_plant.Shelf.TheVariants.{Here, Lent}
use Rattle.crash_plant.specs.Moments.{Standing, PlantState}
use Rattle.crash_plant.specs.Devices.{Sight, contents_of}
use Rattle.crash_plant.specs.PastlessPlants.{still, still_disk}

abbrev pub file_standing : FileDisk → Standing
file_standing disk = still_disk [] disk.length disk.faults

abbrev pub file_shelf_length : Shelf → ℕ
file_shelf_length (Here disk) = disk.length
file_shelf_length (Lent n count) = n

-- the disk's count, or the one that it was lent with
abbrev pub file_shelf_faults : Shelf → ℕ
file_shelf_faults (Here disk) = disk.faults
file_shelf_faults (Lent n count) = count

abbrev pub file_shelf_is_lent : Shelf → Bool
file_shelf_is_lent (Here disk) = false
file_shelf_is_lent (Lent n count) = true

abbrev pub file_sight : Sight FileDisk Shelf
file_sight = record {
  disk_length = λ disk. disk.length;
  disk_bytes = λ disk. [];
  disk_faults = λ disk. disk.faults;
  place_length = file_shelf_length;
  place_bytes = λ shelf. [];
  place_faults = file_shelf_faults;
  place_is_lent = file_shelf_is_lent;
}

abbrev pub file_state : (control state : FileDisk) (journals : List FileDisk) (volumes : List Shelf) (console_faults : ℕ) → PlantState
file_state control state journals volumes console_faults = still (contents_of file_sight control state journals volumes [] [] [] console_faults)

-- a plant of these disks, all of them here, with a console that never failed
abbrev pub opened_state : (control state : FileDisk) (journals volumes : List FileDisk) → PlantState
opened_state control state journals volumes = file_state control state journals (map (λ disk. Here disk) volumes) 0
