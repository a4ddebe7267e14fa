-- What a plant in memory holds.
use Rattle.std.specs.Prelude.{ℕ, List, [], length, take, drop, Bool, true, false}
use Rattle.crash_plant.specs.declared.plain_disk.PlainDisk.{PlainDisk}
use Rattle.crash_plant.specs.declared.plain_plant.VolumePlace.{VolumePlace}
use Rattle.crash_plant.specs.declared.plain_plant.VolumePlace.TheVariants.{Here, Lent}
use Rattle.crash_plant.specs.declared.plain_plant.PlainPlant.{PlainPlant}
use Rattle.crash_plant.specs.Moments.{Standing, PlantState}
use Rattle.crash_plant.specs.Devices.{Sight, contents_of}
use Rattle.crash_plant.specs.PastlessPlants.{Contents, still, still_disk}

abbrev pub disk_bytes : PlainDisk → List ℕ
disk_bytes disk = disk.bytes.items

abbrev pub disk_length : PlainDisk → ℕ
disk_length disk = length disk.bytes.items

abbrev pub disk_standing : PlainDisk → Standing
disk_standing disk = still_disk (disk_bytes disk) (disk_length disk) 0

-- what is known of a volume's place; of the bytes of a lent one nothing is
abbrev pub place_bytes : VolumePlace → List ℕ
place_bytes (Here disk) = disk_bytes disk
place_bytes (Lent n) = []

abbrev pub place_length : VolumePlace → ℕ
place_length (Here disk) = disk_length disk
place_length (Lent n) = n

abbrev pub place_is_lent : VolumePlace → Bool
place_is_lent (Here disk) = false
place_is_lent (Lent n) = true

-- The counts of its devices are constantly 0.
abbrev pub plain_sight : Sight PlainDisk VolumePlace
plain_sight = record {
  disk_length = disk_length;
  disk_bytes = disk_bytes;
  disk_faults = λ disk. 0;
  place_length = place_length;
  place_bytes = place_bytes;
  place_faults = λ place. 0;
  place_is_lent = place_is_lent;
}

abbrev pub plain_contents : PlainPlant → Contents
plain_contents p = contents_of plain_sight p.control p.state p.journals.items p.volumes.items (take p.next p.script) p.said.items (drop p.next p.script) p.console_faults

abbrev pub plain_state : PlainPlant → PlantState
plain_state p = still (plain_contents p)
