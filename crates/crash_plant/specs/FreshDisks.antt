-- Disks whose past begins.
use Rattle.std.specs.Prelude.{ℕ, Bool, true, false, List, []}
use Rattle.crash_plant.specs.declared.plain_disk.PlainDisk.{PlainDisk}
use Rattle.crash_plant.specs.declared.plain_plant.VolumePlace.{VolumePlace}
use Rattle.crash_plant.specs.declared.shelf.Shelf.{Shelf}
use Rattle.crash_plant.specs.declared.shelf.Shelf.TheVariants.{Here, Lent, Away}
use Rattle.crash_plant.specs.Pasts.{Note}
use Rattle.crash_plant.specs.PlainPlant.{disk_bytes, disk_length, place_bytes, place_length, place_is_lent}
use Rattle.crash_plant.specs.Shelves.{shelf_bytes, shelf_base, shelf_past, shelf_length, shelf_is_lent}

-- what is known of a place
pub record Fresh : Type 0 where
  pub bytes : List ℕ
  pub base : List ℕ
  pub past : List Note
  pub length_is : ℕ
  pub is_lent : Bool
  pub is_known : Bool

-- whether a volume is lent that is remembered
abbrev pub is_known : Shelf → Bool
is_known (Here disk) = false
is_known (Lent n at was) = true
is_known (Away n) = false

abbrev pub fresh_of : Shelf → Fresh
fresh_of shelf = record { bytes = shelf_bytes shelf; base = shelf_base shelf; past = shelf_past shelf; length_is = shelf_length shelf; is_lent = shelf_is_lent shelf; is_known = is_known shelf }

-- a place with these bytes and no past
abbrev pub fresh_with : List ℕ → ℕ → Bool → Fresh
fresh_with bytes length_is is_lent = record { bytes = bytes; base = bytes; past = []; length_is = length_is; is_lent = is_lent; is_known = false }

abbrev pub fresh_disk : PlainDisk → Fresh
fresh_disk disk = fresh_with (disk_bytes disk) (disk_length disk) false

abbrev pub fresh_place : VolumePlace → Fresh
fresh_place place = fresh_with (place_bytes place) (place_length place) (place_is_lent place)

abbrev pub absent : Fresh
absent = fresh_with [] 0 true
