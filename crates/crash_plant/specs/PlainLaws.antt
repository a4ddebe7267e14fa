-- The bytes of a device of a plant in memory are as many as its length.
use Rattle.std.specs.Prelude.{◌≡◌, ℕ, zero, suc, List, [], ◌∷◌, length, false, refl}
use Rattle.crash_plant.specs.declared.device.Device.{Device}
use Rattle.crash_plant.specs.declared.device.Device.TheVariants.{Control, State, Journal, Volume}
use Rattle.crash_plant.specs.declared.plain_disk.PlainDisk.{PlainDisk}
use Rattle.crash_plant.specs.declared.plain_plant.VolumePlace.{VolumePlace}
use Rattle.crash_plant.specs.declared.plain_plant.VolumePlace.TheVariants.{Here, Lent}
use Rattle.crash_plant.specs.declared.plain_plant.PlainPlant.{PlainPlant}
use Rattle.crash_plant.specs.Calls.{IsThere}
use Rattle.crash_plant.specs.PlainPlant.{plain_state, disk_bytes, disk_length, place_bytes, place_length, place_is_lent}
use Rattle.crash_plant.specs.Devices.{seen_at}

length_here : (places : List VolumePlace) (v : ℕ) → seen_at place_is_lent false places v ≡ false → length (seen_at place_bytes [] places v) ≡ seen_at place_length 0 places v
length_here [] v here = refl
length_here ((Here disk) ∷ places) zero here = refl
length_here ((Lent n) ∷ places) zero here = absurd (cc here)
length_here (p ∷ places) (suc v) here = length_here places v here

length_journal : (disks : List PlainDisk) (j : ℕ) → length (seen_at disk_bytes [] disks j) ≡ seen_at disk_length 0 disks j
length_journal [] j = refl
length_journal (disk ∷ disks) zero = refl
length_journal (disk ∷ disks) (suc j) = length_journal disks j

pub plain_length_told : (p : PlainPlant) (d : Device) → IsThere (plain_state p) d → length ((plain_state p).bytes d) ≡ (plain_state p).lengths d
plain_length_told p Control there = refl
plain_length_told p State there = refl
plain_length_told p (Journal j) there = length_journal p.journals.items j
plain_length_told p (Volume v) there = length_here p.volumes.items v there.1
