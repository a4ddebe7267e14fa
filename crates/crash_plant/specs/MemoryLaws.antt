-- What a read gives is an image, and as long as its device. At each moment a crash leaves something.
use Rattle.std.specs.Prelude.{◌≡◌, ◌≤◌, ℕ, zero, suc, false, List, [], ◌∷◌, length, refl}
use mathlib.Core.Logic.{inl, inr}
use Rattle.std.proofs.Math.Nat.{le_refl, le_trans}
use Rattle.std.proofs.lemmas.Bool.{cases_lt}
use Rattle.crash_plant.specs.declared.device.Device.{Device}
use Rattle.crash_plant.specs.declared.device.Device.TheVariants.{Control, State, Journal, Volume}
use Rattle.crash_plant.specs.declared.entry.Done.{Done}
use Rattle.crash_plant.specs.declared.entry.Done.TheVariants.{Write, Sync}
use Rattle.crash_plant.specs.declared.memory_disk.MemoryDisk.{MemoryDisk}
use Rattle.crash_plant.specs.declared.memory_plant.MemoryPlant.{MemoryPlant}
use Rattle.crash_plant.specs.declared.memory_volume.MemoryVolume.{MemoryVolume}
use Rattle.crash_plant.specs.declared.shelf.Shelf.{Shelf}
use Rattle.crash_plant.specs.declared.shelf.Shelf.TheVariants.{Here, Lent, Away}
use Rattle.crash_plant.specs.Calls.{IsThere}
use Rattle.crash_plant.specs.Clock.{clock_of}
use Rattle.crash_plant.specs.Devices.{seen_at}
use Rattle.crash_plant.specs.MemoryDisk.{held, first_held, past_of}
use Rattle.crash_plant.specs.MemoryPlant.{memory_state}
use Rattle.crash_plant.specs.Pasts.{Chains, Does, InTime, Note, Reach, Step, last_till}
use Rattle.crash_plant.specs.Shelves.{last_done, shelf_bytes, shelf_images, shelf_is_lent, shelf_length}

last_later : (since till : ℕ) (past : List Note) → InTime since till past → till ≤ last_till till past
last_later since till [] times = le_refl till
last_later since till (n ∷ past) times = le_trans times.1 (last_later n.since n.till past times.4)

does_step : (done : Done) (b a : List ℕ) → Does done b a → Step done a b a
does_step (Write place count) b a does = record { before = does.1; after = does.2; size = does.3 }
does_step Sync b a does = refl

held_is_image : (t since till : ℕ) (past : List Note) (b now : List ℕ) → InTime since till past → last_till till past ≤ t → Chains b past now → Reach t past b now
held_is_image t since till [] b now times done is = is
held_is_image t since till (n ∷ past) b now times done chains =
    inr (n.after, le_trans times.3 (le_trans (last_later n.since n.till past times.4) done), does_step n.done b n.after chains.0, held_is_image t n.since n.till past n.after now times.4 done chains.1)

disk_image : (disk : MemoryDisk) (t : ℕ) → last_till 0 (past_of disk) ≤ t → Reach t (past_of disk) (first_held disk) (held disk)
disk_image disk t done = held_is_image t 0 0 (past_of disk) (first_held disk) (held disk) disk.in_time done disk.chained

pub volume_read_is_image : (volume : MemoryVolume) → Reach (clock_of volume.ticks) (past_of volume.disk) (first_held volume.disk) (held volume.disk)
volume_read_is_image volume = disk_image volume.disk (clock_of volume.ticks) volume.done

journal_image : (disks : List MemoryDisk) (j t : ℕ) → last_done (seen_at Here (Away 0) disks j) ≤ t → shelf_images (seen_at Here (Away 0) disks j) t (shelf_bytes (seen_at Here (Away 0) disks j))
journal_image [] j t done = refl
journal_image (disk ∷ disks) zero t done = disk_image disk t done
journal_image (disk ∷ disks) (suc j) t done = journal_image disks j t done

shelf_image : (shelves : List Shelf) (v t : ℕ) → seen_at shelf_is_lent false shelves v ≡ false → last_done (seen_at (λ shelf. shelf) (Away 0) shelves v) ≤ t → shelf_images (seen_at (λ shelf. shelf) (Away 0) shelves v) t (shelf_bytes (seen_at (λ shelf. shelf) (Away 0) shelves v))
shelf_image [] v t here done = refl
shelf_image ((Here disk) ∷ shelves) zero t here done = disk_image disk t done
shelf_image ((Lent n at was) ∷ shelves) zero t here done = absurd (cc here)
shelf_image ((Away n) ∷ shelves) zero t here done = absurd (cc here)
shelf_image (shelf ∷ shelves) (suc v) t here done = shelf_image shelves v t here done

pub plant_read_is_image : (plant : MemoryPlant) (d : Device) → IsThere (memory_state plant) d → (memory_state plant).images (memory_state plant).clock d ((memory_state plant).bytes d)
plant_read_is_image plant Control there = disk_image plant.disks.control (clock_of plant.ticks) (plant.done Control)
plant_read_is_image plant State there = disk_image plant.disks.state (clock_of plant.ticks) (plant.done State)
plant_read_is_image plant (Journal j) there = journal_image plant.disks.journals.items j (clock_of plant.ticks) (plant.done (Journal j))
plant_read_is_image plant (Volume v) there = shelf_image plant.disks.volumes.items v (clock_of plant.ticks) there.1 (plant.done (Volume v))

-- Each call is done by a moment, or isn't.
reaches : (t since till : ℕ) (past : List Note) (b now : List ℕ) → InTime since till past → Chains b past now → (c : List ℕ) × Reach t past b c
reaches t since till [] b now times chains = (b, refl)
reaches t since till (n ∷ past) b now times chains = elim (cases_lt t n.till) [
  | inl early ↦ (b, inl (early, refl))
  | inr late ↦
      let rest = reaches t n.since n.till past n.after now times.4 chains.1 in
      (rest.0, inr (n.after, le_trans times.3 late, does_step n.done b n.after chains.0, rest.1))
]

disk_has_image : (disk : MemoryDisk) (t : ℕ) → (c : List ℕ) × Reach t (past_of disk) (first_held disk) c
disk_has_image disk t = reaches t 0 0 (past_of disk) (first_held disk) (held disk) disk.in_time disk.chained

journal_has_image : (disks : List MemoryDisk) (j t : ℕ) → (c : List ℕ) × shelf_images (seen_at Here (Away 0) disks j) t c
journal_has_image [] j t = ([], refl)
journal_has_image (disk ∷ disks) zero t = disk_has_image disk t
journal_has_image (disk ∷ disks) (suc j) t = journal_has_image disks j t

-- A volume that is lent has the images that it had then.
shelf_has_image : (shelves : List Shelf) (v t : ℕ) → (c : List ℕ) × shelf_images (seen_at (λ shelf. shelf) (Away 0) shelves v) t c
shelf_has_image [] v t = ([], refl)
shelf_has_image ((Here disk) ∷ shelves) zero t = disk_has_image disk t
shelf_has_image ((Lent n at was) ∷ shelves) zero t = disk_has_image was.value t
shelf_has_image ((Away n) ∷ shelves) zero t = ([], refl)
shelf_has_image (shelf ∷ shelves) (suc v) t = shelf_has_image shelves v t

pub plant_has_image : (plant : MemoryPlant) (d : Device) (t : ℕ) → (c : List ℕ) × (memory_state plant).images t d c
plant_has_image plant Control t = disk_has_image plant.disks.control t
plant_has_image plant State t = disk_has_image plant.disks.state t
plant_has_image plant (Journal j) t = journal_has_image plant.disks.journals.items j t
plant_has_image plant (Volume v) t = shelf_has_image plant.disks.volumes.items v t

journal_length : (disks : List MemoryDisk) (j : ℕ) → length (shelf_bytes (seen_at Here (Away 0) disks j)) ≡ shelf_length (seen_at Here (Away 0) disks j)
journal_length [] j = refl
journal_length (disk ∷ disks) zero = refl
journal_length (disk ∷ disks) (suc j) = journal_length disks j

length_of_shelf : (shelves : List Shelf) (v : ℕ) → seen_at shelf_is_lent false shelves v ≡ false → length (shelf_bytes (seen_at (λ shelf. shelf) (Away 0) shelves v)) ≡ shelf_length (seen_at (λ shelf. shelf) (Away 0) shelves v)
length_of_shelf [] v here = refl
length_of_shelf ((Here disk) ∷ shelves) zero here = refl
length_of_shelf ((Lent n at was) ∷ shelves) zero here = absurd (cc here)
length_of_shelf ((Away n) ∷ shelves) zero here = absurd (cc here)
length_of_shelf (shelf ∷ shelves) (suc v) here = length_of_shelf shelves v here

pub plant_length_told : (plant : MemoryPlant) (d : Device) → IsThere (memory_state plant) d → length ((memory_state plant).bytes d) ≡ (memory_state plant).lengths d
plant_length_told plant Control there = refl
plant_length_told plant State there = refl
plant_length_told plant (Journal j) there = journal_length plant.disks.journals.items j
plant_length_told plant (Volume v) there = length_of_shelf plant.disks.volumes.items v there.1
