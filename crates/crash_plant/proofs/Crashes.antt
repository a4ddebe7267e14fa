-- What one crash leaves of a plant in memory.
use Rattle.std.proofs.Common.{◌≡◌, ℕ, zero, suc, ◌<◌, ◌≤◌, true, false, List, [], ◌∷◌, length, take, drop, refl, sym, ◌∙◌, ap, subst, arith, Result, Ok, Err, IfOk}
use Rattle.crash_plant.specs.declared.device.Device.{Device}
use Rattle.crash_plant.specs.declared.device.Device.TheVariants.{Control, State, Journal, Volume}
use Rattle.crash_plant.specs.declared.memory_disk.MemoryDisk.{MemoryDisk}
use Rattle.crash_plant.specs.declared.memory_disks.MemoryDisks.{MemoryDisks}
use Rattle.crash_plant.specs.declared.plain_disk.PlainDisk.{PlainDisk}
use Rattle.crash_plant.specs.declared.plain_plant.VolumePlace.{VolumePlace}
use Rattle.crash_plant.specs.declared.shelf.Shelf.{Shelf}
use Rattle.crash_plant.specs.declared.shelf.Shelf.TheVariants.{Here, Lent, Away}
use Rattle.crash_plant.specs.declared.memory_plant.MemoryPlant.{MemoryPlant}
use Rattle.crash_plant.specs.declared.plain_plant.PlainPlant.{PlainPlant}
use Rattle.crash_plant.specs.Calls.{IsPart, NoneLent, SameSite}
use Rattle.crash_plant.specs.Choices.{IsChoice}
use Rattle.crash_plant.specs.Clock.{clock_of}
use Rattle.crash_plant.specs.Devices.{seen_at, seen_of}
use Rattle.crash_plant.specs.NewPlants.{IsSilent}
use Rattle.crash_plant.proofs.Counts.{plain_faults}
use Rattle.crash_plant.specs.DiskRemains.{left_of, open_writes}
use Rattle.crash_plant.specs.MemoryDisk.{held, first_held, past_of}
use Rattle.crash_plant.specs.MemoryDisks.{journals_of, view, volumes_of}
use Rattle.crash_plant.specs.MemoryPlant.{memory_state}
use Rattle.crash_plant.specs.PlainPlant.{place_is_lent, plain_state}
use Rattle.crash_plant.specs.Remains.{Remains, disk_remains, left_at, nothing, place_remains, remains_here, remains_of}
use Rattle.crash_plant.specs.Shelves.{last_done, shelf_bytes, shelf_images, shelf_is_lent, shelf_past}
use Rattle.crash_plant.proofs.Beginnings.{seen_of_through}
use Rattle.crash_plant.proofs.Memories.{lent_at_home}
use Rattle.crash_plant.proofs.Views.{is_home}
use Rattle.crash_plant.proofs.Lefts.{left_is_image, length-all_filled, open_writes_fit}
use Rattle.crash_plant.proofs.Records.{reach_of}
use Rattle.crash_plant.proofs.Seen.{seen_alike, seen_through}

-- What is left of a disk is as long as the disk.
pub length-left : (choice : List ℕ) (disk : MemoryDisk) → length (left_of choice (past_of disk) (held disk)) ≡ length (held disk)
length-left choice disk = length-all_filled choice (open_writes (past_of disk)) (held disk) (open_writes_fit (past_of disk) (first_held disk) (held disk) disk.chained)

abbrev with_bytes : List ℕ → ℕ → Remains
with_bytes bytes size = record { bytes = bytes; length_is = size; is_lent = false }

pub remains_left : (choice : List ℕ) (disk : MemoryDisk) (left : PlainDisk) → left.bytes.items ≡ left_of choice (past_of disk) (held disk) → disk_remains left ≡ remains_here choice disk
remains_left choice disk left is = ap (λ (l : List ℕ). with_bytes l (length l)) is ∙ ap (λ (n : ℕ). with_bytes (left_of choice (past_of disk) (held disk)) n) (length-left choice disk)

-- wherever a disk is
pub all_remains : (choice : List ℕ) (disks : MemoryDisks) (control state : PlainDisk) (journals : List PlainDisk) (volumes : List VolumePlace) → disk_remains control ≡ remains_here choice disks.control → disk_remains state ≡ remains_here choice disks.state
    → length journals ≡ length disks.journals.items → ((j : ℕ) → j < length disks.journals.items → seen_at disk_remains nothing journals j ≡ seen_at (remains_here choice) nothing disks.journals.items j)
    → length volumes ≡ length disks.volumes.items → ((v : ℕ) → v < length disks.volumes.items → seen_at place_remains nothing volumes v ≡ seen_at (remains_of choice) nothing disks.volumes.items v)
    → (d : Device) → seen_of disk_remains place_remains nothing control state journals volumes d ≡ remains_of choice (view disks d)
all_remains choice disks control state journals volumes at_control at_state number each_journal count each_volume Control = at_control
all_remains choice disks control state journals volumes at_control at_state number each_journal count each_volume State = at_state
all_remains choice disks control state journals volumes at_control at_state number each_journal count each_volume (Journal j) =
    seen_alike disk_remains (remains_here choice) nothing journals disks.journals.items number each_journal j ∙ sym (seen_through (remains_of choice) Here (Away 0) disks.journals.items j)
all_remains choice disks control state journals volumes at_control at_state number each_journal count each_volume (Volume v) =
    seen_alike place_remains (remains_of choice) nothing volumes disks.volumes.items count each_volume v ∙ sym (seen_through (remains_of choice) (λ (s : Shelf). s) (Away 0) disks.volumes.items v)

-- What is left of a device that isn't lent is an image, and what its choice is of its bytes.
pub left_image : (choice : List ℕ) (shelf : Shelf) (t : ℕ) → shelf_is_lent shelf ≡ false → last_done shelf ≤ t → shelf_images shelf t (left_at choice shelf)
left_image choice (Here disk) t here done = reach_of t 0 0 (past_of disk) (first_held disk) (left_of choice (past_of disk) (held disk)) disk.in_time done (left_is_image choice (past_of disk) (first_held disk) (held disk) disk.chained)
left_image choice (Lent n at was) t here done = absurd (cc here)
left_image choice (Away n) t here done = absurd (cc here)

pub left_chosen : (choice : List ℕ) (shelf : Shelf) → shelf_is_lent shelf ≡ false → left_at choice shelf ≡ left_of choice (shelf_past shelf) (shelf_bytes shelf)
left_chosen choice (Here disk) here = refl
left_chosen choice (Lent n at was) here = absurd (cc here)
left_chosen choice (Away n) here = absurd (cc here)

pub if_left : {E : Type 0} (result : Result PlainDisk E) (choice : List ℕ) (disk : MemoryDisk) → IfOk result (λ left. left.bytes.items ≡ left_of choice (past_of disk) (held disk)) → IfOk result (λ left. disk_remains left ≡ remains_here choice disk)
if_left (Ok left) choice disk is = remains_left choice disk left is
if_left (Err e) choice disk is = tt

module _ (m : MemoryPlant) (plant : PlainPlant) (choice : List ℕ) (remains : (d : Device) → seen_of disk_remains place_remains nothing plant.control plant.state plant.journals.items plant.volumes.items d ≡ remains_of choice (view m.disks d)) (none : NoneLent (memory_state m)) where
  seen : {C : Type 0} (h : Remains → C) (d : Device) → seen_of (λ x. h (disk_remains x)) (λ y. h (place_remains y)) (h nothing) plant.control plant.state plant.journals.items plant.volumes.items d ≡ h (remains_of choice (view m.disks d))
  seen h d = sym (seen_of_through h disk_remains place_remains nothing plant.control plant.state plant.journals.items plant.volumes.items d) ∙ ap h (remains d)

  bytes_left : (d : Device) → (plain_state plant).bytes d ≡ left_at choice (view m.disks d)
  bytes_left d = seen (λ (r : Remains). r.bytes) d

  volume_here : (v : ℕ) → v < volumes_of m.disks → shelf_is_lent (view m.disks (Volume v)) ≡ false
  volume_here v there = sym (lent_at_home m.disks.volumes.items v there) ∙ none v there

  part_here : (d : Device) → IsPart (memory_state m) d → shelf_is_lent (view m.disks d) ≡ false
  part_here Control part = refl
  part_here State part = refl
  part_here (Journal j) part = is_home m.disks (Journal j) part
  part_here (Volume v) part = volume_here v part

  pub crash_images : IsChoice (memory_state m) (memory_state m).clock (plain_state plant).bytes
  crash_images d part = subst (λ (l : List ℕ). shelf_images (view m.disks d) (clock_of m.ticks) l) (sym (bytes_left d)) (left_image choice (view m.disks d) (clock_of m.ticks) (part_here d part) (m.done d))

  pub crash_chosen : (d : Device) → IsPart (memory_state m) d → (plain_state plant).bytes d ≡ left_of choice (shelf_past (view m.disks d)) (shelf_bytes (view m.disks d))
  crash_chosen d part = bytes_left d ∙ left_chosen choice (view m.disks d) (part_here d part)

  pub crash_site : length plant.journals.items ≡ journals_of m.disks → length plant.volumes.items ≡ volumes_of m.disks → SameSite (memory_state m) (plain_state plant)
  crash_site journals volumes = record { journals = journals; volumes = volumes; lengths = λ d. seen (λ (r : Remains). r.length_is) d }

  pub crash_none_lent : length plant.volumes.items ≡ volumes_of m.disks → NoneLent (plain_state plant)
  crash_none_lent volumes v there = place_alike plant.volumes.items v there (seen (λ (r : Remains). r.is_lent) (Volume v) ∙ volume_here v (omega (arith, there, volumes)))
    where
      place_alike : (places : List VolumePlace) (i : ℕ) → i < length places → seen_at (λ y. (place_remains y).is_lent) true places i ≡ false → seen_at place_is_lent false places i ≡ false
      place_alike [] i less same = absurd (omega (arith, less))
      place_alike (x ∷ places) zero less same = same
      place_alike (x ∷ places) (suc i) less same = place_alike places i (omega (arith, less)) same

-- Nothing is heard or said on it.
pub crash_silent : (plant : PlainPlant) → plant.script ≡ [] → plant.next ≡ 0 → plant.said.items ≡ [] → plant.console_faults ≡ 0 → IsSilent (plain_state plant)
crash_silent plant script next said faults = record {
  heard = ap (λ (n : ℕ). take n plant.script) next;
  said = said;
  is_to_hear = ap (λ (n : ℕ). drop n plant.script) next ∙ script;
  faults = λ d. plain_faults plant d;
  console_faults = faults;
}
