-- Disks whose past begins.
use Rattle.std.proofs.Common.{◌≡◌, ℕ, ◌<◌, false, List, [], length, ◌∙◌, ap}
use Rattle.crash_plant.specs.declared.memory_disk.MemoryDisk.{MemoryDisk}
use Rattle.crash_plant.specs.declared.plain_disk.PlainDisk.{PlainDisk}
use Rattle.crash_plant.specs.declared.device.Device.{Device}
use Rattle.crash_plant.specs.declared.device.Device.TheVariants.{Control, State, Journal, Volume}
use Rattle.crash_plant.specs.declared.memory_disks.MemoryDisks.{MemoryDisks}
use Rattle.crash_plant.specs.declared.plain_plant.VolumePlace.{VolumePlace}
use Rattle.crash_plant.specs.declared.shelf.Shelf.{Shelf}
use Rattle.crash_plant.specs.declared.shelf.Shelf.TheVariants.{Here, Away}
use Rattle.crash_plant.specs.Devices.{seen_at, seen_of}
use Rattle.crash_plant.specs.FreshDisks.{Fresh, absent, fresh_of, fresh_disk, fresh_place}
use Rattle.crash_plant.specs.MemoryDisks.{view}
use Rattle.crash_plant.specs.MemoryDisk.{held, first_held, past_of}
use Rattle.crash_plant.specs.Pasts.{Note}
use Rattle.crash_plant.proofs.Seen.{seen_alike, seen_through}

abbrev with_parts : List ℕ → List ℕ → List Note → Fresh
with_parts bytes base past = record { bytes = bytes; base = base; past = past; length_is = length bytes; is_lent = false; is_known = false }

pub fresh_is : (disk : MemoryDisk) (plain : PlainDisk) → held disk ≡ plain.bytes.items → first_held disk ≡ plain.bytes.items → past_of disk ≡ [] → fresh_of (Here disk) ≡ fresh_disk plain
fresh_is disk plain is base past =
    ap (λ (l : List ℕ). with_parts l (first_held disk) (past_of disk)) is ∙ ap (λ (l : List ℕ). with_parts plain.bytes.items l (past_of disk)) base ∙ ap (λ (l : List Note). with_parts plain.bytes.items plain.bytes.items l) past

-- Disks of a plain plant with no past, wherever they are.
pub fresh_view : (disks : MemoryDisks) (control state : PlainDisk) (journals : List PlainDisk) (volumes : List VolumePlace) → fresh_of (Here disks.control) ≡ fresh_disk control → fresh_of (Here disks.state) ≡ fresh_disk state
    → length disks.journals.items ≡ length journals → ((j : ℕ) → j < length journals → seen_at (λ (disk : MemoryDisk). fresh_of (Here disk)) absent disks.journals.items j ≡ seen_at fresh_disk absent journals j)
    → length disks.volumes.items ≡ length volumes → ((v : ℕ) → v < length volumes → seen_at fresh_of absent disks.volumes.items v ≡ seen_at fresh_place absent volumes v)
    → (d : Device) → fresh_of (view disks d) ≡ seen_of fresh_disk fresh_place absent control state journals volumes d
fresh_view disks control state journals volumes at_control at_state number each_journal count each_volume Control = at_control
fresh_view disks control state journals volumes at_control at_state number each_journal count each_volume State = at_state
fresh_view disks control state journals volumes at_control at_state number each_journal count each_volume (Journal j) =
    seen_through fresh_of Here (Away 0) disks.journals.items j ∙ seen_alike (λ (disk : MemoryDisk). fresh_of (Here disk)) fresh_disk absent disks.journals.items journals number each_journal j
fresh_view disks control state journals volumes at_control at_state number each_journal count each_volume (Volume v) =
    seen_through fresh_of (λ (s : Shelf). s) (Away 0) disks.volumes.items v ∙ seen_alike fresh_of fresh_place absent disks.volumes.items volumes count each_volume v
