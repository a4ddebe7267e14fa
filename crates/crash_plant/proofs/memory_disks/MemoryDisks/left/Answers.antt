use Rattle.std.proofs.Common.{◌≡◌, ◌<◌, ℕ, List, length, ◌∙◌, ap, subst}
use Rattle.crash_plant.specs.declared.memory_disk.MemoryDisk.{MemoryDisk}
use Rattle.crash_plant.specs.declared.shelf.Shelf.{Shelf}
use Rattle.crash_plant.specs.Devices.{seen_at}
use Rattle.crash_plant.specs.Remains.{disk_remains, nothing, place_remains, remains_here, remains_of}
use Rattle.crash_plant.proofs.Crashes.{all_remains}
use Rattle.crash_plant.proofs.memory_disks.MemoryDisks.left.Goals as goal

pub returns-clause-remains : goal.returns-clause-remains
returns-clause-remains c =
    let choice = c.args.choice.now in
    let journals = c.in_ok-disks_left.field-0.items in
    let volumes = c.in_ok-places_left.field-0.items in
    all_remains choice c.args.self.now c.in_ok-disk_left.field-0 c.in_ok-disk_left-2.field-0 journals volumes c.in_ok-disk_left.ensures c.in_ok-disk_left-2.ensures
    (c.in_ok-disks_left.ensures.number ∙ ap length c.deref.ensures.value) (subst (λ (l : List MemoryDisk). (j : ℕ) → j < length l → seen_at disk_remains nothing journals j ≡ seen_at (remains_here choice) nothing l j) c.deref.ensures.value c.in_ok-disks_left.ensures.remains)
    (c.in_ok-places_left.ensures.number ∙ ap length c.deref-2.ensures.value) (subst (λ (l : List Shelf). (v : ℕ) → v < length l → seen_at place_remains nothing volumes v ≡ seen_at (remains_of choice) nothing l v) c.deref-2.ensures.value c.in_ok-places_left.ensures.remains)
