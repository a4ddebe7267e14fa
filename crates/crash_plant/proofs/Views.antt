-- Where a device is, among the disks of a plant.
use Rattle.std.proofs.Common.{◌≡◌, ◌≢◌, inl, inr, ℕ, zero, suc, ◌<◌, List, [], ◌∷◌, length, slice_set, slice_index_or, refl, sym, ◌∙◌, ap, subst, arith, false, Result, Ok, Err, OnOk, OnErr}
use Rattle.crash_plant.specs.declared.device.Device.{Device}
use Rattle.crash_plant.specs.declared.device.Device.TheVariants.{Control, State, Journal, Volume}
use Rattle.crash_plant.specs.declared.entry.Done.{Done}
use Rattle.crash_plant.specs.declared.memory_disk.MemoryDisk.{MemoryDisk}
use Rattle.crash_plant.specs.declared.memory_disks.MemoryDisks.{MemoryDisks}
use Rattle.crash_plant.specs.declared.shelf.Shelf.{Shelf}
use Rattle.crash_plant.specs.declared.shelf.Shelf.TheVariants.{Here, Lent, Away}
use Rattle.crash_plant.specs.MemoryDisk.{Notes, Alike}
use Rattle.crash_plant.specs.MemoryDisks.{IsHome, view, journals_of, volumes_of}
use Rattle.crash_plant.specs.Shelves.{IsLentAs, ShelfNotes, ShelfAlike, shelf_bytes, shelf_is_lent, shelf_length}
use Rattle.std.specs.declared.snapshot.Snapshot.{Snapshot}
use Rattle.crash_plant.specs.Devices.{seen_at, seen_of}
use Rattle.crash_plant.proofs.Choices.{device_cases}
use Rattle.crash_plant.proofs.Seen.{journal_was, volume_was, volume_is, seen_of_volume}

-- a journal, and a volume, before a call on it and after
module _ (disks : MemoryDisks) (device : Device) (number i : ℕ) (index_is : i ≡ number) where
  pub journal_within : device ≡ Journal number → IsHome disks device → i < journals_of disks
  journal_within is home = let there : number < journals_of disks = subst (λ (d : Device). IsHome disks d) is home in omega (arith, there, index_is)

  pub volume_within : device ≡ Volume number → IsHome disks device → i < volumes_of disks
  volume_within is home = let there = subst (λ (d : Device). IsHome disks d) is home in omega (arith, there.0, index_is)

  pub journal_before : (x : MemoryDisk) → device ≡ Journal number → IsHome disks device → x ≡ slice_index_or disks.journals.items i x → view disks device ≡ Here x
  journal_before x is home was = journal_was Here (λ (s : Shelf). s) (Away 0) disks.control disks.state disks.journals.items disks.volumes.items device number i index_is x is (journal_within is home) was

  pub volume_before : (shelf : Shelf) → device ≡ Volume number → IsHome disks device → shelf ≡ slice_index_or disks.volumes.items i shelf → view disks device ≡ shelf
  volume_before shelf is home was = volume_was Here (λ (s : Shelf). s) (Away 0) disks.control disks.state disks.journals.items disks.volumes.items device number i index_is shelf is (volume_within is home) was

  -- A volume that is at home isn't lent.
  pub volume_home : (shelf : Shelf) → device ≡ Volume number → IsHome disks device → shelf ≡ slice_index_or disks.volumes.items i shelf → shelf_is_lent shelf ≡ false
  volume_home shelf is home was =
      let there = subst (λ (d : Device). IsHome disks d) is home in
      subst (λ (s : Shelf). shelf_is_lent s ≡ false) (volume_was Here (λ (s : Shelf). s) (Away 0) disks.control disks.state disks.journals.items disks.volumes.items (Volume number) number i index_is shelf refl (volume_within is home) was) there.1

-- A call noted on a disk is noted where the disk is.
pub noted_shelf : {T E : Type 0} (result : Result T E) (now : ℕ) (done : Done) (place : ℕ) (bytes : List ℕ) (old new : Shelf) (x y : MemoryDisk) → old ≡ Here x → new ≡ Here y → OnOk result (Notes now done place bytes x y) → OnOk result (ShelfNotes now done place bytes old new)
noted_shelf (Ok t) now done place bytes old new x y was is notes =
    subst (λ (s : Shelf). ShelfNotes now done place bytes s new) (sym was) (subst (λ (s : Shelf). ShelfNotes now done place bytes (Here x) s) (sym is)
    (record { bytes_are = notes.bytes_are; base = notes.base; past = notes.past; here = refl }))
noted_shelf (Err e) now done place bytes old new x y was is notes = tt

pub alike_shelf : {T E : Type 0} (result : Result T E) (old new : Shelf) (x y : MemoryDisk) → old ≡ Here x → new ≡ Here y → OnErr result (Alike x y) → OnErr result (ShelfAlike old new)
alike_shelf (Ok t) old new x y was is alike = tt
alike_shelf (Err e) old new x y was is alike =
    subst (λ (s : Shelf). ShelfAlike s new) (sym was) (subst (λ (s : Shelf). ShelfAlike (Here x) s) (sym is) (record { bytes_are = alike.bytes_are; base = alike.base; past = alike.past; here = refl }))

-- a volume's place, before a change of it and after
module _ (disks : MemoryDisks) (number i : ℕ) (index_is : i ≡ number) (there : number < volumes_of disks) where
  pub place_was : (shelf : Shelf) → shelf ≡ slice_index_or disks.volumes.items i shelf → view disks (Volume number) ≡ shelf
  place_was shelf was = volume_was Here (λ (s : Shelf). s) (Away 0) disks.control disks.state disks.journals.items disks.volumes.items (Volume number) number i index_is shelf refl (omega (arith, there, index_is)) was

  pub place_is : (shelf : Shelf) → seen_of Here (λ (s : Shelf). s) (Away 0) disks.control disks.state disks.journals.items (slice_set disks.volumes.items i shelf) (Volume number) ≡ shelf
  place_is shelf = volume_is Here (λ (s : Shelf). s) (Away 0) disks.control disks.state disks.journals.items disks.volumes.items (Volume number) number i index_is shelf refl (omega (arith, there, index_is))

  pub other_places : (shelf : Shelf) (d : Device) → d ≢ Volume number → seen_of Here (λ (s : Shelf). s) (Away 0) disks.control disks.state disks.journals.items (slice_set disks.volumes.items i shelf) d ≡ view disks d
  other_places shelf d other = seen_of_volume Here (λ (s : Shelf). s) (Away 0) disks.control disks.state disks.journals.items disks.volumes.items i shelf d (λ same. other (same ∙ ap Volume index_is))

-- A place is one of three kinds.
pub here_not_lent : (x : MemoryDisk) (n at : ℕ) (was : Snapshot MemoryDisk) → Here x ≡ Lent n at was → ⊥
here_not_lent x n at was same = absurd (cc same)

pub here_not_away : (x : MemoryDisk) (n : ℕ) → Here x ≡ Away n → ⊥
here_not_away x n same = absurd (cc same)

-- A volume that is lent is remembered as it was.
pub lent_as : (at : ℕ) (x y : MemoryDisk) (shelf new : Shelf) → IsLentAs at x shelf → Here x ≡ Here y → new ≡ shelf → IsLentAs at y new
lent_as at x y shelf new lent same is =
    let inside : x ≡ y = cc same in
    subst (λ (s : Shelf). IsLentAs at y s) (sym is) (subst (λ (d : MemoryDisk). IsLentAs at d shelf) inside lent)

pub noted_here : (now : ℕ) (done : Done) (place : ℕ) (bytes : List ℕ) (x y : MemoryDisk) → Notes now done place bytes x y → ShelfNotes now done place bytes (Here x) (Here y)
noted_here now done place bytes x y notes = record { bytes_are = notes.bytes_are; base = notes.base; past = notes.past; here = refl }

pub alike_here : (x y : MemoryDisk) → Alike x y → ShelfAlike (Here x) (Here y)
alike_here x y alike = record { bytes_are = alike.bytes_are; base = alike.base; past = alike.past; here = refl }

-- A device that is at home isn't lent.
pub is_home : (disks : MemoryDisks) (d : Device) → IsHome disks d → shelf_is_lent (view disks d) ≡ false
is_home disks Control home = refl
is_home disks State home = refl
is_home disks (Journal j) home = journal_home disks.journals.items j home
  where
    journal_home : (journals : List MemoryDisk) (i : ℕ) → i < length journals → shelf_is_lent (seen_at Here (Away 0) journals i) ≡ false
    journal_home [] i less = absurd (omega (arith, less))
    journal_home (x ∷ journals) zero less = refl
    journal_home (x ∷ journals) (suc i) less = journal_home journals i (omega (arith, less))
is_home disks (Volume v) home = home.1

-- What holds of each place before a change holds after it, where it holds of the one that changed.
pub at_each : (P : Device → Shelf → Type 0) (old new : MemoryDisks) (device : Device) → ((d : Device) → d ≢ device → view new d ≡ view old d) → ((d : Device) → P d (view old d)) → P device (view new device) → (d : Device) → P d (view new d)
at_each P old new device others before here d = elim (device_cases d device) [
  | inl same ↦ subst (λ (e : Device). P e (view new e)) (sym same) here
  | inr other ↦ subst (λ (s : Shelf). P d s) (sym (others d other)) (before d)
]

-- A device that isn't lent is as long as what it holds.
pub size_home : (disks : MemoryDisks) (d : Device) → shelf_is_lent (view disks d) ≡ false → shelf_length (view disks d) ≡ length (shelf_bytes (view disks d))
size_home disks d here = sized (view disks d) here
  where
    sized : (shelf : Shelf) → shelf_is_lent shelf ≡ false → shelf_length shelf ≡ length (shelf_bytes shelf)
    sized (Here disk) home = refl
    sized (Lent n at was) home = absurd (cc home)
    sized (Away n) home = absurd (cc home)
