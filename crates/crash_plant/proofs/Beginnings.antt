-- A plant in memory whose past begins.
use Rattle.std.proofs.Common.{◌≡◌, ℕ, zero, suc, false, List, [], ◌∷◌, length, refl, sym, ◌∙◌, ap, subst, arith}
use Rattle.crash_plant.specs.declared.device.Device.{Device}
use Rattle.crash_plant.specs.declared.device.Device.TheVariants.{Control, State, Journal, Volume}
use Rattle.crash_plant.specs.declared.memory_console.MemoryConsole.{MemoryConsole}
use Rattle.crash_plant.specs.declared.memory_disks.MemoryDisks.{MemoryDisks}
use Rattle.crash_plant.specs.declared.plain_plant.VolumePlace.{VolumePlace}
use Rattle.crash_plant.specs.declared.plain_plant.PlainPlant.{PlainPlant}
use Rattle.crash_plant.specs.declared.shelf.Shelf.{Shelf}
use Rattle.crash_plant.specs.declared.shelf.Shelf.TheVariants.{Here, Lent, Away}
use Rattle.crash_plant.specs.Devices.{seen_at, seen_of}
use Rattle.crash_plant.specs.FreshDisks.{Fresh, absent, fresh_of, fresh_disk, fresh_place, is_known}
use Rattle.crash_plant.specs.NewPlants.{SameDevices}
use Rattle.crash_plant.specs.MemoryDisks.{view, journals_of, volumes_of}
use Rattle.crash_plant.specs.MemoryPlant.{past_state}
use Rattle.crash_plant.specs.Moments.{SamePast}
use Rattle.crash_plant.specs.Pasts.{Note, Reach, last_till}
use Rattle.crash_plant.specs.PlainPlant.{place_is_lent, plain_state}
use Rattle.crash_plant.specs.Shelves.{last_done, lent_at, shelf_base, shelf_bytes, shelf_images, shelf_is_lent, shelf_lent, shelf_past, shelf_since}
use Rattle.crash_plant.specs.PastlessPlants.{unknown}
use Rattle.crash_plant.proofs.Seen.{seen_of_alike, seen_through}
use Rattle.crash_plant.proofs.Steps.{kept_here}

-- What is seen of what is seen of a device.
pub seen_of_through : {D P B C : Type 0} (h : B → C) (see : D → B) (see_place : P → B) (none : B) (control state : D) (journals : List D) (volumes : List P) (d : Device) → h (seen_of see see_place none control state journals volumes d) ≡ seen_of (λ x. h (see x)) (λ y. h (see_place y)) (h none) control state journals volumes d
seen_of_through h see see_place none control state journals volumes Control = refl
seen_of_through h see see_place none control state journals volumes State = refl
seen_of_through h see see_place none control state journals volumes (Journal j) = seen_through h see none journals j
seen_of_through h see see_place none control state journals volumes (Volume v) = seen_through h see_place none volumes v

-- A place with no volume that is remembered has no loan.
unknown_at : (shelf : Shelf) → is_known shelf ≡ false → (lent_at shelf ≡ 0) × (shelf_since shelf ≡ 1) × SamePast (shelf_lent shelf) unknown × ((shelf_lent shelf).clock ≡ 0)
unknown_at (Here disk) none = (refl, refl, kept_here unknown, refl)
unknown_at (Lent n at was) none = absurd (cc none)
unknown_at (Away n) none = (refl, refl, kept_here unknown, refl)

lent_alike_at : (xs : List Shelf) (ys : List VolumePlace) (v : ℕ) → length xs ≡ length ys → fresh_of (seen_at (λ shelf. shelf) (Away 0) xs v) ≡ seen_at fresh_place absent ys v → seen_at shelf_is_lent false xs v ≡ seen_at place_is_lent false ys v
lent_alike_at [] [] v size same = refl
lent_alike_at [] (y ∷ ys) v size same = absurd (omega (arith, size))
lent_alike_at (x ∷ xs) [] v size same = absurd (omega (arith, size))
lent_alike_at (x ∷ xs) (y ∷ ys) zero size same = ap (λ (r : Fresh). r.is_lent) same
lent_alike_at (x ∷ xs) (y ∷ ys) (suc v) size same = lent_alike_at xs ys v (omega (arith, size)) same

module _ (disks : MemoryDisks) (plain : PlainPlant) (fresh : (d : Device) → fresh_of (view disks d) ≡ seen_of fresh_disk fresh_place absent plain.control plain.state plain.journals.items plain.volumes.items d) where
  seen : {C : Type 0} (h : Fresh → C) (d : Device) → h (fresh_of (view disks d)) ≡ seen_of (λ x. h (fresh_disk x)) (λ y. h (fresh_place y)) (h absent) plain.control plain.state plain.journals.items plain.volumes.items d
  seen h d = ap h (fresh d) ∙ seen_of_through h fresh_disk fresh_place absent plain.control plain.state plain.journals.items plain.volumes.items d

  bytes_at : (d : Device) → shelf_bytes (view disks d) ≡ (plain_state plain).bytes d
  bytes_at d = seen (λ (r : Fresh). r.bytes) d

  past_at : (d : Device) → shelf_past (view disks d) ≡ []
  past_at d = seen (λ (r : Fresh). r.past) d ∙ seen_of_alike [] plain.control plain.state plain.journals.items plain.volumes.items d

  known_at : (d : Device) → is_known (view disks d) ≡ false
  known_at d = seen (λ (r : Fresh). r.is_known) d ∙ seen_of_alike false plain.control plain.state plain.journals.items plain.volumes.items d

  pub nothing_done : (d : Device) → last_done (view disks d) ≡ 0
  nothing_done d = ap (λ (l : List Note). last_till 0 l) (past_at d)

  pub nothing_lent : (d : Device) → lent_at (view disks d) ≡ 0
  nothing_lent d = (unknown_at (view disks d) (known_at d)).0

  pub all_durable : (t : ℕ) (d : Device) (c : List ℕ) → shelf_images (view disks d) t c → c ≡ shelf_bytes (view disks d)
  all_durable t d c left =
      let first : c ≡ shelf_base (view disks d) = subst (λ (l : List Note). Reach t l (shelf_base (view disks d)) c) (past_at d) left in
      first ∙ seen (λ (r : Fresh). r.base) d ∙ sym (bytes_at d)

  pub same_devices : (console : MemoryConsole) (clock : ℕ) (f : Device → ℕ) (p : ℕ) → journals_of disks ≡ length plain.journals.items → volumes_of disks ≡ length plain.volumes.items → ((d : Device) → f d ≡ (plain_state plain).faults d) → SameDevices (plain_state plain) (past_state disks console clock f p)
  same_devices console clock f p journals volumes counts = record {
    site = record { journals = journals; volumes = volumes; lengths = λ d. seen (λ (r : Fresh). r.length_is) d };
    loans = λ v. let none = unknown_at (view disks (Volume v)) (known_at (Volume v)) in record { is_lent = lent_alike_at disks.volumes.items plain.volumes.items v volumes (fresh (Volume v)); since = none.1; lent = none.2; clock = none.3 };
    bytes = bytes_at;
    faults = counts;
  }
