-- A plant in memory that keeps its past, and whose calls fail by plan.
use Rattle.std.specs.Prelude.{◌≡◌, ◌≢◌, ◌||◌, ℕ, Bool, false, List, length}
use Rattle.std.specs.Prelude.{Some, None}
use Rattle.crash_plant.specs.declared.device.Device.{Device}
use Rattle.crash_plant.specs.declared.fail.Fail.{Fail}
use Rattle.crash_plant.specs.declared.device.Device.TheVariants.{Volume}
use Rattle.crash_plant.specs.declared.memory_console.MemoryConsole.{MemoryConsole}
use Rattle.crash_plant.specs.declared.memory_disks.MemoryDisks.{MemoryDisks}
use Rattle.crash_plant.specs.declared.memory_volume.MemoryVolume.{MemoryVolume}
use Rattle.crash_plant.specs.declared.memory_plant.MemoryPlant.{MemoryPlant}
use Rattle.crash_plant.specs.Moments.{PlantState}
use Rattle.crash_plant.specs.Calls.{IsThere}
use Rattle.crash_plant.specs.Failures.{planned_at}
use Rattle.crash_plant.specs.FailPlans.{Counts, CountsConsole, faults_of, is_console_failing, is_failing, planned_of}
use Rattle.crash_plant.specs.Clock.{clock_of}
use Rattle.crash_plant.specs.Devices.{seen_at}
use Rattle.crash_plant.specs.MemoryConsole.{heard_at, said_at, left_to_hear}
use Rattle.crash_plant.specs.MemoryDisks.{journals_of, volumes_of, view}
use Rattle.crash_plant.specs.Shelves.{shelf_bytes, shelf_images, shelf_is_lent, shelf_length, shelf_lent, shelf_since}

-- disks and a console that keep their past, at a moment
abbrev pub past_state : MemoryDisks → MemoryConsole → (clock : ℕ) (faults : Device → ℕ) (console_faults : ℕ) → PlantState
past_state disks console clock faults console_faults = record {
  journals = journals_of disks;
  volumes = volumes_of disks;
  lengths = λ d. shelf_length (view disks d);
  bytes = λ d. shelf_bytes (view disks d);
  clock = clock;
  images = λ t d c. shelf_images (view disks d) t c;
  heard = heard_at console;
  said = said_at console;
  script = left_to_hear console;
  faults = faults;
  console_faults = console_faults;
  is_lent = seen_at shelf_is_lent false disks.volumes.items;
  lent_since = λ v. shelf_since (view disks (Volume v));
  lent = λ v. shelf_lent (view disks (Volume v));
}

abbrev pub memory_state : MemoryPlant → PlantState
memory_state m = past_state m.disks m.console (clock_of m.ticks) (faults_of m.plans) m.plans.console.faults

-- how many bytes are said
abbrev pub said_count : MemoryPlant → ℕ
said_count m = length m.console.said.items

-- What is planned is what the list says, counted from now on, and no call has stopped the plant.
pub record IsPlannedAs (fails : List Fail) (m : MemoryPlant) : Type 0 where
  pub devices : (d : Device) → IsThere (memory_state m) d → planned_of m.plans d ≡ planned_at (Some d) fails
  pub console : m.plans.console.planned.items ≡ planned_at None fails
  pub running : m.plans.is_stopped ≡ false

-- whether a call on the device, or on the console, fails by plan
abbrev pub fails_by_plan : MemoryPlant → Device → Bool
fails_by_plan m device = is_failing m.plans (said_count m) device

abbrev pub console_fails_by_plan : MemoryPlant → Bool
console_fails_by_plan m = is_console_failing m.plans (said_count m)

-- A call on the device, or on the console, is counted, and no other.
abbrev pub CountsCall : Device → MemoryPlant → MemoryPlant → Type 0
CountsCall device old new = Counts (said_count old) device old.plans new.plans

abbrev pub CountsConsoleCall : MemoryPlant → MemoryPlant → Type 0
CountsConsoleCall old new = CountsConsole (said_count old) old.plans new.plans

-- A lent volume has what is planned for its device.
pub record LendsPlan (v : ℕ) (old new : MemoryPlant) (volume : MemoryVolume) : Type 0 where
  pub planned : volume.plan.planned.items ≡ planned_of old.plans (Volume v)
  pub said : volume.said ≡ said_count old
  pub volume_stopped : volume.is_stopped ≡ old.plans.is_stopped
  pub others : (d : Device) → d ≢ Volume v → planned_of new.plans d ≡ planned_of old.plans d
  pub console : new.plans.console ≡ old.plans.console
  pub stopped : new.plans.is_stopped ≡ old.plans.is_stopped

-- The volume's plan goes on in the plant. A plant is stopped from now on if the volume was.
pub record TakesPlanBack (v : ℕ) (old new : MemoryPlant) (volume : MemoryVolume) : Type 0 where
  pub planned : planned_of new.plans (Volume v) ≡ volume.plan.planned.items
  pub others : (d : Device) → d ≢ Volume v → planned_of new.plans d ≡ planned_of old.plans d
  pub console : new.plans.console ≡ old.plans.console
  pub stopped : new.plans.is_stopped ≡ (old.plans.is_stopped || volume.is_stopped)
