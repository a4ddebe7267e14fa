-- A volume in memory that keeps its past, and whose calls fail by plan.
use Rattle.std.specs.Prelude.{◌≡◌, ◌||◌, Bool, length, map}
use Rattle.std.specs.List.{list_any}
use Rattle.crash_plant.specs.declared.memory_volume.MemoryVolume.{MemoryVolume}
use Rattle.crash_plant.specs.Moments.{Standing}
use Rattle.crash_plant.specs.Clock.{clock_of}
use Rattle.crash_plant.specs.Failures.{after_call, fails_now, is_stopping}
use Rattle.crash_plant.specs.MemoryDisk.{held, first_held, past_of}
use Rattle.crash_plant.specs.Pasts.{Reach}

abbrev pub volume_standing : MemoryVolume → Standing
volume_standing volume = record {
  bytes = held volume.disk;
  clock = clock_of volume.ticks;
  images = λ t c. Reach t (past_of volume.disk) (first_held volume.disk) c;
  length_is = length (held volume.disk);
  faults = volume.plan.faults;
}

-- whether a call on it fails by plan
abbrev pub volume_fails_by_plan : MemoryVolume → Bool
volume_fails_by_plan volume = volume.is_stopped || list_any (fails_now volume.said) volume.plan.planned.items

-- A call on it is counted.
pub record CountsOwnCall (old new : MemoryVolume) : Type 0 where
  pub here : new.plan.planned.items ≡ map (after_call old.said) old.plan.planned.items
  pub stops : new.is_stopped ≡ (old.is_stopped || list_any (is_stopping old.said) old.plan.planned.items)
  pub said : new.said ≡ old.said
