-- Calls by which the volumes stay as they are.
use Rattle.std.proofs.Common.{ℕ, refl, ◌∙◌}
use Rattle.crash_plant.specs.declared.device.Device.{Device}
use Rattle.crash_plant.specs.declared.device.Device.TheVariants.{Control, Volume}
use Rattle.crash_plant.specs.Calls.{Elapses, WorksOn}
use Rattle.crash_plant.specs.Moments.{PlantState, Same, on}
use Rattle.crash_plant.proofs.Steps.{elapses_trans, follows_here, follows_then}
use Rattle.applier.specs.Returns.{OnlyReads, WorksOnLent}
use Rattle.site_store.specs.Records.{IsJournal, VolumesStay}

-- Nothing was done.
pub stay_here : (tells : Type 0) (plant : PlantState) → VolumesStay tells plant plant
stay_here tells plant = record { bytes = λ told d. refl; images = λ told d. follows_here (on plant (Volume d)) Same (λ b here. refl) }

-- Devices were only read.
pub stay_read : (tells : Type 0) (old new : PlantState) → OnlyReads tells old new → VolumesStay tells old new
stay_read tells old new reads = record { bytes = λ told d. reads.bytes told (Volume d); images = λ told d. reads.moments told (Volume d) }

-- Devices other than volumes were worked on.
pub stay_apart : (tells : Type 0) (among : Device → Type 0) (old new : PlantState) → ((d : ℕ) → ¬ among (Volume d)) → WorksOn tells among old new → VolumesStay tells old new
stay_apart tells among old new apart works = record {
  bytes = λ told d. (works.others told (Volume d) (apart d)).bytes;
  images = λ told d. (works.others told (Volume d) (apart d)).images;
}

-- What stays by two rows of calls stays by both.
pub stay_then : (tells : Type 0) (old mid new : PlantState) → (tells → Elapses old mid) → (tells → Elapses mid new) → VolumesStay tells old mid → VolumesStay tells mid new → VolumesStay tells old new
stay_then tells old mid new first second so_far step = record {
  bytes = λ told d. step.bytes told d ∙ so_far.bytes told d;
  images = λ told d.
      follows_then (on old (Volume d)) (on mid (Volume d)) (on new (Volume d)) Same Same Same ((first told).kept (Volume d)).later (so_far.images told d) ((second told).kept (Volume d)) (step.images told d)
      (λ p q here e. e) (λ p q r here there e more. more ∙ e);
}

-- A record was put.
pub stay_put : (tells : Type 0) (old new : PlantState) → WorksOn tells IsJournal old new → VolumesStay tells old new
stay_put tells old new works = stay_apart tells IsJournal old new (λ d no. no) works

-- Volumes were read, and a record was put.
pub stay_logged : (tells : Type 0) (read : Device → Type 0) (old mid new : PlantState) → OnlyReads tells old mid → WorksOnLent tells read old mid → WorksOn tells IsJournal mid new → VolumesStay tells old new
stay_logged tells read old mid new reads works put = stay_then tells old mid new works.elapses put.elapses (stay_read tells old mid reads) (stay_put tells mid new put)

-- A mark was made, volumes were read, and a record was put.
pub stay_after : (tells : Type 0) (marks read : Device → Type 0) (old marked mid new : PlantState) → VolumesStay tells old marked → WorksOn tells marks old marked
    → OnlyReads tells marked mid → WorksOnLent tells read marked mid → WorksOn tells IsJournal mid new → VolumesStay tells old new
stay_after tells marks read old marked mid new stay works reads lends put =
    stay_then tells old mid new (λ told. elapses_trans Control old marked mid (works.elapses told) (lends.elapses told)) put.elapses
    (stay_then tells old marked mid works.elapses lends.elapses stay (stay_read tells marked mid reads)) (stay_put tells mid new put)
