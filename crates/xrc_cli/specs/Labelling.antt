-- The status that the labelling of a volume ends with: what it stands for, and what was written and said by then.
use Rattle.std.specs.Prelude.{◌≡◌, ◌≢◌, ◌⊎◌, ◌↔◌, ℕ, ◌+◌, ◌*◌, ◌<◌, ◌≤◌, ◌==◌, ◌||◌, List, [], ◌∷◌, ◌++◌, take, Bool, Some, codes, if◌then◌else◌, IsTrue}
use Rattle.xrc_edge.specs.Causes.{Rose}
use Rattle.xrc_edge.specs.declared.limits.TheConstants.{TRACKS_OF_CYLINDER}
use Rattle.crash_plant.specs.declared.device.Device.{Device}
use Rattle.crash_plant.specs.declared.device.Device.TheVariants.{Volume}
use Rattle.crash_plant.specs.Bytes.{Torn}
use Rattle.crash_plant.specs.Calls.{Elapses, NoneRose, SameLoan, SameSite, Says, WorksOnConsole}
use Rattle.crash_plant.specs.Moments.{PlantState, on, Follows, IsDurable, Stays}
use Rattle.volume_label.specs.declared.label.Label.{Label}
use Rattle.volume_label.specs.Labels.{label_of, label_spelling, volume_need}
use Rattle.xrc_status.specs.declared.stop.Stop.TheVariants.{BadSite, TooSmall, VolumeFault}
use Rattle.xrc_status.specs.Saying.{SaidWhole}
use Rattle.xrc_status.specs.Stops.{last_line, number_text}
use Rattle.xrc_recovery.specs.Stops.{IsSite}

-- ---- the volume

-- The numbers of journals and volumes are those of a site, and this is the number of a volume.
pub record HasVolume (plant : PlantState) (device : ℕ) : Type 0 where
  pub site : IsSite plant
  pub there : device < plant.volumes

-- It is long enough for the slots of so many cylinders.
abbrev pub IsLongEnough : PlantState → (device cylinders : ℕ) → Type 0
IsLongEnough plant device cylinders = volume_need cylinders ≤ plant.lengths (Volume device)

-- the label of a serial and so many cylinders
abbrev pub label_with : (serial : List ℕ) → (cylinders : ℕ) → Label
label_with serial cylinders = record { serial = serial; cylinders = cylinders }

-- ---- what is said

-- the number of the volume, its serial and its tracks
abbrev pub label_line : (device : ℕ) → Label → List ℕ
label_line device label = codes "VOLUME" ++ number_text device ++ codes " " ++ label.serial ++ codes " TRACKS" ++ number_text (TRACKS_OF_CYLINDER * label.cylinders) ++ 10 ∷ []

-- what is said by a status: that line where the label was written, else the line of the status
abbrev pub labelling_text : (device : ℕ) → Label → (status : ℕ) → List ℕ
labelling_text device label status =
    if status == 16 then last_line BadSite else
    if status == 14 then last_line (TooSmall (Volume device) (volume_need label.cylinders)) else
    if status == 13 then last_line VolumeFault else label_line device label

-- ---- what is written

-- At every moment at most the 14 bytes of the label differ. Each other device stays as it was, and no count of another one changes.
pub record WritesLabel (tells : Type 0) (device : ℕ) (old new : PlantState) : Type 0 where
  pub site : SameSite old new
  pub loans : (v : ℕ) → SameLoan v old new
  pub elapses : tells → Elapses old new
  pub bytes : tells → Torn 0 14 (old.bytes (Volume device)) (new.bytes (Volume device))
  pub moments : tells → Follows (Torn 0 14) (on old (Volume device)) (on new (Volume device))
  pub others : tells → (d : Device) → d ≢ Volume device → Stays (on old d) (on new d)
  pub others_faults : (d : Device) → d ≢ Volume device → new.faults d ≡ old.faults d

-- A volume has this label whatever a crash leaves, and a run reads it.
pub record HasLabelToStay (device : ℕ) (label : Label) (plant : PlantState) : Type 0 where
  pub durable : IsDurable (on plant (Volume device))
  pub begins : take 14 (plant.bytes (Volume device)) ≡ label_spelling label
  pub valid : label_of (plant.lengths (Volume device)) (take 14 (plant.bytes (Volume device))) ≡ Some label

-- ---- the whole

-- whether a labelling can end with a status
abbrev pub ends_labelling : (status : ℕ) → Bool
ends_labelling status = status == 0 || status == 3 || status == 13 || status == 14 || status == 16

-- What is so where the labelling of a volume has ended with a status.
pub record EndsLabelling (tells : Type 0) (device : ℕ) (label : Label) (old new : PlantState) (status : ℕ) : Type 0 where
  pub known : IsTrue (ends_labelling status)
  -- The numbers of journals and volumes come first, with that of the volume. Then comes the length of this volume alone.
  pub no_volume : (status ≡ 16) ↔ ¬ HasVolume old device
  pub short : (status ≡ 14) ↔ (HasVolume old device × ¬ IsLongEnough old device label.cylinders)
  -- The other statuses need a fault, 13 of the volume and 3 of the console; without one the volume is labelled.
  pub volume : status ≡ 13 → Rose (old.faults (Volume device)) (new.faults (Volume device))
  pub console : status ≡ 3 → Rose old.console_faults new.console_faults
  pub complete : HasVolume old device → IsLongEnough old device label.cylinders → NoneRose old new → status ≡ 0
  -- No fault is passed over: the count of the volume changes at 13 alone, and at 0 the console's stays. Each of the two rises by one at most.
  pub volume_count : status ≢ 13 → new.faults (Volume device) ≡ old.faults (Volume device)
  pub console_count : status ≡ 0 → new.console_faults ≡ old.console_faults
  pub volume_once : new.faults (Volume device) ≤ old.faults (Volume device) + 1
  pub console_once : new.console_faults ≤ old.console_faults + 1
  -- Nothing but its text was said: whole at 0, and else whole too, or in part where the console's count rose.
  pub says : tells → Says (labelling_text device label status) old new
  pub whole : tells → SaidWhole (labelling_text device label status) old new ⊎ (status ≢ 0 × Rose old.console_faults new.console_faults)
  -- At 0 and 3 the label is there to stay, at 14 and 16 nothing was written, and at most the label's bytes ever differ.
  pub labelled : tells → (status ≡ 0) ⊎ (status ≡ 3) → HasLabelToStay device label new
  pub unwritten : (status ≡ 14) ⊎ (status ≡ 16) → WorksOnConsole tells old new
  pub writes : WritesLabel tells device old new
