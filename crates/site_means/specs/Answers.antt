-- What the examination of a site answers: lengths, the meaning, and faults.
use Rattle.std.specs.Prelude.{◌≡◌, ◌≢◌, ◌+◌, ◌<◌, ◌≤◌, ℕ, suc, zero, true, List, [], ◌∷◌, find, nat_lt, Bool, Option, Some, Result, Ok, Err, IsErrOf}
use Rattle.xrc_journal.specs.Lengths.{journal_length}
use Rattle.crash_plant.specs.declared.layout.TheConstants.{CONTROL_LENGTH, STATE_LENGTH, SWITCH}
use Rattle.xrc_edge.specs.Causes.{Rose}
use Rattle.crash_plant.specs.declared.device.Device.{Device}
use Rattle.crash_plant.specs.declared.device.Device.TheVariants.{Control, State, Journal, Volume}
use Rattle.crash_plant.specs.declared.spot.Spot.{Spot}
use Rattle.crash_plant.specs.Moments.{PlantState, on, Follows, IsDurable, Same}
use Rattle.crash_plant.specs.Calls.{WorksOn}
use Rattle.control_set.specs.declared.value.Mark.{Mark}
use Rattle.pair_table.specs.declared.level.Level.{Level}
use Rattle.pair_table.specs.declared.row.PairRow.{PairRow}
use Rattle.state_set.specs.Slots.{Stored}
use Rattle.site_means.specs.declared.means.Means.{Means}
use Rattle.site_means.specs.declared.reading.SiteReading.{SiteReading}
use Rattle.site_means.specs.declared.site_error.SiteError.{SiteError}
use Rattle.site_means.specs.declared.site_error.SiteError.TheVariants.{NoSession, Damaged, Fault, TooSmall, NoMemory}
use Rattle.site_means.specs.Images.{Images, Shape, shape_of}
use Rattle.site_means.specs.Walk.{Walk, walk_in, has_entered}
use Rattle.site_means.specs.Meaning.{Meaning, chosen_in, meaning, stored_in}
use Rattle.site_means.specs.Meaning.Meaning.{NoMark, DamagedAt, Meant}

-- ---- lengths

-- how many bytes a device needs; a volume's are no matter of an examination
abbrev pub need : Device → ℕ
need Control = CONTROL_LENGTH
need State = STATE_LENGTH
need (Journal j) = journal_length 1
need (Volume v) = 0

abbrev pub journals_from : (first count : ℕ) → List Device
journals_from first zero = []
journals_from first (suc count) = Journal first ∷ journals_from (suc first) count

-- the control, the state, and the journals in order
abbrev pub examined : PlantState → List Device
examined plant = Control ∷ State ∷ journals_from 0 plant.journals

abbrev pub is_short : PlantState → Device → Bool
is_short plant d = nat_lt (plant.lengths d) (need d)

-- the first device that has fewer bytes than it needs
abbrev pub first_short : PlantState → Option Device
first_short plant = find (is_short plant) (examined plant)

-- ---- spots

-- A spot lies in a journal, with room for a switch.
pub record HasSpot (plant : PlantState) (at : Spot) : Type 0 where
  pub set : at.set < plant.journals
  pub room : at.place + SWITCH ≤ plant.lengths (Journal at.set)

-- ---- the meaning

-- What was found is good, or the answer is what the images mean, unless a device failed or there was no memory.
abbrev pub AnswersMeaning : {X : Type 0} → (good : X → Type 0) → Meaning → Result X SiteError → Type 0
AnswersMeaning good meaning (Ok x) = good x
AnswersMeaning good meaning (Err NoSession) = meaning ≡ NoMark
AnswersMeaning good meaning (Err (Damaged d place)) = meaning ≡ DamagedAt d place
AnswersMeaning good meaning (Err (Fault d)) = Unit {0}
AnswersMeaning good meaning (Err (TooSmall d needed)) = Unit {0}
AnswersMeaning good meaning (Err NoMemory) = Unit {0}

-- The images mean this, by some walk.
abbrev pub Mean : Meaning → Means → Type 0
Mean meaning means = (walk : Walk) × (meaning ≡ Meant means walk)

-- The answer is what the devices of a plant mean by what its reads give.
abbrev pub TellsMeaning : PlantState → Result Means SiteError → Type 0
TellsMeaning plant result = AnswersMeaning (λ means. Mean (meaning plant plant.bytes) means) (meaning plant plant.bytes) result

-- the mark that counts by what the reads give
abbrev pub IsChosen : PlantState → Mark → Type 0
IsChosen plant m = chosen_in (shape_of plant) plant.bytes ≡ Ok (Some m)

-- what its state slot holds by what they give
abbrev pub IsStored : PlantState → Mark → Level → List PairRow → Type 0
IsStored plant m level rows = stored_in (shape_of plant) plant.bytes m ≡ Ok (record { level = level; rows = rows })

-- The reading is of the chosen mark, and of what the devices mean by a walk that ends at its end.
pub record IsRead (plant : PlantState) (r : SiteReading) : Type 0 where
  pub chosen : IsChosen plant r.mark
  pub walk : Walk
  pub meant : meaning plant plant.bytes ≡ Meant r.means walk
  pub end : r.end ≡ walk.at

-- whatever reads gave
pub record IsReadingOf (m : Mark) (r : SiteReading) : Type 0 where
  pub same : r.mark ≡ m
  pub from : r.means.from ≡ m.at

-- ---- faults

-- A fault is answered only of a device whose count rose, and the count of each other device stays.
pub record FaultsAreCounted {X : Type 0} (old new : Device → ℕ) (result : Result X SiteError) : Type 0 where
  pub rose : (d : Device) → IsErrOf result (Fault d) → Rose (old d) (new d)
  pub others : (d : Device) → ¬ IsErrOf result (Fault d) → new d ≡ old d

-- what may be wrong with the control
abbrev pub IsOfControl : SiteError → Type 0
IsOfControl NoSession = Unit {0}
IsOfControl (Damaged d place) = d ≡ Control
IsOfControl (Fault d) = d ≡ Control
IsOfControl (TooSmall d needed) = ⊥
IsOfControl NoMemory = ⊥

-- what may be wrong with the state, or want of memory for its rows
abbrev pub IsOfState : SiteError → Type 0
IsOfState NoSession = ⊥
IsOfState (Damaged d place) = d ≡ State
IsOfState (Fault d) = d ≡ State
IsOfState (TooSmall d needed) = ⊥
IsOfState NoMemory = Unit {0}

-- The walk over these images enters a journal, after a chosen mark and a good state slot.
pub record Enters (shape : Shape) (images : Images) (j : ℕ) : Type 0 where
  pub mark : Mark
  pub stored : Stored
  pub chosen : chosen_in shape images ≡ Ok (Some mark)
  pub holds : stored_in shape images mark ≡ Ok stored
  pub entered : has_entered j (walk_in shape images mark stored.rows).entered ≡ true

-- A device is read only where nothing before it has ended the examination: the state where a mark is chosen, and a journal where
-- the walk enters it. No volume is read.
abbrev pub IsReached : Shape → Images → Device → Type 0
IsReached shape images Control = Unit {0}
IsReached shape images State = (m : Mark) × (chosen_in shape images ≡ Ok (Some m))
IsReached shape images (Journal j) = Enters shape images j
IsReached shape images (Volume v) = ⊥

-- A device is read in its turn by what they give.
abbrev pub IsInTurn : PlantState → Device → Type 0
IsInTurn plant d = IsReached (shape_of plant) plant.bytes d

-- ---- what lasts

-- A crash leaves of each device what reads give, if what they give calls for reading it.
abbrev pub AllDurable : (old new : PlantState) → Type 0
AllDurable old new = (d : Device) → IsInTurn old d → IsDurable (on new d)

-- The same of the devices after the control.
abbrev pub RestDurable : (old new : PlantState) → Type 0
RestDurable old new = (d : Device) → d ≢ Control → IsInTurn old d → IsDurable (on new d)

-- This is so where the answer tells what the devices mean, or why they mean nothing.
abbrev pub WhereTold : {X : Type 0} → Result X SiteError → Type 0 → Type 0
WhereTold (Ok x) so = so
WhereTold (Err NoSession) so = so
WhereTold (Err (Damaged d place)) so = so
WhereTold (Err (Fault d)) so = Unit {0}
WhereTold (Err (TooSmall d needed)) so = Unit {0}
WhereTold (Err NoMemory) so = Unit {0}

-- the control, the state and the journals
abbrev pub IsStore : Device → Type 0
IsStore Control = Unit {0}
IsStore State = Unit {0}
IsStore (Journal j) = Unit {0}
IsStore (Volume v) = ⊥

-- What reads give stays, a crash leaves nothing that it couldn't leave before, and no count changes but those of the devices that
-- are read.
pub record ReadsAll (tells : Type 0) (old new : PlantState) : Type 0 where
  pub same : tells → (d : Device) → new.bytes d ≡ old.bytes d
  pub moments : tells → (d : Device) → Follows Same (on old d) (on new d)
  pub only : WorksOn tells IsStore old new
