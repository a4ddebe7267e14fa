-- What a crash may leave while a session starts.
use Rattle.std.specs.Prelude.{◌≡◌, ◌≢◌, ◌⊎◌, ℕ, ◌/◌, ◌==◌, List, [], drop, Bool, false, not, Option, Some, None, Ok, Result, IsErrOf, slice_index, IsTrue}
use Rattle.tod_stamp.specs.declared.stamp.Stamp.{Stamp}
use Rattle.xrc_edge.specs.Causes.{Rose}
use Rattle.crash_plant.specs.declared.layout.TheConstants.{CONTROL_LENGTH}
use Rattle.crash_plant.specs.declared.device.Device.{Device}
use Rattle.crash_plant.specs.declared.device.Device.TheVariants.{Control, State, Journal, Volume}
use Rattle.crash_plant.specs.Choices.{AllFollow, Choice, IsChoice}
use Rattle.crash_plant.specs.Moments.{Follows, IsDurable, PlantState, on}
use Rattle.control_set.specs.declared.value.Mark.{Mark}
use Rattle.tod_stamp.specs.Fields.{u64_at}
use Rattle.control_set.specs.Slots.{NoGateOpen, chosen_mark, is_closed, lengths_of, place_of_slot, slot_of}
use Rattle.pair_table.specs.declared.level.Level.{Level}
use Rattle.state_set.specs.Slots.{started_table}
use Rattle.site_means.specs.declared.means.Means.{Means}
use Rattle.site_means.specs.Sight.{means_of}
use Rattle.site_store.specs.declared.starting.SlotFront.{SlotFront}
use Rattle.site_store.specs.declared.store_error.StoreError.{StoreError}
use Rattle.site_store.specs.declared.store_error.StoreError.TheVariants.{Fault, Spent}
use Rattle.site_store.specs.Sites.{first_spot}

-- ---- the control

-- the place of the second slot
abbrev pub second_slot : ℕ
second_slot = CONTROL_LENGTH / 2

-- the front of the slot at a place of the control
abbrev pub front_at : (place : ℕ) → (control : List ℕ) → SlotFront
front_at place control = record { place = place; is_open = slice_index control place == 1; number = u64_at (drop place control) 5 }

-- the front of the slot at its place
abbrev pub IsFrontOfSlot : SlotFront → (control : List ℕ) → Type 0
IsFrontOfSlot front control = front ≡ front_at front.place control

-- the places of the control's two slots, in either order
abbrev pub AreHalves : (one other : ℕ) → Type 0
AreHalves one other = (is_second : Bool) × (one ≡ place_of_slot is_second) × (other ≡ place_of_slot (not is_second))

-- Each slot of the control is as it was, or closed.
pub record ShutsSlots (lengths old new : List ℕ) : Type 0 where
  pub first : (slot_of lengths new ≡ slot_of lengths old) ⊎ IsTrue (is_closed (slot_of lengths new))
  pub second : (slot_of lengths (drop second_slot new) ≡ slot_of lengths (drop second_slot old)) ⊎ IsTrue (is_closed (slot_of lengths (drop second_slot new)))

-- Both slots of the control are closed: no mark counts.
pub record AreShut (lengths control : List ℕ) : Type 0 where
  pub first : IsTrue (is_closed (slot_of lengths control))
  pub second : IsTrue (is_closed (slot_of lengths (drop second_slot control)))

-- The gates of the control's slots that read 1 have the byte 0.
pub record AreZeroed (old new : List ℕ) : Type 0 where
  pub first : slice_index old 0 ≡ 1 → slice_index new 0 ≡ 0
  pub second : slice_index old second_slot ≡ 1 → slice_index new second_slot ≡ 0

-- Where it was told which mark counts, that mark counts, or none: an older one never counts again.
abbrev pub CountsOrNone : (lengths old new : List ℕ) → Type 0
CountsOrNone lengths old new =
    (mark : Option Mark) → chosen_mark lengths old ≡ Ok mark → (chosen_mark lengths new ≡ Ok mark) ⊎ (chosen_mark lengths new ≡ Ok None)

-- The slots of the control are closed, and no older mark counts meanwhile.
pub record ShutsControl (lengths old new : List ℕ) : Type 0 where
  pub slots : ShutsSlots lengths old new
  pub counts : CountsOrNone lengths old new

-- Where all of the control was on the disk, it follows by this step at every moment.
abbrev pub ControlFollows : (step : List ℕ → List ℕ → Type 0) → (old new : PlantState) → Type 0
ControlFollows step old new = IsDurable (on old Control) → Follows step (on old Control) (on new Control)

-- ---- the devices

-- The control is shut, and no older mark counts meanwhile. The state and journal 0 are as they were, until both slots of the control are
-- closed: so nothing that an earlier mark names is written over while that mark may count.
pub record ShutsFirst (lengths : List ℕ) (b c : Choice) : Type 0 where
  pub control : ShutsControl lengths (b Control) (c Control)
  pub before : ((c State ≡ b State) × (c (Journal 0) ≡ b (Journal 0))) ⊎ AreShut lengths (c Control)

abbrev pub AllShutFirst : (old new : PlantState) → Type 0
AllShutFirst old new = IsDurable (on old Control) → AllFollow (ShutsFirst (lengths_of old)) old new

-- No gate of the control is open, nor that of the first record, whatever a crash leaves.
pub record IsShut (plant : PlantState) : Type 0 where
  pub gates : NoGateOpen (plant.bytes Control)
  pub first : slice_index (plant.bytes (Journal 0)) 0 ≢ 1
  pub control : IsDurable (on plant Control)
  pub journal : IsDurable (on plant (Journal 0))

-- After a start the gates that it shut have the byte 0: that of the first record, and that of the control's second slot if it read 1. The
-- first mark stands in the first slot.
pub record HasZeroedGates (old new : PlantState) : Type 0 where
  pub second : slice_index (old.bytes Control) second_slot ≡ 1 → slice_index (new.bytes Control) second_slot ≡ 0
  pub first_record : slice_index (new.bytes (Journal 0)) 0 ≡ 0

-- what a session means that starts at a time
abbrev pub started_means : (session : List ℕ) → Level → (at : Stamp) → Means
started_means session level at = record { session = session; level = level; time = at; table = started_table session []; from = first_spot; ended = false }

-- The control is shut first, and stays so, until what a crash leaves means the session that starts.
abbrev pub ShutsOrMeans : (plant : PlantState) → Means → (b c : Choice) → Type 0
ShutsOrMeans plant means b c = ShutsFirst (lengths_of plant) b c ⊎ (means_of plant c ≡ Some means)

abbrev pub AllShutOrMean : Means → (old new : PlantState) → Type 0
AllShutOrMean means old new = IsDurable (on old Control) → AllFollow (ShutsOrMeans old means) old new

-- the devices on which a session starts
abbrev pub IsFormatted : Device → Type 0
IsFormatted Control = Unit {0}
IsFormatted State = Unit {0}
IsFormatted (Journal j) = j ≡ 0
IsFormatted (Volume v) = ⊥

-- Whatever a crash leaves now means the session that has started.
abbrev pub MeansStarted : (plant : PlantState) → Means → Type 0
MeansStarted plant means = (c : Choice) → IsChoice plant plant.clock c → means_of plant c ≡ Some means

-- A fault is one of the devices on which a session starts, whose count rose, and no count rises with another answer. Want of memory comes
-- before any call.
pub record HasStartCause {T : Type 0} (old new : PlantState) (result : Result T StoreError) : Type 0 where
  pub fault : (d : Device) → IsErrOf result (Fault d) → IsFormatted d × Rose (old.faults d) (new.faults d)
  pub others : (d : Device) → ¬ IsErrOf result (Fault d) → new.faults d ≡ old.faults d
  pub spent : ¬ IsErrOf result Spent
