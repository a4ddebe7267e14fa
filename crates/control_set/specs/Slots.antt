-- The control device: two slots, each a mark behind a gate, and which of them counts.
use Rattle.std.specs.Prelude.{◌≡◌, ◌≢◌, ◌⊎◌, ℕ, zero, suc, ◌+◌, ◌==◌, ◌&&◌, List, [], ◌∷◌, length, drop, Bool, true, false, Option, Some, None, Result, Ok, Err, nat_lt, nat_le, if◌then◌else◌, slice_index, slice_range}
use Rattle.control_set.specs.declared.slot_places.TheConstants.{SECOND}
use Rattle.tod_stamp.specs.Fields.{Left, Bad}
use Rattle.crash_plant.specs.declared.device.Device.TheVariants.{Journal}
use Rattle.crash_plant.specs.Bytes.{Torn}
use Rattle.crash_plant.specs.Moments.{PlantState}
use Rattle.control_set.specs.declared.value.Mark.{Mark}
use Rattle.control_set.specs.declared.slot.Slot.{Slot}
use Rattle.control_set.specs.declared.slot.Slot.TheVariants.{Closed, Holds, Damaged}
use Rattle.control_set.specs.declared.slot.Slots.{Slots}
use Rattle.control_set.specs.Marks.{IsMark, mark_at}

-- ---- one slot

-- A slot's gate is its first byte. It is open exactly where it is 1.
abbrev pub is_open : List ℕ → Bool
is_open bytes = nat_le 1 (length bytes) && slice_index bytes 0 == 1

abbrev pub slot_read : Result (Mark × Left) Bad → Slot
slot_read (Ok found) = Holds found.0
slot_read (Err bad) = Damaged

-- A slot is closed, holds the mark of the 48 bytes behind its open gate, or is damaged.
abbrev pub slot_of : (lengths : List ℕ) → List ℕ → Slot
slot_of lengths bytes = if is_open bytes then slot_read (mark_at lengths (record { place = 1; bytes = slice_range bytes 1 49 })) else Closed

-- A slot's mark, if it holds one, keeps the table.
abbrev pub HoldsMark : (lengths : List ℕ) → Slot → Type 0
HoldsMark lengths (Holds m) = IsMark lengths m
HoldsMark lengths Closed = Unit {0}
HoldsMark lengths Damaged = Unit {0}

-- ---- the chosen mark

-- Of two marks the one with the greater number counts. Slot 0 is examined first. A damaged slot is damaged at its first
-- byte, and two marks of one number at the second's.
abbrev pub chosen_of : Slot → Slot → Result (Option Mark) ℕ
chosen_of Damaged second = Err 0
chosen_of Closed Damaged = Err SECOND
chosen_of Closed Closed = Ok None
chosen_of Closed (Holds n) = Ok (Some n)
chosen_of (Holds m) Damaged = Err SECOND
chosen_of (Holds m) Closed = Ok (Some m)
chosen_of (Holds m) (Holds n) = if m.number == n.number then Err SECOND else Ok (Some (if nat_lt m.number n.number then n else m))

-- The mark that counts among these bytes of the control, if any, or their first bad place.
abbrev pub chosen_mark : (lengths : List ℕ) → List ℕ → Result (Option Mark) ℕ
chosen_mark lengths control = chosen_of (slot_of lengths control) (slot_of lengths (drop SECOND control))

-- Neither slot's gate is open.
pub record NoGateOpen (control : List ℕ) : Type 0 where
  pub first : slice_index control 0 ≢ 1
  pub second : slice_index control SECOND ≢ 1

-- ---- the next mark

-- A next mark's number is one above the chosen mark's, or 1 where there is none. There is no next one where the control is
-- damaged.
abbrev pub IsNext : Result (Option Mark) ℕ → ℕ → Type 0
IsNext (Ok None) number = number ≡ 1
IsNext (Ok (Some m)) number = number ≡ m.number + 1
IsNext (Err place) number = ⊥

-- Whether the second slot is the free one: the first one holds the chosen mark.
abbrev pub is_second_free : Slot → Slot → Bool
is_second_free Closed second = false
is_second_free Damaged second = false
is_second_free (Holds m) Closed = true
is_second_free (Holds m) Damaged = true
is_second_free (Holds m) (Holds n) = nat_lt n.number m.number

abbrev pub place_of_slot : (is_second : Bool) → ℕ
place_of_slot is_second = if is_second then SECOND else 0

-- The place of the slot that isn't the chosen one. With no gate open it is 0.
abbrev pub free_place : (lengths : List ℕ) → List ℕ → ℕ
free_place lengths control = place_of_slot (is_second_free (slot_of lengths control) (slot_of lengths (drop SECOND control)))

-- The chosen mark is as it was or is the value, and outside the 49 bytes at this place all is as it was.
pub record OldOrNew (lengths : List ℕ) (value : Mark) (place : ℕ) (old new : List ℕ) : Type 0 where
  pub chosen : (chosen_mark lengths new ≡ chosen_mark lengths old) ⊎ (chosen_mark lengths new ≡ Ok (Some value))
  pub elsewhere : Torn place 49 old new

-- ---- the plant's journals

abbrev pub lengths_from : (ℕ → ℕ) → (first count : ℕ) → List ℕ
lengths_from length_at first zero = []
lengths_from length_at first (suc count) = length_at first ∷ lengths_from length_at (suc first) count

-- the lengths of the journals, in order of their numbers
abbrev pub lengths_of : PlantState → List ℕ
lengths_of plant = lengths_from (λ j. plant.lengths (Journal j)) 0 plant.journals

-- ---- slots that were read

-- These are the slots of these bytes.
pub record AreSlots (lengths control : List ℕ) (slots : Slots) : Type 0 where
  pub first : slots.first ≡ slot_of lengths control
  pub second : slots.second ≡ slot_of lengths (drop SECOND control)

-- whether nothing counts there
abbrev pub is_closed : Slot → Bool
is_closed Closed = true
is_closed (Holds m) = false
is_closed Damaged = false
