-- The two slots of a target between its label and its first track: which is chosen, and what calls do to that.
use Rattle.std.specs.Prelude.{◌≡◌, ◌≢◌, ◌⊎◌, ℕ, ◌+◌, ◌==◌, ◌&&◌, List, length, take, drop, Bool, true, false, Option, Some, None, nat_lt, nat_le, if◌then◌else◌, slice_index, slice_range}
use Rattle.copy_progress.specs.declared.layout.TheConstants.{FIRST, SECOND, SLOT}
use Rattle.crash_plant.specs.Bytes.{Torn}
use Rattle.copy_progress.specs.declared.progress.Progress.{Progress}
use Rattle.copy_progress.specs.declared.slot.Seen.{Seen}
use Rattle.copy_progress.specs.declared.slot.Slots.{Slots}
use Rattle.copy_progress.specs.Progresses.{is_table_kept, progress_in}

-- ---- one slot

-- A slot of 43 bytes has a progress if its gate is open and its fields keep the table. A gate is open exactly where it is 1.
abbrev pub slot_in : List ℕ → Option Progress
slot_in bytes = if length bytes == SLOT && (slice_index bytes 0 == 1 && is_table_kept bytes) then Some (progress_in bytes) else None

-- the slot that bytes begin with
abbrev pub leading_progress : List ℕ → Option Progress
leading_progress bytes = slot_in (take SLOT bytes)

-- ---- the chosen one

-- Of two the one with the greater number is chosen, and the first where they are equal.
abbrev pub greater_of : Option Progress → Option Progress → Option Progress
greater_of None second = second
greater_of (Some m) None = Some m
greater_of (Some m) (Some n) = if nat_lt m.number n.number then Some n else Some m

abbrev pub chosen_progress : List ℕ → Option Progress
chosen_progress volume = greater_of (leading_progress (drop FIRST volume)) (leading_progress (drop SECOND volume))

-- Neither gate is open.
pub record IsCleared (volume : List ℕ) : Type 0 where
  pub first : slice_index volume FIRST ≢ 1
  pub second : slice_index volume SECOND ≢ 1

-- ---- the next one

abbrev pub IsNextNumber : Option Progress → ℕ → Type 0
IsNextNumber None number = number ≡ 1
IsNextNumber (Some m) number = number ≡ m.number + 1

-- Whether the second slot is the free one: the first is chosen.
abbrev pub is_second_slot_free : Option Progress → Option Progress → Bool
is_second_slot_free None second = false
is_second_slot_free (Some m) None = true
is_second_slot_free (Some m) (Some n) = nat_le n.number m.number

abbrev pub progress_place : (is_second : Bool) → ℕ
progress_place is_second = if is_second then SECOND else FIRST

abbrev pub free_progress_place : List ℕ → ℕ
free_progress_place volume = progress_place (is_second_slot_free (leading_progress (drop FIRST volume)) (leading_progress (drop SECOND volume)))

-- The chosen progress is as it was or is the value, and outside the 43 bytes at this place all is as it was.
pub record OldOrNext (value : Progress) (place : ℕ) (old new : List ℕ) : Type 0 where
  pub chosen : (chosen_progress new ≡ chosen_progress old) ⊎ (chosen_progress new ≡ Some value)
  pub elsewhere : Torn place SLOT old new

-- A crash leaves what it could leave before, or what reads gave, of which the chosen progress is as it was or is the value.
abbrev pub NotesNext : Progress → (now : List ℕ) → (old new : List ℕ) → Type 0
NotesNext value now old new = (new ≡ old) ⊎ OldOrNext value (free_progress_place now) now new

-- The chosen progress is as it was or there is none, and but for the two gates all is as it was.
pub record Clears (old new : List ℕ) : Type 0 where
  pub chosen : (chosen_progress new ≡ chosen_progress old) ⊎ (chosen_progress new ≡ None)
  pub before : take FIRST new ≡ take FIRST old
  pub between : slice_range new (FIRST + 1) SECOND ≡ slice_range old (FIRST + 1) SECOND
  pub behind : drop (SECOND + 1) new ≡ drop (SECOND + 1) old
  pub size : length new ≡ length old

-- ---- slots that were read

-- This was seen of the slot that bytes begin with.
pub record IsSlotSeen (bytes : List ℕ) (seen : Seen) : Type 0 where
  pub gate : seen.is_open ≡ (slice_index bytes 0 == 1)
  pub progress : seen.progress ≡ leading_progress bytes

pub record AreProgressSlots (volume : List ℕ) (slots : Slots) : Type 0 where
  pub first : IsSlotSeen (drop FIRST volume) slots.first
  pub second : IsSlotSeen (drop SECOND volume) slots.second
