-- What the calls that put records at the journal's end ask, and what they answer.
use Rattle.std.specs.Prelude.{◌≡◌, ◌≢◌, ◌⊎◌, ◌<◌, ◌≤◌, ◌+◌, ◌-◌, ◌^◌, ℕ, List, [], ◌∷◌, ◌++◌, length, slice_index, Result, IsErrOf, OnOk}
use Rattle.crash_plant.specs.declared.layout.TheConstants.{FRONT, SWITCH}
use Rattle.crash_plant.specs.declared.spot.Spot.{Spot}
use Rattle.crash_plant.specs.declared.device.Device.{Device}
use Rattle.crash_plant.specs.declared.device.Device.TheVariants.{Journal}
use Rattle.crash_plant.specs.Bytes.{Torn, patched}
use Rattle.crash_plant.specs.Moments.{Follows, IsDurable, PlantState, Standing, on}
use Rattle.crash_plant.specs.Calls.{WorksOn}
use Rattle.crash_plant.specs.Choices.{AllFollow, Choice, IsChoice}
use Rattle.xrc_edge.specs.Causes.{Rose}
use Rattle.xrc_journal.specs.declared.journal.AppendError.{AppendError}
use Rattle.xrc_journal.specs.declared.journal.AppendError.TheVariants.{NoRoom, Fault}
use Rattle.xrc_journal.specs.Items.{AreItems, Form, Item, body_spelling, form_of}
use Rattle.xrc_journal.specs.Records.{group_spelling, most_body, next_set, spot_in, switch_spelling}
use Rattle.xrc_journal.specs.Walks.{Logged}
use Rattle.xrc_journal.specs.Laws.{HasRecordAt}
use Rattle.xrc_journal.specs.RingWalks.{AllEndThrough, HasGroup, HasSwitch, PutsGroup, PutsSwitch, spot_after_logged}

-- ---- what they ask

-- A record may be put at a spot: its data set is there, with room for a switch, and the number isn't above the most.
pub record MayGrow (plant : PlantState) (at : Spot) : Type 0 where
  pub there : at.set < plant.journals
  pub room : at.place + SWITCH ≤ plant.lengths (Journal at.set)
  pub number : at.number ≤ 2 ^ 64 - 2

-- The items keep the rules on one record, and aren't longer than the most.
pub record IsWholeBody (form : Form) (items : List Item) : Type 0 where
  pub keep : AreItems form items
  pub short : length (body_spelling items) ≤ most_body

-- The gate at a place isn't 1 in any image that a crash may leave now.
abbrev pub IsShutAt : (place : ℕ) → Standing → Type 0
IsShutAt place device = (image : List ℕ) → device.images device.clock image → slice_index image place ≢ 1

-- ---- one record on one device

-- While a record is put behind a gate that isn't 1, the gate is so still, or it is open before the whole record. It is put in a data set of
-- so many bytes, and only where so many are left. Elsewhere nothing changes.
pub record PutsRecord (size needed place : ℕ) (behind old new : List ℕ) : Type 0 where
  pub torn : Torn place (1 + length behind) old new
  pub long : slice_index new place ≡ 1 → length new ≡ size
  pub room : slice_index new place ≡ 1 → place + needed ≤ size
  pub stands : slice_index new place ≡ 1 → HasRecordAt place behind new

-- what is put behind a group's gate: the rest of the record, and a closed gate
abbrev pub group_behind_gate : Spot → (time : ℕ) → List Item → List ℕ
group_behind_gate at time items = group_spelling at.number time items ++ 0 ∷ []

-- At every moment of calls on a spot's device, the record behind the gate there is put.
abbrev pub AllPutRecord : (needed : ℕ) → Spot → (behind : List ℕ) → PlantState → PlantState → Type 0
AllPutRecord needed at behind old new = Follows (PutsRecord (old.lengths (Journal at.set)) needed at.place behind) (on old (Journal at.set)) (on new (Journal at.set))

-- A read gives the open gate and what was put behind it, and else what it gave before.
abbrev pub IsWritten : Spot → (behind : List ℕ) → PlantState → PlantState → Type 0
IsWritten at behind old new = new.bytes (Journal at.set) ≡ patched at.place (1 ∷ behind) (old.bytes (Journal at.set))

-- ---- what they answer

-- At every moment of the call, the walk of each choice is the old one, or has the record at its end.
abbrev pub AllPutGroup : (from at : Spot) → Logged → PlantState → PlantState → Type 0
AllPutGroup from at g old new = AllFollow (PutsGroup (form_of old) old.journals from at g) old new

abbrev pub AllPutSwitch : (from at : Spot) → (time : ℕ) → PlantState → PlantState → Type 0
AllPutSwitch from at time old new = AllFollow (PutsSwitch (form_of old) old.journals from at time) old new

-- Whatever a crash may leave now comes by this step from what it could leave when calls began.
abbrev pub NowFollow : (Choice → Choice → Type 0) → PlantState → PlantState → Type 0
NowFollow step old new = (c : Choice) → IsChoice new new.clock c → (b : Choice) × IsChoice old old.clock b × step b c

-- A group was put at a spot, and nothing else has changed. The walk to there has it at its end.
pub record GroupIsPut (from at : Spot) (g : Logged) (old new : PlantState) : Type 0 where
  pub walk : NowFollow (HasGroup (form_of old) old.journals from at g) old new
  pub written : IsWritten at (group_behind_gate at g.time g.items) old new
  pub durable : IsDurable (on new (Journal at.set))
  pub ends : AllEndThrough new from (spot_after_logged g at) g.time

-- A switch was put at a spot, and the first gate of the next data set was closed before. The walk to there has it at its end.
pub record SwitchIsPut (from at : Spot) (time : ℕ) (old new : PlantState) : Type 0 where
  pub walk : NowFollow (HasSwitch (form_of old) old.journals from at time) old new
  pub written : IsWritten at (switch_spelling at.number time (next_set old.journals at.set)) old new
  pub durable : IsDurable (on new (Journal at.set))
  pub closed : new.bytes (Journal (next_set old.journals at.set)) ≡ patched 0 (0 ∷ []) (old.bytes (Journal (next_set old.journals at.set)))
  pub closed_durable : IsDurable (on new (Journal (next_set old.journals at.set)))
  pub ends : AllEndThrough new from (spot_in (next_set old.journals at.set) at) time

-- the journals on which `switch` works
abbrev pub IsOfSwitch : (sets : ℕ) → Spot → Device → Type 0
IsOfSwitch sets at d = (d ≡ Journal at.set) ⊎ (d ≡ Journal (next_set sets at.set))

-- A fault names one of these journals, and its count of faults rose. No other count rises.
pub record GrowCause (among : Device → Type 0) (old new : PlantState) (result : Result (Unit {0}) AppendError) : Type 0 where
  pub fault : (j : ℕ) → IsErrOf result (Fault j) → among (Journal j) × Rose (old.faults (Journal j)) (new.faults (Journal j))
  pub others : (d : Device) → ((j : ℕ) → IsErrOf result (Fault j) → d ≢ Journal j) → new.faults d ≡ old.faults d

-- NoRoom is answered exactly where this is so, and with these numbers.
pub record RefusesRoom (why : Type 0) (needed free : ℕ) (result : Result (Unit {0}) AppendError) : Type 0 where
  pub refused : why → IsErrOf result (NoRoom needed free)
  pub only : (n f : ℕ) → IsErrOf result (NoRoom n f) → why × (n ≡ needed) × (f ≡ free)

-- the bytes that a group with these items needs, with those for a switch after it
abbrev pub room_for : List Item → ℕ
room_for items = FRONT + length (body_spelling items) + SWITCH

-- The rest of the data set is shorter.
abbrev pub IsFull : PlantState → Spot → List Item → Type 0
IsFull plant at items = plant.lengths (Journal at.set) < at.place + room_for items

-- `append` answers NoRoom exactly there, with the bytes that it needs and those that are left.
abbrev pub RefusesGroup : PlantState → Spot → List Item → Result (Unit {0}) AppendError → Type 0
RefusesGroup plant at items result = RefusesRoom (IsFull plant at items) (room_for items) (plant.lengths (Journal at.set) - at.place) result

-- `switch` answers it exactly where the next data set holds unmarked records: where the walk began there.
abbrev pub RefusesSwitch : PlantState → (from at : Spot) → Result (Unit {0}) AppendError → Type 0
RefusesSwitch plant from at result = RefusesRoom (next_set plant.journals at.set ≡ from.set) (plant.lengths (Journal (next_set plant.journals at.set))) 0 result

-- The next data set has room for a switch.
abbrev pub NextHasRoom : PlantState → Spot → Type 0
NextHasRoom plant at = SWITCH ≤ plant.lengths (Journal (next_set plant.journals at.set))

-- A group with this time and these items was put at a spot, if it fits there; and what is so then on the spot's device.
pub record PutsBody (tells : Type 0) (at : Spot) (time : ℕ) (items : List Item) (old new : PlantState) (result : Result (Unit {0}) AppendError) : Type 0 where
  pub moments : tells → AllPutRecord (room_for items) at (group_behind_gate at time items) old new
  pub written : tells → OnOk result (IsWritten at (group_behind_gate at time items) old new)
  pub durable : tells → OnOk result (IsDurable (on new (Journal at.set)))
  pub room : OnOk result (at.place + room_for items ≤ old.lengths (Journal at.set))
  pub fits : old.lengths (Journal at.set) < 2 ^ 64
  pub stamp : time < 2 ^ 64
  pub only : WorksOn tells (λ d. d ≡ Journal at.set) old new
  pub cause : GrowCause (λ d. d ≡ Journal at.set) old new result
  pub no_room : RefusesGroup old at items result
