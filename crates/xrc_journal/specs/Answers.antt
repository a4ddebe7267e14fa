-- What the walk's parts answer.
use Rattle.std.specs.Prelude.{◌≡◌, ◌≤◌, ◌<◌, ◌+◌, IsErrOf, ℕ, Bool, ◌-◌, ◌^◌, ◌==◌, ◌&&◌, List, [], slice_index, nat_lt, nat_le, Option, Some, None, Result, Ok, Err, length, if◌then◌else◌}
use Rattle.crash_plant.specs.declared.layout.TheConstants.{FRONT, SWITCH}
use Rattle.std.specs.Int.{w16}
use Rattle.tod_stamp.specs.Fields.{Left, Bad, number_at, within, u32_at, u64_at}
use Rattle.crash_plant.specs.declared.spot.Spot.{Spot}
use Rattle.xrc_journal.specs.declared.header.RecordHeader.{RecordHeader}
use Rattle.xrc_journal.specs.declared.header.RecordHeader.TheVariants.{Group as GroupHeader, Switch as SwitchHeader}
use Rattle.xrc_edge.specs.Causes.{Rose}
use Rattle.crash_plant.specs.declared.device.Device.{Device}
use Rattle.crash_plant.specs.declared.device.Device.TheVariants.{Journal}
use Rattle.crash_plant.specs.Moments.{PlantState, on, Follows, Same}
use Rattle.crash_plant.specs.Calls.{WorksOn}
use Rattle.xrc_journal.specs.declared.spot.Walked.{Walked}
use Rattle.xrc_journal.specs.declared.spot.Walked.TheVariants.{End as WalkedEnd, Group as WalkedGroup, Switch as WalkedSwitch}
use Rattle.xrc_journal.specs.declared.spot.WalkError.{WalkError}
use Rattle.xrc_journal.specs.declared.spot.WalkError.TheVariants.{Damaged as WalkDamaged, Fault as WalkFault}
use Rattle.xrc_journal.specs.Bodies.{BodyState}
use Rattle.xrc_journal.specs.Items.{Item, Form, item_spelling}
use Rattle.xrc_journal.specs.Records.{Found, RecordHead, is_body_length, stretch, next_set, group_or, switch_or}
use Rattle.xrc_journal.specs.Reading.{items_at}

abbrev pub keeps_header : (size : ℕ) → Spot → (last : ℕ) → List ℕ → Bool
keeps_header size at last bytes =
    within 1 2 (slice_index bytes 0) && ((u64_at bytes 1 == at.number && nat_lt (u64_at bytes 1) (2 ^ 64 - 1)) && (nat_le last (u64_at bytes 9) && is_body_length size at (slice_index bytes 0) (u32_at bytes 17)))

-- the times of a group and of a switch, and the length of a group's body
abbrev pub header_of : Result (RecordHead × Left) Bad → Option RecordHeader
header_of (Ok head) = if head.0.kind == 1 then Some (GroupHeader (record { 0 = head.0.time }) head.0.len) else Some (SwitchHeader (record { 0 = head.0.time }))
header_of (Err bad) = None

-- the length of an item that was read
abbrev pub length_of : Result (Item × Left) Bad → Option ℕ
length_of (Ok item) = Some (length (item_spelling item.0))
length_of (Err bad) = None

-- a group with this time and a body of this length, whose header keeps the rules
abbrev pub group_at : Form → (journal : List ℕ) → Spot → (time len : ℕ) → Found
group_at form journal at time len =
    let items = items_at form (at.place + FRONT) (stretch (at.place + FRONT) len journal) in
    group_or at (record { kind = 1; time = time; len = len }) items items.bad

-- a switch with this time, whose header keeps the rules
abbrev pub switch_at : (sets : ℕ) → (journal : List ℕ) → Spot → (time : ℕ) → Found
switch_at sets journal at time = switch_or at (record { kind = 2; time = time; len = 2 }) (number_at w16 (λ n. n == next_set sets at.set) (record { place = at.place + FRONT; bytes = stretch (at.place + FRONT) 2 journal }))

-- ---- the walk's answer

-- what is answered of what stands at a spot of this data set
abbrev pub told_of : (set : ℕ) → Found → Result Walked WalkError
told_of set Found.End = Ok WalkedEnd
told_of set (Found.Group time items after) = Ok (WalkedGroup (record { 0 = time }) after)
told_of set (Found.Switch time after) = Ok (WalkedSwitch (record { 0 = time }) after)
told_of set (Found.Damaged place items) = Err (WalkDamaged set place)

-- the items of what stands there, or those before a bad one
abbrev pub items_found : Found → List Item
items_found Found.End = []
items_found (Found.Group time items after) = items
items_found (Found.Switch time after) = []
items_found (Found.Damaged place items) = items

-- no fault was answered
abbrev pub NoFault : Result Walked WalkError → Type 0
NoFault result = (j : ℕ) → ¬ IsErrOf result (WalkFault j)

-- What stands there was answered, and its items are held.
pub record Finds (set : ℕ) (found : Found) (result : Result Walked WalkError) (old new : BodyState) : Type 0 where
  pub told : result ≡ told_of set found
  pub held : new ≡ record { items = items_found found; room = old.room }

-- A fault is answered only where the count of faults of this data set rose, and the count rises with no other answer.
pub record WalkCause (set before now : ℕ) (result : Result Walked WalkError) : Type 0 where
  pub fault : (j : ℕ) → IsErrOf result (WalkFault j) → (j ≡ set) × Rose before now
  pub others : NoFault result → now ≡ before

-- After a group the walk goes on in the same data set, which has room for a switch there, and after a switch at the start of a data
-- set of the plant. The number is one more.
abbrev pub WalkGoesOn : PlantState → (at : Spot) → Walked → Type 0
WalkGoesOn plant at WalkedEnd = Unit {0}
WalkGoesOn plant at (WalkedGroup time after) = (after.set ≡ at.set) × (after.place + SWITCH ≤ plant.lengths (Journal at.set)) × (after.number ≡ at.number + 1)
WalkGoesOn plant at (WalkedSwitch time after) = (after.set < plant.journals) × (after.place ≡ 0) × (after.number ≡ at.number + 1)

-- What a read of one device gives stays, and a crash leaves nothing there that it couldn't leave before. Nothing else changes.
pub record ReadsOnly (tells : Type 0) (device : Device) (old new : PlantState) : Type 0 where
  pub same : tells → new.bytes device ≡ old.bytes device
  pub moments : tells → Follows Same (on old device) (on new device)
  pub only : WorksOn tells (λ d. d ≡ device) old new
