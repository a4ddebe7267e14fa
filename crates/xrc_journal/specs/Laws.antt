-- The laws of items, records and walks. Each is the contract of a public function without parameters.
use Rattle.std.specs.Prelude.{◌≡◌, ◌≢◌, ◌↔◌, ℕ, ◌+◌, ◌-◌, ◌^◌, ◌<◌, ◌≤◌, List, ◌∷◌, ◌++◌, length, drop, slice_index}
use Rattle.crash_plant.specs.declared.layout.TheConstants.{FRONT, SWITCH}
use Rattle.tod_stamp.specs.Fields.{IsBytes}
use Rattle.crash_plant.specs.declared.spot.Spot.{Spot}
use Rattle.xrc_journal.specs.Items.{Item, Form, AreItems, body_spelling}
use Rattle.xrc_journal.specs.Records.{group_spelling, switch_spelling, most_body, next_set, spot_after, spot_in, walk_one}
use Rattle.xrc_journal.specs.Records.Found.{End, Group, Switch}
use Rattle.xrc_journal.specs.Walks.{Logged, Walks}

-- ---- records

-- A record stands at a place, behind an open gate.
abbrev pub HasRecordAt : (place : ℕ) → (behind : List ℕ) → (journal : List ℕ) → Type 0
HasRecordAt place behind journal = (rest : List ℕ) × (drop place journal ≡ 1 ∷ behind ++ rest)

-- a group that may stand at a spot of a data set of so many bytes, after a record of a time
pub record MayStand (form : Form) (size : ℕ) (at : Spot) (last time : ℕ) (items : List Item) : Type 0 where
  pub keep : AreItems form items
  pub short : length (body_spelling items) ≤ most_body
  pub room : at.place + FRONT + length (body_spelling items) + SWITCH ≤ size
  pub number : at.number < 2 ^ 64 - 1
  pub later : last ≤ time
  pub stamp : time < 2 ^ 64

-- A group that stands spelled behind an open gate is walked over, whatever follows.
abbrev pub GroupsAreWalked : Type 0
GroupsAreWalked = (form : Form) (sets : ℕ) (journal : List ℕ) (at : Spot) (last time : ℕ) (items : List Item) → MayStand form (length journal) at last time items → HasRecordAt at.place (group_spelling at.number time items) journal
    → walk_one form sets journal at last ≡ Group time items (spot_after at (length (body_spelling items)))

-- What is walked over as a group stands spelled behind an open gate.
abbrev pub GroupsAreSpelled : Type 0
GroupsAreSpelled = (form : Form) (sets : ℕ) (journal : List ℕ) (at after : Spot) (last time : ℕ) (items : List Item) → IsBytes journal → walk_one form sets journal at last ≡ Group time items after
    → MayStand form (length journal) at last time items × HasRecordAt at.place (group_spelling at.number time items) journal × (after ≡ spot_after at (length (body_spelling items)))

-- So is a switch to the next data set.
abbrev pub SwitchesAreWalked : Type 0
SwitchesAreWalked = (form : Form) (sets : ℕ) (journal : List ℕ) (at : Spot) (last time : ℕ) → next_set sets at.set < 2 ^ 16 → at.number < 2 ^ 64 - 1 → last ≤ time → time < 2 ^ 64
    → HasRecordAt at.place (switch_spelling at.number time (next_set sets at.set)) journal → walk_one form sets journal at last ≡ Switch time (spot_in (next_set sets at.set) at)

-- a switch that may stand at a spot, after a record of a time
pub record MaySwitch (at : Spot) (last time : ℕ) : Type 0 where
  pub number : at.number < 2 ^ 64 - 1
  pub later : last ≤ time
  pub stamp : time < 2 ^ 64

-- What is walked over as a switch stands spelled behind an open gate, and leads to the next data set.
abbrev pub SwitchesAreSpelled : Type 0
SwitchesAreSpelled = (form : Form) (sets : ℕ) (journal : List ℕ) (at after : Spot) (last time : ℕ) → IsBytes journal → walk_one form sets journal at last ≡ Switch time after
    → MaySwitch at last time × HasRecordAt at.place (switch_spelling at.number time (next_set sets at.set)) journal × (after ≡ spot_in (next_set sets at.set) at)

-- No record stands at a spot exactly where its gate isn't 1.
abbrev pub EndsAreShut : Type 0
EndsAreShut = (form : Form) (sets : ℕ) (journal : List ℕ) (at : Spot) (last : ℕ) → (walk_one form sets journal at last ≡ End) ↔ (slice_index journal at.place ≢ 1)

-- ---- walks

-- There is one walk from a spot.
abbrev pub WalksAreOne : Type 0
WalksAreOne = (form : Form) (sets : ℕ) (image : List ℕ) (from : Spot) (last : ℕ) (one two : List Logged) (to end : Spot) (time later : ℕ) → Walks form sets image from last one to time → Walks form sets image from last two end later
    → (one ≡ two) × (to ≡ end) × (time ≡ later)
