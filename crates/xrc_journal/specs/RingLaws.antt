-- The laws of walks through data sets. Each is the contract of a public function without parameters.
use Rattle.std.specs.Prelude.{◌≡◌, ◌≢◌, ◌↔◌, ℕ, ◌^◌, ◌<◌, ◌+◌, List, [], ◌∷◌, ◌++◌, length, take, map, slice_index, true}
use Rattle.crash_plant.specs.declared.layout.TheConstants.{FRONT}
use Rattle.crash_plant.specs.declared.spot.Spot.{Spot}
use Rattle.xrc_journal.specs.Items.{Form, body_spelling}
use Rattle.xrc_journal.specs.Records.{group_spelling, next_set, spot_in, switch_spelling}
use Rattle.xrc_journal.specs.Walks.{Logged, Walks}
use Rattle.xrc_journal.specs.Laws.{HasRecordAt, MayStand, MaySwitch}
use Rattle.xrc_journal.specs.RingWalks.{WalkPlace, WalkRecord, WalksThrough, is_entered, spot_after_logged, walk_after, walk_at, walk_start}
use Rattle.xrc_journal.specs.RingWalks.WalkRecord.{OfGroup, OfSwitch}

-- The images are the same as far as a walk to this place depends on them: those of the data sets that it left, and the bytes before its
-- end. What stands in data sets that it didn't enter doesn't count.
pub record SameUpTo (to : WalkPlace) (old new : ℕ → List ℕ) : Type 0 where
  pub left : (set : ℕ) → is_entered set to.entered ≡ true → set ≢ to.at.set → new set ≡ old set
  pub before : take to.at.place (new to.at.set) ≡ take to.at.place (old to.at.set)
  pub size : length (new to.at.set) ≡ length (old to.at.set)

-- A walk stays one where its end's gate isn't 1.
abbrev pub WalksAreKept : Type 0
WalksAreKept = (form : Form) (sets : ℕ) (old new : ℕ → List ℕ) (from : Spot) (last : ℕ) (records : List WalkRecord) (to : WalkPlace) → SameUpTo to old new → slice_index (new to.at.set) to.at.place ≢ 1
    → WalksThrough form sets old (walk_start from last) records to → WalksThrough form sets new (walk_start from last) records to

-- A group that may stand there stands spelled at a walk's end, before a gate that isn't 1.
pub record HoldsGroupAt (form : Form) (to : WalkPlace) (g : Logged) (journal : List ℕ) : Type 0 where
  pub may : MayStand form (length journal) to.at to.last g.time g.items
  pub stands : HasRecordAt to.at.place (group_spelling to.at.number g.time g.items) journal
  pub shut : slice_index journal (to.at.place + FRONT + length (body_spelling g.items)) ≢ 1

-- It is the walk's last record then.
abbrev pub GroupsAreAdded : Type 0
GroupsAreAdded = (form : Form) (sets : ℕ) (old new : ℕ → List ℕ) (from : Spot) (last : ℕ) (records : List WalkRecord) (to : WalkPlace) (g : Logged) → SameUpTo to old new → HoldsGroupAt form to g (new to.at.set)
    → WalksThrough form sets old (walk_start from last) records to → WalksThrough form sets new (walk_start from last) (records ++ OfGroup g ∷ []) (walk_after (OfGroup g) (spot_after_logged g to.at) to)

-- A switch stands spelled at a walk's end, and leads to a data set that isn't that of the walk's start and whose first gate isn't 1.
pub record HoldsSwitchAt (sets : ℕ) (from : Spot) (to : WalkPlace) (time : ℕ) (images : ℕ → List ℕ) : Type 0 where
  pub there : to.at.set < sets
  pub few : next_set sets to.at.set < 2 ^ 16
  pub fresh : next_set sets to.at.set ≢ from.set
  pub may : MaySwitch to.at to.last time
  pub stands : HasRecordAt to.at.place (switch_spelling to.at.number time (next_set sets to.at.set)) (images to.at.set)
  pub shut : slice_index (images (next_set sets to.at.set)) 0 ≢ 1

-- It is the walk's last record then, too.
abbrev pub SwitchesAreAdded : Type 0
SwitchesAreAdded = (form : Form) (sets : ℕ) (old new : ℕ → List ℕ) (from : Spot) (last time : ℕ) (records : List WalkRecord) (to : WalkPlace) → SameUpTo to old new → HoldsSwitchAt sets from to time new
    → WalksThrough form sets old (walk_start from last) records to
    → WalksThrough form sets new (walk_start from last) (records ++ OfSwitch time ∷ []) (walk_after (OfSwitch time) (spot_in (next_set sets to.at.set) to.at) to)

-- Data sets are entered in turn. So the one after the walk's last was entered exactly where the walk began there.
abbrev pub SetsComeInTurn : Type 0
SetsComeInTurn = (form : Form) (sets : ℕ) (images : ℕ → List ℕ) (from : Spot) (last : ℕ) (records : List WalkRecord) (to : WalkPlace) → to.at.set < sets → WalksThrough form sets images (walk_start from last) records to
    → (is_entered (next_set sets to.at.set) to.entered ≡ true) ↔ (next_set sets to.at.set ≡ from.set)

-- There is one walk from a place.
abbrev pub WalksThroughAreOne : Type 0
WalksThroughAreOne = (form : Form) (sets : ℕ) (images : ℕ → List ℕ) (from : WalkPlace) (one two : List WalkRecord) (to there : WalkPlace) → WalksThrough form sets images from one to → WalksThrough form sets images from two there → (one ≡ two) × (to ≡ there)

-- A walk over one data set is one without a switch.
abbrev pub WalksAreWithin : Type 0
WalksAreWithin = (form : Form) (sets : ℕ) (images : ℕ → List ℕ) (entered : List ℕ) (from to : Spot) (last time : ℕ) (groups : List Logged)
    → Walks form sets (images from.set) from last groups to time ↔ WalksThrough form sets images (walk_at entered from last) (map OfGroup groups) (walk_at entered to time)
