-- The walk through the data sets of a plant, record by record up to the first gate that isn't 1, and what becomes of it while a
-- record is put at its end.
use Rattle.std.specs.Prelude.{◌≡◌, ◌≢◌, ◌⊎◌, ◌==◌, ℕ, ◌+◌, ◌≤◌, List, [], ◌∷◌, ◌++◌, length, Bool, false}
use Rattle.std.specs.List.{list_any}
use Rattle.crash_plant.specs.declared.layout.TheConstants.{SWITCH}
use Rattle.crash_plant.specs.declared.spot.Spot.{Spot}
use Rattle.crash_plant.specs.declared.device.Device.{Device}
use Rattle.crash_plant.specs.declared.device.Device.TheVariants.{Journal}
use Rattle.crash_plant.specs.Bytes.{Torn}
use Rattle.crash_plant.specs.Moments.{PlantState}
use Rattle.crash_plant.specs.Choices.{AtNow, Choice}
use Rattle.xrc_journal.specs.Items.{Form, body_spelling, form_of}
use Rattle.xrc_journal.specs.Records.{Found, next_set, spot_after, spot_in, walk_one}
use Rattle.xrc_journal.specs.Records.Found.{End, Group, Switch}
use Rattle.xrc_journal.specs.Walks.{Logged}

-- ---- records in turn

-- a record of a walk: a group, or a switch of this time to the next data set
pub data WalkRecord : Type 0 where
  OfGroup : (group : Logged) → WalkRecord
  OfSwitch : (time : ℕ) → WalkRecord

abbrev pub record_time : WalkRecord → ℕ
record_time (OfGroup g) = g.time
record_time (OfSwitch time) = time

-- where a walk stands: the data sets that it has entered in order, the spot, and the time of the record before
pub record WalkPlace : Type 0 where
  pub entered : List ℕ
  pub at : Spot
  pub last : ℕ

abbrev pub walk_at : (entered : List ℕ) → Spot → (last : ℕ) → WalkPlace
walk_at entered at last = record { entered = entered; at = at; last = last }

-- where a walk begins
abbrev pub walk_start : Spot → (last : ℕ) → WalkPlace
walk_start from last = walk_at (from.set ∷ []) from last

-- where it stands after a record that leads to a spot
abbrev pub walk_after : WalkRecord → (after : Spot) → WalkPlace → WalkPlace
walk_after (OfGroup g) after p = walk_at p.entered after g.time
walk_after (OfSwitch time) after p = walk_at (p.entered ++ after.set ∷ []) after time

-- whether a data set was entered
abbrev pub is_entered : (set : ℕ) → (entered : List ℕ) → Bool
is_entered set entered = list_any (λ e. e == set) entered

-- what stands where a walk stands, in these images of the data sets
abbrev pub found_there : Form → (sets : ℕ) → (images : ℕ → List ℕ) → WalkPlace → Found
found_there form sets images p = walk_one form sets (images p.at.set) p.at p.last

-- These records in turn lead from one place to another. A data set that was entered before is not entered again.
abbrev pub LeadsTo : Form → (sets : ℕ) → (images : ℕ → List ℕ) → (from : WalkPlace) → List WalkRecord → (to : WalkPlace) → Type 0
LeadsTo form sets images from [] to = to ≡ from
LeadsTo form sets images from (OfGroup g ∷ records) to = (after : Spot) × (found_there form sets images from ≡ Group g.time g.items after) × LeadsTo form sets images (walk_after (OfGroup g) after from) records to
LeadsTo form sets images from (OfSwitch time ∷ records) to =
    (after : Spot) × (found_there form sets images from ≡ Switch time after) × (is_entered after.set from.entered ≡ false) × LeadsTo form sets images (walk_after (OfSwitch time) after from) records to

-- The walk from one place has these records, and a gate that isn't 1 at another place ends it.
pub record WalksThrough (form : Form) (sets : ℕ) (images : ℕ → List ℕ) (from : WalkPlace) (records : List WalkRecord) (to : WalkPlace) : Type 0 where
  pub leads : LeadsTo form sets images from records to
  pub ends : found_there form sets images to ≡ End

-- ---- the walk's end

-- the images of the data sets, among those of all devices
abbrev pub journal_images : Choice → ℕ → List ℕ
journal_images choice set = choice (Journal set)

-- The walk is defined, and it ends at a spot with room for a switch. No time of it is above the cut.
pub record EndsThrough (form : Form) (sets : ℕ) (from to : Spot) (cut : ℕ) (images : ℕ → List ℕ) : Type 0 where
  pub last : ℕ
  pub records : List WalkRecord
  pub entered : List ℕ
  pub time : ℕ
  pub walks : WalksThrough form sets images (walk_start from last) records (walk_at entered to time)
  pub up_to : time ≤ cut
  pub room : to.place + SWITCH ≤ length (images to.set)

-- It is so whatever a crash may leave now.
abbrev pub AllEndThrough : PlantState → (from to : Spot) → (cut : ℕ) → Type 0
AllEndThrough plant from to cut = AtNow (λ choice. EndsThrough (form_of plant) plant.journals from to cut (journal_images choice)) plant

-- ---- a record at its end

-- Whatever the walk to a spot over the old images is, it is that over the new ones.
abbrev pub KeepsThrough : Form → (sets : ℕ) → (from to : Spot) → (old new : ℕ → List ℕ) → Type 0
KeepsThrough form sets from to old new = (last time : ℕ) (records : List WalkRecord) (entered : List ℕ) → WalksThrough form sets old (walk_start from last) records (walk_at entered to time)
    → WalksThrough form sets new (walk_start from last) records (walk_at entered to time)

-- Whatever the walk to a spot over the old images is, up to the record's time, that over the new ones has the record at its end, and
-- ends after it.
abbrev pub AddsThrough : Form → (sets : ℕ) → (from to : Spot) → WalkRecord → (after : Spot) → (old new : ℕ → List ℕ) → Type 0
AddsThrough form sets from to r after old new = (last time : ℕ) (records : List WalkRecord) (entered : List ℕ) → WalksThrough form sets old (walk_start from last) records (walk_at entered to time) → time ≤ record_time r
    → WalksThrough form sets new (walk_start from last) (records ++ r ∷ []) (walk_after r after (walk_at entered to time))

-- The walk is the old one, or has the record at its end.
abbrev pub KeepsOrAdds : Form → (sets : ℕ) → (from to : Spot) → WalkRecord → (after : Spot) → (old new : Choice) → Type 0
KeepsOrAdds form sets from to r after old new = KeepsThrough form sets from to (journal_images old) (journal_images new) ⊎ AddsThrough form sets from to r after (journal_images old) (journal_images new)

-- the spot after a group that is put at one
abbrev pub spot_after_logged : Logged → Spot → Spot
spot_after_logged g at = spot_after at (length (body_spelling g.items))

-- All but the range of a group's record and of the next gate is as it was.
pub record GroupRange (to : Spot) (g : Logged) (old new : Choice) : Type 0 where
  pub torn : Torn to.place (length (body_spelling g.items) + 23) (old (Journal to.set)) (new (Journal to.set))
  pub others : (d : Device) → d ≢ Journal to.set → new d ≡ old d

-- While a group is put at the end, the walk is the old one, or has the group at its end.
pub record PutsGroup (form : Form) (sets : ℕ) (from to : Spot) (g : Logged) (old new : Choice) : Type 0 where
  pub walk : KeepsOrAdds form sets from to (OfGroup g) (spot_after_logged g to) old new
  pub range : GroupRange to g old new

-- Once it was put there, it is the walk's last.
pub record HasGroup (form : Form) (sets : ℕ) (from to : Spot) (g : Logged) (old new : Choice) : Type 0 where
  pub walk : AddsThrough form sets from to (OfGroup g) (spot_after_logged g to) (journal_images old) (journal_images new)
  pub range : GroupRange to g old new

-- All but the range of a switch and the first gate of the next data set is as it was.
pub record SwitchRange (sets : ℕ) (to : Spot) (old new : Choice) : Type 0 where
  pub torn : Torn to.place SWITCH (old (Journal to.set)) (new (Journal to.set))
  pub gate : Torn 0 1 (old (Journal (next_set sets to.set))) (new (Journal (next_set sets to.set)))
  pub others : (d : Device) → d ≢ Journal to.set → d ≢ Journal (next_set sets to.set) → new d ≡ old d

-- While a switch is put at the end, the walk is the old one, or has the switch at its end.
pub record PutsSwitch (form : Form) (sets : ℕ) (from to : Spot) (time : ℕ) (old new : Choice) : Type 0 where
  pub walk : KeepsOrAdds form sets from to (OfSwitch time) (spot_in (next_set sets to.set) to) old new
  pub range : SwitchRange sets to old new

-- Once it was put there, it is the walk's last.
pub record HasSwitch (form : Form) (sets : ℕ) (from to : Spot) (time : ℕ) (old new : Choice) : Type 0 where
  pub walk : AddsThrough form sets from to (OfSwitch time) (spot_in (next_set sets to.set) to) (journal_images old) (journal_images new)
  pub range : SwitchRange sets to old new
