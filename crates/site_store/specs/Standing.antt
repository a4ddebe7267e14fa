-- What is between a site's calls: that its numbers fit the plant, and what every crash would leave.
use Rattle.std.specs.Prelude.{◌≡◌, ◌⊎◌, ℕ, ◌+◌, ◌*◌, ◌<◌, ◌≤◌, ◌&&◌, List, [], ◌++◌, length, Bool, true, false, nat_lt, nat_le, Some, Ok, IsTrue}
use Rattle.std.specs.List.{list_all, Contains}
use Rattle.crash_plant.specs.declared.layout.TheConstants.{CONTROL_LENGTH, STATE_LENGTH}
use Rattle.ckd_track.specs.declared.layout.TheConstants.{CYLINDER_LENGTH, FIRST_SLOT}
use Rattle.xrc_edge.specs.declared.limits.TheConstants.{FEWEST_JOURNALS, MOST_CONTROLS, MOST_JOURNALS, MOST_SITE_VOLUMES}
use Rattle.ckd_track.specs.SlotPlaces.{slot_track}
use Rattle.crash_plant.specs.declared.device.Device.TheVariants.{Control, State, Journal, Volume}
use Rattle.crash_plant.specs.Calls.{NoneLent}
use Rattle.crash_plant.specs.Choices.{Choice, IsChoice}
use Rattle.crash_plant.specs.Moments.{PlantState, IsDurable, on}
use Rattle.control_set.specs.Marks.{IsMark}
use Rattle.control_set.specs.Slots.{lengths_of}
use Rattle.pair_table.specs.declared.row.PairRow.{PairRow}
use Rattle.xrc_journal.specs.Items.{AreItems, Item, form_of}
use Rattle.xrc_journal.specs.Contents.{HasItem, content_through}
use Rattle.xrc_journal.specs.Lengths.{journal_length}
use Rattle.site_store.specs.Exceptions.{Exceptions}
use Rattle.site_means.specs.Images.{shape_of}
use Rattle.site_means.specs.Meaning.{chosen_in, meaning}
use Rattle.site_means.specs.Meaning.Meaning.{Meant}
use Rattle.site_means.specs.Walk.{Walk, walk_items}
use Rattle.site_store.specs.Sites.{SiteState, has_failed, is_written, meant_for}

-- ---- the plant

-- The lengths and numbers of a site's devices: control and state, 2 to 16 journals that hold the largest record of so many
-- controllers, and up to 64 volumes.
pub record HasLengths (controls : ℕ) (plant : PlantState) : Type 0 where
  pub control : CONTROL_LENGTH ≤ plant.lengths Control
  pub state : STATE_LENGTH ≤ plant.lengths State
  pub journals : (FEWEST_JOURNALS ≤ plant.journals) × (plant.journals ≤ MOST_JOURNALS)
  pub journal : (j : ℕ) → j < plant.journals → journal_length controls ≤ plant.lengths (Journal j)
  pub volumes : plant.volumes ≤ MOST_SITE_VOLUMES

-- A row's device is a volume of the plant, and has the slots of the row's cylinders.
abbrev pub row_has_volume : PlantState → PairRow → Bool
row_has_volume plant row = nat_lt row.device plant.volumes && nat_le (FIRST_SLOT + row.cylinders * CYLINDER_LENGTH) (plant.lengths (Volume row.device))

-- A site's numbers fit the plant, whether this tells its bytes or not.
pub record FitsPlant (site : SiteState) (plant : PlantState) : Type 0 where
  pub home : NoneLent plant
  pub controls : (1 ≤ site.controls) × (site.controls ≤ MOST_CONTROLS)
  pub lengths : HasLengths site.controls plant
  pub rows : IsTrue (list_all (row_has_volume plant) site.table.rows)
  pub told : IsTrue (list_all (row_has_volume plant) site.told)
  pub mark : IsMark (lengths_of plant) site.mark
  pub session : site.mark.session ≡ site.table.session
  pub started : site.table.is_started ≡ true
  pub set : site.at.set < plant.journals
  pub room : site.at.place + 24 ≤ plant.lengths (Journal site.at.set)
  pub next : 1 ≤ site.at.number
  pub time : 1 ≤ site.time
  pub failed : length site.failed ≡ plant.volumes
  pub written : length site.written ≡ plant.volumes
  -- the slots of the tracks of which items wait lie in their volumes
  pub items : AreItems (form_of plant) site.waiting

-- ---- what every crash would leave

-- no track is excepted
abbrev pub none_excepted : Exceptions
none_excepted device track = false

-- But for excepted tracks, what a volume's slots hold is what the items leave of it.
abbrev pub AreApplied : (excepted : (track : ℕ) → Bool) → List Item → (device : ℕ) → (volume : List ℕ) → Type 0
AreApplied excepted items device volume = (x : ℕ) → excepted x ≡ false → slot_track volume x ≡ content_through device x items (slot_track volume x)

-- Every crash now leaves one meaning: the site's, by a walk that ends at the site's spot. The walk's items were applied to each volume
-- whose job hasn't failed, but for those that wait and for excepted tracks.
pub record SiteStands (excepted : Exceptions) (site : SiteState) (plant : PlantState) : Type 0 where
  pub walk : Walk
  pub meant : (c : Choice) → IsChoice plant plant.clock c → meaning plant c ≡ Meant (meant_for site) walk
  pub chosen : (c : Choice) → IsChoice plant plant.clock c → chosen_in (shape_of plant) c ≡ Ok (Some site.mark)
  pub at : walk.at ≡ site.at
  pub last : walk.last ≡ site.time
  pub control : IsDurable (on plant Control)
  pub state : IsDurable (on plant State)
  pub journals : (j : ℕ) → Contains walk.entered j → IsDurable (on plant (Journal j))
  pub done : List Item
  pub items : walk_items walk ≡ done ++ site.waiting
  pub applied : (d : ℕ) → d < plant.volumes → has_failed site d ≡ false → AreApplied (excepted d) done d (plant.bytes (Volume d))
  -- A volume that wasn't written since the mark has no item among them that was applied.
  pub unwritten : (d : ℕ) → d < plant.volumes → is_written site d ≡ false → (x : ℕ) → HasItem d x done → (has_failed site d ≡ true) ⊎ (excepted d x ≡ true)

-- ---- when a call may come

-- The numbers fit, and every crash leaves the site, for some tracks excepted.
pub record StandsFast (tells : Type 0) (site : SiteState) (plant : PlantState) : Type 0 where
  pub fits : FitsPlant site plant
  pub stands : tells → (excepted : Exceptions) × SiteStands excepted site plant

-- A record may be logged: besides, no change waits to be logged, and no item waits to be applied.
pub record MayRecord (tells : Type 0) (site : SiteState) (plant : PlantState) : Type 0 where
  pub fast : StandsFast tells site plant
  pub level : site.is_ahead ≡ false
  pub idle : site.waiting ≡ []

-- What a call leaves for the next one. `now` gives the tracks that are excepted after it, by those before.
pub record Leaves (tells : Type 0) (now : Exceptions → Exceptions) (site next : SiteState) (old new : PlantState) : Type 0 where
  pub fits : FitsPlant next new
  pub stands : tells → (excepted : Exceptions) → SiteStands excepted site old → SiteStands (now excepted) next new
