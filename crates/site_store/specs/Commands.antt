-- Commands on a site's pairs: the site after a change of the table.
use Rattle.std.specs.Prelude.{◌≡◌, ◌≢◌, ℕ, length, nat_lt, nat_le, IsTrue, ◌+◌, ◌*◌, ◌<◌, ◌≤◌, ◌==◌, ◌&&◌, ◌||◌, List, [], ◌∷◌, Bool, true, false, Option, Some, None, Ok, if◌then◌else◌}
use Rattle.std.specs.List.{list_all}
use Rattle.ckd_track.specs.declared.layout.TheConstants.{CYLINDER_LENGTH, FIRST_SLOT}
use Rattle.xrc_edge.specs.declared.limits.TheConstants.{MOST_SITE_VOLUMES}
use Rattle.crash_plant.specs.declared.device.Device.TheVariants.{Volume}
use Rattle.crash_plant.specs.Moments.{PlantState}
use Rattle.pair_table.specs.declared.command.Change.{Change}
use Rattle.pair_table.specs.declared.command.Change.TheVariants.{Nothing, Started, Added, Resumed, Gone, Suspended, Ended}
use Rattle.pair_table.specs.declared.command.Command.{Command}
use Rattle.pair_table.specs.declared.names.NamedDevice.{NamedDevice}
use Rattle.pair_table.specs.declared.row.PairRow.{PairRow}
use Rattle.pair_table.specs.Commands.{MayCommand, answer, table_after}
use Rattle.pair_table.specs.Naming.{Naming}
use Rattle.pair_table.specs.Tables.{Table, are_below, with_row, with_rows}
use Rattle.site_store.specs.Changing.{Lead, MayChange, changed_items, named_devices}
use Rattle.site_store.specs.Hits.{are_some}
use Rattle.site_store.specs.Sites.{SiteState, has_failed}
use Rattle.site_store.specs.Standing.{FitsPlant, Leaves, StandsFast, row_has_volume}
use Rattle.site_store.specs.Exceptions.{Exceptions}

-- The rows of the table are on volumes.
abbrev pub AreOnVolumes : SiteState → Type 0
AreOnVolumes site = IsTrue (are_below (length site.failed) site.table.rows)

-- A command may come to a site: its session has started, its names label volumes alone, and its rows are on volumes.
pub record MayDo (names : Naming) (site : SiteState) : Type 0 where
  pub command : MayCommand names site.table.rows
  pub started : site.table.is_started ≡ true
  pub labels : IsTrue (list_all (λ label. nat_lt label.device (length site.failed)) names.labels)
  pub rows : AreOnVolumes site

-- the device of a pair that was added or resumed
abbrev pub is_added : Change → (device : ℕ) → Bool
is_added Nothing d = false
is_added Started d = false
is_added (Added device) d = device == d
is_added (Resumed device) d = device == d
is_added (Gone devices) d = false
is_added (Suspended devices) d = false
is_added Ended d = false

-- the same, where there is one
abbrev pub added_device : Change → Option ℕ
added_device Nothing = None
added_device Started = None
added_device (Added device) = Some device
added_device (Resumed device) = Some device
added_device (Gone devices) = None
added_device (Suspended devices) = None
added_device Ended = None

-- The pair that a change adds or resumes is on one of so many devices.
abbrev pub AddsBelow : (devices : ℕ) → Change → Type 0
AddsBelow devices change = (d : ℕ) → is_added change d ≡ true → d < devices

abbrev pub without_flag : (device : ℕ) → (change : Change) → List Bool → List Bool
without_flag device change [] = []
without_flag device change (flag ∷ flags) = (if is_added change device then false else flag) ∷ without_flag (device + 1) change flags

-- whether a change alters a row
abbrev pub alters : Change → Bool
alters Nothing = false
alters Started = false
alters (Added device) = true
alters (Resumed device) = true
alters (Gone devices) = are_some devices
alters (Suspended devices) = are_some devices
alters Ended = false

-- the site with another table, which the devices don't tell yet
abbrev pub ahead_of : Table → SiteState → SiteState
ahead_of table site = record site { table = table; is_ahead = true }

-- The same after a command's change: the job of an added pair's device may be used again.
abbrev pub with_change : Table → Change → SiteState → SiteState
with_change table change site =
    record site { table = table; is_ahead = site.is_ahead || alters change; failed = without_flag 0 change site.failed }

-- The tracks of a device whose job may be used again are excepted: items of them may not have been applied.
abbrev pub excepted_by_change : Change → SiteState → Exceptions → Exceptions
excepted_by_change change site excepted d x = excepted d x || (has_failed site d && is_added change d)

-- ---- what comes next

-- A change is to be logged after a site: it names few devices, and its items lead from the rows on the devices to those of the table.
pub record IsToLog (change : Change) (site : SiteState) : Type 0 where
  pub few : named_devices change ≤ MOST_SITE_VOLUMES
  pub ahead : changed_items change site.table.rows ≢ [] → site.is_ahead ≡ true
  pub lead : Lead (length site.failed) (changed_items change site.table.rows) site.told site.table.rows

-- A label's device is a volume of the plant, and has the slots of the label's cylinders.
abbrev pub label_has_volume : PlantState → NamedDevice → Bool
label_has_volume plant label =
    nat_lt label.device plant.volumes && nat_le (FIRST_SLOT + label.cylinders * CYLINDER_LENGTH) (plant.lengths (Volume label.device))

abbrev pub LabelsFit : PlantState → Naming → Type 0
LabelsFit plant names = IsTrue (list_all (label_has_volume plant) names.labels)

-- the site after a command that was answered with a change
abbrev pub after_command : Naming → (session : List ℕ) → Command → (at : ℕ) → Change → SiteState → SiteState
after_command names session command at change site = with_change (table_after names site.table session command at) change site

-- A command calls no device: what stood stands after it, but that tracks of an added pair's device may be excepted.
abbrev pub CommandsLeaveSites : (tells : Type 0) → PlantState → Type 0
CommandsLeaveSites tells plant = (names : Naming) (site : SiteState) (session : List ℕ) (command : Command) (at : ℕ) (change : Change)
    → LabelsFit plant names → answer names site.table session command ≡ Ok change → FitsPlant site plant
    → Leaves tells (excepted_by_change change site) site (after_command names session command at change site) plant plant

-- the site with a row that was put
abbrev pub after_put : PairRow → SiteState → SiteState
after_put row site = ahead_of (with_rows site.table (with_row row site.table.rows)) site

-- The same of a row that is put, whose device is a volume that has the slots of the row's cylinders.
abbrev pub PutRowsLeaveSites : (tells : Type 0) → PlantState → Type 0
PutRowsLeaveSites tells plant = (row : PairRow) (site : SiteState) → IsTrue (row_has_volume plant row) → FitsPlant site plant
    → Leaves tells (λ e. e) site (after_put row site) plant plant

-- A change that is to be logged may be logged where the site stands, no item waits, and the cut isn't below the site's time.
abbrev pub ChangesMayBeLogged : (tells : Type 0) → PlantState → Type 0
ChangesMayBeLogged tells plant = (cut : ℕ) (change : Change) (site : SiteState) → StandsFast tells site plant → site.waiting ≡ []
    → site.time ≤ cut → IsToLog change site → MayChange tells cut change site plant
