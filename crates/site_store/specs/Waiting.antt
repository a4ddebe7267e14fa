-- The volumes for which items of a site wait.
use Rattle.std.specs.Prelude.{IsTrue}
use Rattle.crash_plant.specs.declared.device.Device.{Device}
use Rattle.crash_plant.specs.declared.device.Device.TheVariants.{Control, State, Journal, Volume}
use Rattle.site_store.specs.Jobs.{has_device}
use Rattle.site_store.specs.Sites.{SiteState}

abbrev pub IsOfWaiting : SiteState → Device → Type 0
IsOfWaiting site Control = ⊥
IsOfWaiting site State = ⊥
IsOfWaiting site (Journal j) = ⊥
IsOfWaiting site (Volume v) = IsTrue (has_device v site.waiting)
