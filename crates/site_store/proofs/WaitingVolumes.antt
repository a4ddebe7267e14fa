-- The volumes that were due are those for which items of the site wait.
use Rattle.std.proofs.Common.{◌≡◌, ℕ, Bool, false, List, get_or, sym, ◌∙◌}
use Rattle.crash_plant.specs.declared.device.Device.{Device}
use Rattle.crash_plant.specs.declared.device.Device.TheVariants.{Control, State, Journal, Volume}
use Rattle.crash_plant.specs.Moments.{PlantState}
use Rattle.applier.specs.Returns.{WorksOnLent}
use Rattle.applier.proofs.Works.{works_lent_more}
use Rattle.site_store.specs.Jobs.{has_device}
use Rattle.site_store.specs.Marking.{IsAmong}
use Rattle.site_store.specs.Sites.{SiteState}
use Rattle.site_store.specs.Waiting.{IsOfWaiting}

pub waiting_alone : (tells : Type 0) (site : SiteState) (due : List Bool) (old new : PlantState) → ((d : ℕ) → get_or due d false ≡ has_device d site.waiting) → WorksOnLent tells (IsAmong due) old new → WorksOnLent tells (IsOfWaiting site) old new
waiting_alone tells site due old new due_is works = works_lent_more tells (IsAmong due) (IsOfWaiting site) old new waiting works
  where
    waiting : (d : Device) → IsAmong due d → IsOfWaiting site d
    waiting Control among = among
    waiting State among = among
    waiting (Journal j) among = among
    waiting (Volume v) among = sym (due_is v) ∙ among
