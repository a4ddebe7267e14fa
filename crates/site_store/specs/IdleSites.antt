-- A site between the calls of its callers.
use Rattle.std.specs.Prelude.{◌≡◌, false}
use Rattle.crash_plant.specs.Moments.{PlantState}
use Rattle.site_store.specs.Sites.{SiteState}
use Rattle.site_store.specs.Standing.{MayRecord, StandsFast}

-- Nothing waits, neither items nor a change, and the table has the rows that the devices tell.
pub record IsSiteIdle (tells : Type 0) (site : SiteState) (plant : PlantState) : Type 0 where
  pub may : MayRecord tells site plant
  pub same : site.told ≡ site.table.rows

-- The same, but the items of the last group may wait.
pub record IsSiteLogged (tells : Type 0) (site : SiteState) (plant : PlantState) : Type 0 where
  pub fast : StandsFast tells site plant
  pub level : site.is_ahead ≡ false
  pub same : site.told ≡ site.table.rows
