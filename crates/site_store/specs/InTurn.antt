-- Calls on a site that do deeds.
use Rattle.std.specs.Prelude.{List, Result, OnOk}
use Rattle.crash_plant.specs.Moments.{PlantState}
use Rattle.record_rows.specs.Deeds.{Deed}
use Rattle.site_store.specs.declared.store_error.StoreError.{StoreError}
use Rattle.site_store.specs.DoneDeeds.{BeginsDeeds, DoesDeeds}
use Rattle.site_store.specs.Exceptions.{Exceptions}
use Rattle.site_store.specs.Sites.{SiteState}
use Rattle.site_store.specs.Standing.{SiteStands}

-- At every moment the first of some deeds are seen, and after Ok all of them.
pub record DoesInTurn (tells : Type 0) (deeds : List Deed) (site : SiteState) (old new : PlantState) (result : Result (Unit {0}) StoreError) : Type 0 where
  pub begins : tells → (e : Exceptions) → SiteStands e site old → BeginsDeeds e site.told deeds old new
  pub does : tells → OnOk result ((e : Exceptions) → SiteStands e site old → DoesDeeds e site.told deeds old new)
