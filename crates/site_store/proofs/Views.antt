-- A site's view by its fields.
use Rattle.std.proofs.Common.{◌≡◌, true, length, refl, sym, subst, arith}
use Rattle.crash_plant.specs.Moments.{PlantState}
use Rattle.pair_table.specs.Tables.{are_below}
use Rattle.site_store.specs.declared.placement.Placement.{Placement}
use Rattle.site_store.specs.declared.placement.Placement.TheVariants.{Here, Switched, Marked}
use Rattle.site_store.specs.Sites.{SiteState}
use Rattle.site_store.specs.Standing.{FitsPlant}
use Rattle.site_store.proofs.Below.{below_volumes}

-- The placement is one of three.
pub last_placement : (placement : Placement) → (placement ≡ Here → ⊥) → (placement ≡ Switched → ⊥) → placement ≡ Marked
last_placement Here here switched = absurd (here refl)
last_placement Switched here switched = absurd (switched refl)
last_placement Marked here switched = refl

-- ---- the rows are on the volumes

module _ (view site : SiteState) (plant : PlantState) (is : view ≡ site) (fits : FitsPlant site plant) where
  here : FitsPlant view plant
  here = subst (λ (s : SiteState). FitsPlant s plant) (sym is) fits

  pub flags_below : are_below (length view.failed) view.table.rows ≡ true
  flags_below = below_volumes plant (length view.failed) view.table.rows (omega (arith, here.failed)) here.rows
