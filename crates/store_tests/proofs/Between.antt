-- What a site lets its callers do between two calls, beside what `site_store` says of it.
use Rattle.std.proofs.Common.{◌≡◌, ℕ, true, nat_lt, List, Result, Ok, Err, refl, sym, ap, subst, ◌∙◌}
use Rattle.std.specs.Prelude.{OnOk}
use Rattle.std.specs.List.{list_all}
use Rattle.tod_stamp.specs.declared.stamp.Stamp.{Stamp}
use Rattle.crash_plant.specs.declared.device.Device.{Device}
use Rattle.crash_plant.specs.Calls.{NoneLent}
use Rattle.crash_plant.specs.Moments.{PlantState}
use Rattle.pair_table.specs.declared.level.Level.{Level}
use Rattle.pair_table.specs.Naming.{Naming}
use Rattle.site_store.specs.IdleSites.{IsSiteIdle}
use Rattle.site_store.specs.Commands.{MayDo}
use Rattle.site_store.specs.Sites.{SiteState, new_site}
use Rattle.xrecover.specs.Works.{Works}

pub idle_home : (tells : Type 0) (site : SiteState) (plant : PlantState) → IsSiteIdle tells site plant → NoneLent plant
idle_home tells site plant idle = idle.may.fast.fits.home

pub works_home : (tells : Type 0) (step : Device → List ℕ → List ℕ → Type 0) (old new : PlantState) → Works tells step old new → NoneLent old → NoneLent new
works_home tells step old new works home = works.home home

-- A command may come to a new site of two volumes, where its names label no other device.
pub new_may : (session : List ℕ) (level : Level) (at : Stamp) (volumes : ℕ) (names : Naming) (site : SiteState) → site ≡ new_site 1 volumes session level at → volumes ≡ 2 → list_all (λ label. nat_lt label.device 2) names.labels ≡ true → MayDo names site
new_may session level at volumes names site is two labels =
    subst (MayDo names) (sym (is ∙ ap (λ (n : ℕ). new_site 1 n session level at) two)) (record { command = record { named = refl; below = refl }; started = refl; labels = labels; rows = refl })

pub then_ok : {T E A : Type 0} {value : T} (r : Result T E) → r ≡ Ok value → OnOk r A → A
then_ok (Ok value) is has = has
then_ok (Err e) is has = absurd cc
