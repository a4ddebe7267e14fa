-- What calls leave of a plant for the next ones: no volume is lent, and a site stands after what is said.
use Rattle.std.proofs.Common.{◌≡◌, ◌∙◌, ◌+◌, ◌*◌, ℕ, nat_lt, nat_le, ◌&&◌, List, [], ◌∷◌, length, Result, Ok, Err, refl, ap, arith}
use Rattle.std.specs.Prelude.{OnOk}
use Rattle.std.specs.List.{list_all}
use Rattle.crash_plant.specs.declared.device.Device.{Device}
use Rattle.crash_plant.specs.declared.device.Device.TheVariants.{Control, Volume}
use Rattle.crash_plant.specs.Calls.{NoneLent, SameSite, WorksOnConsole}
use Rattle.crash_plant.specs.Moments.{PlantState}
use Rattle.pair_table.specs.declared.names.NamedDevice.{NamedDevice}
use Rattle.pair_table.specs.Naming.{Naming}
use Rattle.group_state.specs.Groups.{Group}
use Rattle.site_store.specs.Commands.{LabelsFit, label_has_volume}
use Rattle.site_store.specs.Sites.{SiteState}
use Rattle.site_store.specs.Standing.{MayRecord, SiteStands}
use Rattle.site_store.specs.Exceptions.{Exceptions}
use Rattle.site_store.proofs.LogReads.{fits_still, stands_read}
use Rattle.mover.specs.declared.lane.Lane.{Lane}
use Rattle.xrecover.specs.Works.{Works}
use Rattle.mover_tests.specs.Courses.{MayGoTo}

pub works_home : (tells : Type 0) (step : Device → List ℕ → List ℕ → Type 0) (old new : PlantState) → Works tells step old new → NoneLent old → NoneLent new
works_home tells step old new works home = works.home home

pub then_ok : {T E A : Type 0} {value : T} (r : Result T E) → r ≡ Ok value → OnOk r A → A
then_ok (Ok value) is has = has
then_ok (Err e) is has = absurd cc

-- ---- labels

label_still : (old new : PlantState) → SameSite old new → (l : NamedDevice) → label_has_volume new l ≡ label_has_volume old l
label_still old new same l = λ i. nat_lt l.device (same.volumes i) && nat_le (512 + l.cylinders * 860160) (same.lengths (Volume l.device) i)

all_still : (old new : PlantState) → SameSite old new → (labels : List NamedDevice) → list_all (label_has_volume new) labels ≡ list_all (label_has_volume old) labels
all_still old new same [] = refl
all_still old new same (l ∷ labels) = λ i. label_still old new same l i && all_still old new same labels i

pub labels_still : (names : Naming) (old new : PlantState) → SameSite old new → LabelsFit old names → LabelsFit new names
labels_still names old new same fit = all_still old new same names.labels ∙ fit

-- ---- something is said

console_home : (tells : Type 0) (old new : PlantState) → WorksOnConsole tells old new → NoneLent old → NoneLent new
console_home tells old new works home v low = (works.loans v).is_lent ∙ home v (omega (arith, low, works.site.volumes))

console_stands : (tells : Type 0) (told : tells) (old new : PlantState) → WorksOnConsole tells old new → (e : Exceptions) (site : SiteState) → SiteStands e site old → SiteStands e site new
console_stands tells told old new works e site stands =
    stands_read old new works.site (λ d. (works.devices told d).bytes) (λ d. (works.devices told d).images) ((works.elapses told).kept Control).later e site site.failed (λ d good. good) (λ d bad. bad) stands

console_records : (tells : Type 0) (old new : PlantState) → WorksOnConsole tells old new → (site : SiteState) → MayRecord tells site old → MayRecord tells site new
console_records tells old new works site may = record {
  fast = record {
    fits = fits_still old new works.site site (console_home tells old new works may.fast.fits.home) may.fast.fits;
    stands = λ told. let s = may.fast.stands told in (s.0, console_stands tells told old new works s.0 site s.1);
  };
  level = may.level;
  idle = may.idle;
}

pub goes_said : {S : Type 0} (tells : Type 0) (limit : ℕ) (names : Naming) (lanes : List (Lane S)) (group : Group) (site : SiteState) (old new : PlantState) → WorksOnConsole tells old new → MayGoTo tells limit names lanes group site old → MayGoTo tells limit names lanes group site new
goes_said tells limit names lanes group site old new works go = record {
  are = go.are;
  may = record { rests = console_records tells old new works site go.may.rests; marked = go.may.marked; knows = go.may.knows };
  kept = go.kept;
  commands = record {
    are_named = go.commands.are_named;
    may = go.commands.may;
    labels = labels_still names old new works.site go.commands.labels;
    same = go.commands.same;
  };
}
