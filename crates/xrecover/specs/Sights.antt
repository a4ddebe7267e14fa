-- What a crash leaves of a recovery: what is meant, the content of each track, and whether a later recovery tells the same.
use Rattle.std.specs.Prelude.{◌≡◌, ◌⊎◌, ℕ, Result, Ok, Err}
use Rattle.crash_plant.specs.declared.device.Device.{Device}
use Rattle.crash_plant.specs.declared.device.Device.TheVariants.{Control, State, Journal, Volume}
use Rattle.crash_plant.specs.Calls.{IsPart}
use Rattle.crash_plant.specs.Choices.{AtNow, Choice}
use Rattle.crash_plant.specs.Moments.{PlantState, IsDurable, on}
use Rattle.site_means.specs.declared.site_error.SiteError.TheVariants.{NoSession, Damaged, Fault, TooSmall, NoMemory}
use Rattle.site_means.specs.Answers.{AllDurable}
use Rattle.site_means.specs.Images.{shape_of}
use Rattle.site_means.specs.Meaning.{chosen_in, meaning}
use Rattle.site_means.specs.Sight.{content_of, means_of}
use Rattle.xrecover.specs.declared.recover_error.RecoverError.{RecoverError}
use Rattle.xrecover.specs.declared.recover_error.RecoverError.TheVariants.{Site, Other}
use Rattle.xrecover.specs.Works.{Nothing, Works}

-- Nothing was written: what is left of each device of the plant was left at the start.
abbrev pub IsUnwritten : PlantState → (b c : Choice) → Type 0
IsUnwritten plant b c = (d : Device) → IsPart plant d → c d ≡ b d

-- What a crash leaves means what reads gave at first.
abbrev pub MeansAsRead : PlantState → Choice → Type 0
MeansAsRead plant c = meaning plant c ≡ meaning plant plant.bytes

-- It has the mark that was chosen by what reads gave.
abbrev pub ChoosesAsRead : PlantState → Choice → Type 0
ChoosesAsRead plant c = chosen_in (shape_of plant) c ≡ chosen_in (shape_of plant) plant.bytes

-- What is left means the same as what could be left at the start, and on each volume each track has the same content. Nothing was
-- written by then, or it means what reads gave at first.
pub record SeesSame (plant : PlantState) (b c : Choice) : Type 0 where
  pub means : means_of plant c ≡ means_of plant b
  pub content : (d x : ℕ) → content_of plant c d x ≡ content_of plant b d x
  pub settled : IsUnwritten plant b c ⊎ MeansAsRead plant c

-- A crash leaves what reads give of the devices by which an answer is told.
abbrev pub TellsDurable : {X : Type 0} → (old new : PlantState) → Result X RecoverError → Type 0
TellsDurable old new (Ok x) = AllDurable old new
TellsDurable old new (Err (Other name)) = IsDurable (on new Control)
TellsDurable old new (Err (Site NoSession)) = AllDurable old new
TellsDurable old new (Err (Site (Damaged d place))) = AllDurable old new
TellsDurable old new (Err (Site (Fault d))) = Unit {0}
TellsDurable old new (Err (Site (TooSmall d needed))) = Unit {0}
TellsDurable old new (Err (Site NoMemory)) = Unit {0}

-- What is answered of the devices is so of whatever a crash leaves now. After a fault nothing was written, or the rest is so.
abbrev pub TellsLasting : {X : Type 0} → (tells : Type 0) → (old new : PlantState) → Result X RecoverError → Type 0
TellsLasting tells old new (Ok x) = AtNow (MeansAsRead old) new
TellsLasting tells old new (Err (Other name)) = AtNow (ChoosesAsRead old) new
TellsLasting tells old new (Err (Site NoSession)) = AtNow (MeansAsRead old) new
TellsLasting tells old new (Err (Site (Damaged d place))) = AtNow (MeansAsRead old) new
TellsLasting tells old new (Err (Site (Fault d))) = Works tells Nothing old new ⊎ AtNow (MeansAsRead old) new
TellsLasting tells old new (Err (Site (TooSmall (Volume v) needed))) = AtNow (MeansAsRead old) new
TellsLasting tells old new (Err (Site (TooSmall Control needed))) = Unit {0}
TellsLasting tells old new (Err (Site (TooSmall State needed))) = Unit {0}
TellsLasting tells old new (Err (Site (TooSmall (Journal j) needed))) = Unit {0}
TellsLasting tells old new (Err (Site NoMemory)) = Unit {0}
