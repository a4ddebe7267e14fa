-- A record that is read once more.
use Rattle.std.specs.Prelude.{◌≡◌, ◌⊎◌, ◌<◌, ◌+◌, ℕ, List, [], Option, Some, None, Result, Ok, Err}
use Rattle.tod_stamp.specs.declared.stamp.Stamp.{Stamp}
use Rattle.crash_plant.specs.declared.device.Device.TheVariants.{Journal}
use Rattle.crash_plant.specs.declared.spot.Spot.{Spot}
use Rattle.crash_plant.specs.Moments.{PlantState}
use Rattle.xrc_journal.specs.Items.{Item}
use Rattle.xrc_journal.specs.Records.{Found}
use Rattle.xrc_journal.specs.Records.Found.{End, Group, Switch, Damaged}
use Rattle.site_means.specs.Answers.{IsInTurn}
use Rattle.site_means.specs.declared.site_error.SiteError.{SiteError}
use Rattle.site_means.specs.declared.site_error.SiteError.TheVariants.{NoSession, Damaged as DamagedError, Fault, TooSmall, NoMemory}

-- What is read of a record of this data set is what is found there, with its items.
abbrev pub FoundAgain : (set : ℕ) → Found → List Item → Result (Option (Stamp × Spot)) SiteError → Type 0
FoundAgain set found items (Ok None) = found ≡ End
FoundAgain set found items (Ok (Some next)) = (found ≡ Group next.0.0 items next.1) ⊎ ((found ≡ Switch next.0.0 next.1) × (items ≡ []))
FoundAgain set found items (Err (DamagedError d place)) = (before : List Item) × (found ≡ Damaged place before)
FoundAgain set found items (Err (Fault d)) = d ≡ Journal set
FoundAgain set found items (Err NoSession) = ⊥
FoundAgain set found items (Err (TooSmall d needed)) = ⊥
FoundAgain set found items (Err NoMemory) = ⊥

-- After a record a walk goes on before the end of a journal, at the next number.
pub record IsAfter (plant : PlantState) (at after : Spot) : Type 0 where
  pub set : after.set < plant.journals
  pub place : after.place < plant.lengths (Journal after.set)
  pub number : after.number ≡ at.number + 1

-- a fault of a journal that the walk enters
abbrev pub IsWalkFault : PlantState → SiteError → Type 0
IsWalkFault plant e = (j : ℕ) × (e ≡ Fault (Journal j)) × IsInTurn plant (Journal j)
