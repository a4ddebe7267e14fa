-- What the examination of a session's site answers, and what a recovery answers.
use Rattle.std.specs.Prelude.{◌≡◌, ◌≢◌, ◌⊎◌, ◌≤◌, ◌+◌, ℕ, List, Some, None, Result, Ok, Err, IsErrOf}
use Rattle.xrc_edge.specs.Causes.{Rose}
use Rattle.crash_plant.specs.declared.device.Device.{Device}
use Rattle.crash_plant.specs.declared.device.Device.TheVariants.{Control, State, Journal, Volume}
use Rattle.crash_plant.specs.Moments.{PlantState}
use Rattle.control_set.specs.declared.value.Mark.{Mark}
use Rattle.pair_table.specs.declared.row.PairRow.{PairRow}
use Rattle.state_set.specs.Slots.{Stored}
use Rattle.site_means.specs.declared.means.Means.{Means}
use Rattle.site_means.specs.declared.site_error.SiteError.TheVariants.{NoSession, Damaged, Fault, TooSmall, NoMemory}
use Rattle.site_means.specs.Images.{shape_of}
use Rattle.site_means.specs.Walk.{walk_in}
use Rattle.site_means.specs.Meaning.{meaning, stored_in}
use Rattle.site_means.specs.Meaning.Meaning.{NoMark, DamagedAt}
use Rattle.site_means.specs.Answers.{IsChosen, IsStore, IsInTurn, Mean, first_short}
use Rattle.volume_label.specs.Labels.{volume_need}
use Rattle.xrecover.specs.declared.recover_error.RecoverError.{RecoverError}
use Rattle.xrecover.specs.declared.recover_error.RecoverError.TheVariants.{Site, Other}
use Rattle.xrecover.specs.Pairs.{SparesOthers, first_small}

-- The chosen mark names this session.
pub record IsOf (plant : PlantState) (session : List ℕ) : Type 0 where
  pub mark : Mark
  pub chosen : IsChosen plant mark
  pub same : mark.session ≡ session

-- The chosen mark names another session, which is this one.
pub record IsOther (plant : PlantState) (session name : List ℕ) : Type 0 where
  pub mark : Mark
  pub chosen : IsChosen plant mark
  pub named : name ≡ mark.session
  pub differs : mark.session ≢ session

-- What the devices of a session mean.
pub record IsMeant (plant : PlantState) (session : List ℕ) (means : Means) : Type 0 where
  pub of : IsOf plant session
  pub mean : Mean (meaning plant plant.bytes) means

-- The same where each duplex pair's volume has room for the pair's cylinders.
pub record IsRecoverable (plant : PlantState) (session : List ℕ) (means : Means) : Type 0 where
  pub meant : IsMeant plant session means
  pub long : first_small plant means.table.rows ≡ None

-- The first duplex pair's volume that is too small, after a meaning.
pub record IsTooSmall (plant : PlantState) (session : List ℕ) (d : Device) (needed : ℕ) : Type 0 where
  pub of : IsOf plant session
  pub means : Means
  pub mean : Mean (meaning plant plant.bytes) means
  pub row : PairRow
  pub first : first_small plant means.table.rows ≡ Some row
  pub device : d ≡ Volume row.device
  pub need_is : needed ≡ volume_need row.cylinders

-- Where a device is damaged or fails, all before it in the order of the answers was good: the control is read first, and the session
-- is compared before the state is read.
abbrev pub After : PlantState → (session : List ℕ) → Device → Type 0
After plant session Control = Unit {0}
After plant session State = IsOf plant session
After plant session (Journal j) = IsOf plant session
After plant session (Volume v) = IsOf plant session

-- What was found is good, or the error is the one that what reads give calls for. A device that fails was read in its turn.
abbrev pub IsGoodOrCalledFor : {X : Type 0} → PlantState → (session : List ℕ) → (good : X → Type 0) → Result X RecoverError → Type 0
IsGoodOrCalledFor plant session good (Ok x) = good x
IsGoodOrCalledFor plant session good (Err (Other name)) = IsOther plant session name
IsGoodOrCalledFor plant session good (Err (Site NoSession)) = meaning plant plant.bytes ≡ NoMark
IsGoodOrCalledFor plant session good (Err (Site (Damaged d place))) = (meaning plant plant.bytes ≡ DamagedAt d place) × After plant session d
IsGoodOrCalledFor plant session good (Err (Site (Fault d))) = After plant session d × IsInTurn plant d
IsGoodOrCalledFor plant session good (Err (Site (TooSmall d needed))) = (first_short plant ≡ Some d) ⊎ IsTooSmall plant session d needed
IsGoodOrCalledFor plant session good (Err (Site NoMemory)) = IsOf plant session

-- A mark that was chosen, and by which the walk has no bad place.
pub record HasWalk (plant : PlantState) (m : Mark) : Type 0 where
  pub stored : Stored
  pub chosen : IsChosen plant m
  pub holds : stored_in (shape_of plant) plant.bytes m ≡ Ok stored
  pub good : (walk_in (shape_of plant) plant.bytes m stored.rows).bad ≡ None

-- A fault is answered only of a device whose count rose, and the count of each other device stays.
pub record FailsSo {X : Type 0} (old new : Device → ℕ) (result : Result X RecoverError) : Type 0 where
  pub rose : (d : Device) → IsErrOf result (Site (Fault d)) → Rose (old d) (new d)
  pub others : (d : Device) → ¬ IsErrOf result (Site (Fault d)) → new d ≡ old d

-- The devices whose faults are told are those whose counts rose, of the control, the state and the journals: no other's count changes.
pub record TellsFaults (old new : Device → ℕ) (is_told : Device → Type 0) : Type 0 where
  pub rose : (d : Device) → is_told d → Rose (old d) (new d)
  pub others : (d : Device) → IsStore d → ¬ is_told d → new d ≡ old d

-- a journal's fault
abbrev pub EndsLate : RecoverError → Type 0
EndsLate (Site (Fault (Journal j))) = Unit {0}
EndsLate (Site NoMemory) = ⊥
EndsLate (Site (Fault Control)) = ⊥
EndsLate (Site (Fault State)) = ⊥
EndsLate (Site (Fault (Volume v))) = ⊥
EndsLate (Site NoSession) = ⊥
EndsLate (Site (Damaged d place)) = ⊥
EndsLate (Site (TooSmall d needed)) = ⊥
EndsLate (Other name) = ⊥

-- A late answer: a fault of a journal that the walk enters.
abbrev pub IsLate : PlantState → RecoverError → Type 0
IsLate plant e = (j : ℕ) × (e ≡ Site (Fault (Journal j))) × IsInTurn plant (Journal j)

-- each other answer
abbrev pub IsEarly : RecoverError → Type 0
IsEarly e = ¬ EndsLate e

-- ---- counts of volumes

-- Whatever is answered, a volume's count rises by one at most. That of a volume that is no duplex pair's stays, and so does each where the
-- answer comes before anything is written.
pub record CountsVolumes {X : Type 0} (tells : Type 0) (rows : List PairRow) (old new : Device → ℕ) (result : Result X RecoverError) : Type 0 where
  pub once : (v : ℕ) → new (Volume v) ≤ old (Volume v) + 1
  pub others : tells → SparesOthers rows old new
  pub early : tells → (e : RecoverError) → IsErrOf result e → IsEarly e → (v : ℕ) → new (Volume v) ≡ old (Volume v)
