-- What a recovery has done and said.
use Rattle.std.specs.Prelude.{◌≡◌, ◌≢◌, ◌≤◌, ℕ, List, All, Contains, true}
use Rattle.crash_plant.specs.declared.device.Device.{Device}
use Rattle.crash_plant.specs.declared.device.Device.TheVariants.{Volume}
use Rattle.crash_plant.specs.Moments.{PlantState, on, Follows}
use Rattle.crash_plant.specs.Calls.{Elapses, NoneLent, SameSite, Says}
use Rattle.pair_table.specs.declared.row.PairRow.{PairRow}
use Rattle.site_means.specs.declared.means.Means.{Means}
use Rattle.site_means.specs.Sight.{walked}
use Rattle.xrecover.specs.declared.labelling.Labelling.{Labelling}
use Rattle.xrecover.specs.Pairs.{AreFaulty}
use Rattle.pair_table.specs.States.{is_duplex}
use Rattle.xrecover.specs.RedoneVolumes.{Redone}
use Rattle.xrecover.specs.Answers.{IsRecoverable}
use Rattle.xrc_status.specs.Saying.{SaidWhole}
use Rattle.xrc_recovery.specs.Texts.{recovered_text}

-- Numbers, lengths and the past are as before, and no volume is away that wasn't. What reads give, and what a crash leaves at each
-- moment, comes by this step from what it was when the calls began. No count falls.
pub record Changes (tells : Type 0) (step : Device → List ℕ → List ℕ → Type 0) (old new : PlantState) : Type 0 where
  pub site : SameSite old new
  pub home : NoneLent old → NoneLent new
  pub elapses : tells → Elapses old new
  pub bytes : tells → (d : Device) → step d (old.bytes d) (new.bytes d)
  pub moments : tells → (d : Device) → Follows (step d) (on old d) (on new d)
  pub faults : (d : Device) → old.faults d ≤ new.faults d
  pub console_faults : old.console_faults ≤ new.console_faults

-- From the moment on at which something was said, a crash leaves of the volume of each duplex pair that didn't fail what reads give
-- at the end.
abbrev pub IsDoneBefore : List PairRow → (failed : List ℕ) → (old new : PlantState) → Type 0
IsDoneBefore rows failed old new = (t : ℕ) → old.clock ≤ t → t ≤ new.clock → new.said t ≢ old.said old.clock
    → All (λ row. is_duplex row.state ≡ true → ¬ Contains failed row.device → (c : List ℕ) → new.images t (Volume row.device) c → c ≡ new.bytes (Volume row.device)) rows

-- The duplex pairs were redone but those of these devices, whose counts rose, before anything was said.
pub record RedoesPairs (labelling : Labelling) (session : List ℕ) (failed : List ℕ) (old new : PlantState) : Type 0 where
  pub means : Means
  pub is_meant : IsRecoverable old session means
  pub faulty : AreFaulty means.table.rows old.faults new.faults failed
  pub redone : Redone labelling means.table.rows (walked old old.bytes) failed old new
  pub done_before : IsDoneBefore means.table.rows failed old new

-- what is to be said of it
abbrev pub report_of : (labelling : Labelling) (session failed : List ℕ) {old new : PlantState} → RedoesPairs labelling session failed old new → List ℕ
report_of labelling session failed pairs = recovered_text labelling session pairs.means.time.0 pairs.means.table.rows failed

-- So it was, and at every moment a front of what is to be said of it was said.
pub record Reports (labelling : Labelling) (session : List ℕ) (failed : List ℕ) (old new : PlantState) : Type 0 where
  pub pairs : RedoesPairs labelling session failed old new
  pub says : Says (report_of labelling session failed pairs) old new

-- It was said whole.
pub record ReportsAll (labelling : Labelling) (session : List ℕ) (failed : List ℕ) (old new : PlantState) : Type 0 where
  pub report : Reports labelling session failed old new
  pub whole : SaidWhole (report_of labelling session failed report.pairs) old new
