-- What floors stand for: a legal history, of which they keep each controller's floor and phase, and the last cut.
use Rattle.std.specs.Prelude.{◌≡◌, ℕ, ◌<◌, ◌==◌, min, List, [], IsTrue, Some, slice_get, if◌then◌else◌}
use Rattle.cut_core.specs.Events.{Event, floor, is_broken_after, is_done, last_cut}
use Rattle.cut_core.specs.LegalHistories.{are_legal}
use Rattle.tod_stamp.specs.declared.stamp.Stamp.{Stamp}
use Rattle.cut_core.specs.declared.told.ReportedPhase.{ReportedPhase}
use Rattle.cut_core.specs.declared.told.ReportedPhase.TheVariants.{Unbroken, Broken, Done}
use Rattle.cut_core.specs.declared.told.Told.{Told}

-- What floors are to their callers: what is kept of each controller, and the last cut.
pub record FloorsState : Type 0 where
  pub controls : ℕ
  pub told : List Told
  pub last : Stamp

-- what a controller does after these events
abbrev pub phase_of : (control : ℕ) → List Event → ReportedPhase
phase_of k past = if is_done k past then Done else if is_broken_after k past then Broken else Unbroken

abbrev pub told_after : (control : ℕ) → List Event → Told
told_after k past = record { floor = record { 0 = floor k past }; phase = phase_of k past }

-- The history so far is legal; each controller has reported as far as it says, and the last cut is the one in it.
pub record StandsAfter (f : FloorsState) (past : List Event) : Type 0 where
  pub legal : IsTrue (are_legal f.controls [] past)
  pub told : (k : ℕ) → k < f.controls → slice_get f.told k ≡ Some (told_after k past)
  pub last : f.last.0 ≡ last_cut past

abbrev pub told_to : Stamp → ReportedPhase → Told
told_to upto phase = record { floor = upto; phase = phase }

-- what a form with this cut makes of a controller
abbrev pub reported_after_form : (cut : ℕ) → Told → Told
reported_after_form cut t = elim t.phase [ Unbroken ↦ t | Broken ↦ if cut == t.floor.0 then record t { phase = Done } else t | Done ↦ t ]

abbrev pub lesser_floor : Told → ℕ → ℕ
lesser_floor t cut = elim t.phase [ Unbroken ↦ min t.floor.0 cut | Broken ↦ min t.floor.0 cut | Done ↦ cut ]
