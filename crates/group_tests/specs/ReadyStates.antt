-- A state of one controller that carries its volume 0, and batches on the first track of it.
use Rattle.std.specs.Prelude.{◌≡◌, ℕ, ◌≤◌, ◌==◌, ◌&&◌, List, length, Bool, IsTrue}
use Rattle.std.specs.List.{list_all}
use Rattle.ckd_track.specs.declared.write.Write.{Write}
use Rattle.group_state.specs.Controls.{is_reporting}
use Rattle.group_state.specs.Groups.{Group, control_at}
use Rattle.group_state.specs.SoundStates.{is_track_within}

-- Its controller reports, and has reported no later time; no form was at a later one.
pub record CarriesFirst (time : ℕ) (s : Group) : Type 0 where
  pub one : length s.controls ≡ 1
  pub reporting : IsTrue (is_reporting (control_at s 0).phase)
  pub told : (control_at s 0).floor.0 ≤ time
  pub within : IsTrue (is_track_within (control_at s 0).volumes 0 0)
  pub last : s.last.0 ≤ time

-- a write on the first track of volume 0, with this stamp
abbrev pub is_first_at : (at : ℕ) → Write → Bool
is_first_at at w = (w.volume == 0 && w.track == 0) && w.stamp.0 == at

abbrev pub AreFirstAt : (at : ℕ) → List Write → Type 0
AreFirstAt at writes = IsTrue (list_all (is_first_at at) writes)
