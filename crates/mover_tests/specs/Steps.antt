-- What controllers have reported, where readers and mover go on by steps.
use Rattle.std.specs.Prelude.{◌≡◌, ℕ, ◌<◌, List, length, nat_lt, IsTrue, slice_index_or}
use Rattle.std.specs.List.{list_all}
use Rattle.xrc_edge.specs.declared.limits.TheConstants.{TRACKS_OF_CYLINDER}
use Rattle.xrc_edge.specs.Order.{is_in_order}
use Rattle.ckd_track.specs.declared.write.Write.{Write}
use Rattle.ckd_track.specs.Writes.{is_earlier}
use Rattle.cut_core.specs.LegalHistories.{are_in}
use Rattle.pending_queue.specs.Entries.{all_keep_rules}
use Rattle.group_state.specs.Controls.{ControlState, is_reporting}
use Rattle.group_state.specs.Groups.{Group, control_at}
use Rattle.group_state.specs.SoundStates.{is_track_within}

-- A controller still reports, and has reported up to a time.
pub record HasReportedUpTo (c : ControlState) (time : ℕ) : Type 0 where
  pub reporting : IsTrue (is_reporting c.phase)
  pub floor : c.floor.0 ≡ time

-- Each controller has reported up to its time, and the last cut is this one. Volumes have the tracks of a cylinder at least.
pub record HaveControlsReported (told : List ℕ) (last : ℕ) (s : Group) : Type 0 where
  pub many : length told ≡ length s.controls
  pub each : (k : ℕ) → k < length s.controls → HasReportedUpTo (control_at s k) (slice_index_or told k 0)
  pub tracks : (k v x : ℕ) → x < TRACKS_OF_CYLINDER → IsTrue (is_track_within (control_at s k).volumes v x)
  pub last_is : s.last.0 ≡ last

-- Writes keep the rules, are on tracks of a cylinder, and come in order, after the one time and up to the other.
pub record AreToJoin (above upto : ℕ) (writes : List Write) : Type 0 where
  pub rules : IsTrue (all_keep_rules writes)
  pub within : IsTrue (are_in above upto writes)
  pub order : IsTrue (is_in_order is_earlier writes)
  pub tracks : IsTrue (list_all (λ w. nat_lt w.track TRACKS_OF_CYLINDER) writes)
