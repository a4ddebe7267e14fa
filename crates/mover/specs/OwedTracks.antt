-- What a choice holds of rows' tracks, which tracks are owed by the shared state, and how it carries rows' volumes.
use Rattle.std.specs.Prelude.{◌≡◌, ℕ, ◌<◌, ◌&&◌, ◌||◌, not, List, find, Bool, true, false, Option, Some, None, IsTrue}
use Rattle.std.specs.List.{Contains, list_any}
use Rattle.ckd_track.specs.declared.rec.Rec.{Rec}
use Rattle.crash_plant.specs.Choices.{Choice}
use Rattle.crash_plant.specs.Moments.{PlantState}
use Rattle.change_map.specs.Sets.{has_track}
use Rattle.pair_table.specs.declared.row.PairRow.{PairRow}
use Rattle.pair_table.specs.declared.row.PairState.{PairState}
use Rattle.pair_table.specs.Rows.{is_suspended}
use Rattle.pending_queue.specs.Entries.{WaitingEntry, is_queued_on, is_whole}
use Rattle.group_state.specs.declared.volume.Volume.{Volume}
use Rattle.group_state.specs.Controls.{ControlState}
use Rattle.group_state.specs.Groups.{Group, control_at}
use Rattle.group_state.specs.Volumes.{is_wanted, passes, volume_of}
use Rattle.group_state.specs.SoundStates.{is_dropped}
use Rattle.pair_table.specs.States.{is_device_suspended}
use Rattle.consistency.specs.Stages.{tracks_of_row}
use Rattle.site_means.specs.Sight.{content_of}
use Rattle.fed_logs.specs.ToldTracks.{HeldTracks}
use Rattle.fed_logs.specs.Logs.{Sizes, is_of_size}
use Rattle.fed_logs.specs.Moves.{HasRowIn}
use Rattle.site_store.specs.Exceptions.{Exceptions}
use Rattle.mover.specs.Moves.{is_row_of_volume}

-- ---- what is held

abbrev pub held_of_row : PlantState → Choice → (track : ℕ) → Option PairRow → Option (List Rec)
held_of_row plant c x (Some r) = content_of plant c r.device x
held_of_row plant c x None = None

-- What a choice holds of each volume's track: the content of its row's device.
abbrev pub held_by_choice : PlantState → Choice → List PairRow → HeldTracks
held_by_choice plant c rows = λ k v x. held_of_row plant c x (find (is_row_of_volume k v) rows)

-- ---- what is owed

-- whether a copied track waits on a track of the volume, as a whole image
abbrev pub is_copied_to : (volume track : ℕ) → WaitingEntry → Bool
is_copied_to v x entry = entry.is_copy && (is_whole entry.kind && is_queued_on v x entry)

-- A track is still to be copied where it is wanted, and where its copy waits.
abbrev pub is_to_be_copied : (volume track : ℕ) → ControlState → Bool
is_to_be_copied v x c = is_wanted v x c.volumes || list_any (is_copied_to v x) c.queue.waiting

-- whether a volume is dropped, and its map has the track
abbrev pub is_mapped : (track : ℕ) → Volume → Bool
is_mapped x u = not u.carried && has_track u.map x

-- A track is owed where it is still to be copied, or will be once its volume is carried again.
abbrev pub is_owed : (volume track : ℕ) → ControlState → Bool
is_owed v x c = is_to_be_copied v x c || passes (is_mapped x) (volume_of v c.volumes)

-- whether a volume is kept, carried or dropped
abbrev pub is_volume_kept : (volume : ℕ) → ControlState → Bool
is_volume_kept v c = passes (λ u. true) (volume_of v c.volumes)

abbrev pub IsAny : PairState → Type 0
IsAny state = Unit {0}

-- A row that its own device doesn't suspend, and one that it does.
abbrev pub IsUnfailed : PairState → Type 0
IsUnfailed state = is_device_suspended state ≡ false

abbrev pub IsFailed : PairState → Type 0
IsFailed state = is_device_suspended state ≡ true

-- Each excepted track of an unfailed row's volume is owed.
abbrev pub ExceptedAreOwed : Sizes → Exceptions → Group → List PairRow → Type 0
ExceptedAreOwed size excepted s rows = (k v : ℕ) (has : HasRowIn IsUnfailed k v rows) → IsTrue (is_volume_kept v (control_at s k))
    → (x : ℕ) → x < size k v → IsTrue (excepted has.row.device x) → IsTrue (is_owed v x (control_at s k))

-- Each track of a failed row's volume is owed.
abbrev pub FailedAreOwed : Sizes → Group → List PairRow → Type 0
FailedAreOwed size s rows = (k v : ℕ) → HasRowIn IsFailed k v rows → IsTrue (is_volume_kept v (control_at s k))
    → (x : ℕ) → x < size k v → IsTrue (is_owed v x (control_at s k))

-- Each volume that is kept has a row.
abbrev pub KeptHaveRows : Group → List PairRow → Type 0
KeptHaveRows s rows = (k v : ℕ) → IsTrue (is_volume_kept v (control_at s k)) → HasRowIn IsAny k v rows

-- ---- what is carried

-- A row's volume has the row's tracks. It is carried if the row isn't suspended, else dropped.
pub record IsCarriedAsLive (s : Group) (r : PairRow) : Type 0 where
  pub sized : IsTrue (passes (is_of_size (tracks_of_row r)) (volume_of r.volume (control_at s r.control).volumes))
  pub carried : is_suspended r.state ≡ false → IsTrue (passes (λ u. u.carried) (volume_of r.volume (control_at s r.control).volumes))
  pub dropped : is_suspended r.state ≡ true → IsTrue (is_dropped r.volume (control_at s r.control).volumes)

abbrev pub CarriedAsLive : Group → List PairRow → Type 0
CarriedAsLive s rows = (r : PairRow) → Contains rows r → IsCarriedAsLive s r
