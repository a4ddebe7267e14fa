-- What is mapped of volumes that are dropped, by the traces of their controllers.
use Rattle.std.specs.Prelude.{◌≡◌, ◌⊎◌, ℕ, ◌<◌, ◌&&◌, ◌||◌, List, [], ◌∷◌, length, Bool, true, false, Some, None, nat_lt, nat_le, slice_get, IsTrue}
use Rattle.std.specs.List.{list_all, list_any}
use Rattle.tod_stamp.specs.declared.stamp.Stamp.{Stamp}
use Rattle.pair_table.specs.declared.row.PairRow.{PairRow}
use Rattle.pair_table.specs.declared.row.PairState.TheVariants.{Suspended}
use Rattle.pair_table.specs.declared.row.SuspendCause.{SuspendCause}
use Rattle.pair_table.specs.Rows.{is_suspended}
use Rattle.pair_table.specs.Tables.{none_clash}
use Rattle.record_rows.specs.Deeds.{Deed, rows_after_deeds, rows_by_deed, time_by_deed}
use Rattle.pair_table.specs.States.{is_by_device}
use Rattle.record_rows.specs.ToldRows.{InPlaces}
use Rattle.change_map.specs.Sets.{has_track}
use Rattle.write_trace.specs.declared.trace.Trace.{Trace}
use Rattle.write_trace.specs.Writes.{writes_of}
use Rattle.primary_ctl.specs.States.{is_on}
use Rattle.pending_queue.specs.Entries.{WaitingEntry, entry_stamp}
use Rattle.group_state.specs.Volumes.{passes, volume_of}
use Rattle.group_state.specs.Controls.{ControlState, counts}
use Rattle.group_state.specs.Groups.{Group, control_at, new_group}
use Rattle.group_state.specs.Machine.{Call, Reply, steps}
use Rattle.group_state.specs.Runs.{Answer, May}
use Rattle.group_state.specs.SoundStates.{IsGroupSound, is_dropped}
use Rattle.fed_logs.specs.Feeds.{part_of_mover}
use Rattle.fed_logs.specs.Logs.{BeginsLog, IsFedLog, Sizes, is_of_size}
use Rattle.fed_logs.specs.Moves.{MakesAllDeeds, Plans}
use Rattle.fed_logs.specs.ToldTracks.{HeldTracks, floor_of}
use Rattle.mover.specs.Dropping.{owed_by_calls, stood_duplex}
use Rattle.mover.specs.Moves.{KeepsPair, LogsEntriesOf}

-- whether a trace has a write on a track of a volume after one time, up to another
abbrev pub has_write_between : Trace → (volume track from to : ℕ) → Bool
has_write_between t v x from to = list_any (λ w. is_on v x w && (nat_lt from w.stamp.0 && nat_le w.stamp.0 to)) (writes_of t.entries)

-- whether the map of a controller's volume has a track
abbrev pub maps_track : (volume track : ℕ) → ControlState → Bool
maps_track v x c = passes (λ u. has_track u.map x) (volume_of v c.volumes)

-- ---- maps that are sound

-- An entry that waits is a copied track, or is stamped above the last cut.
abbrev pub waits_above : (last : ℕ) → WaitingEntry → Bool
waits_above last e = e.is_copy || nat_lt last (entry_stamp e)

-- The maps of a state are sound.
--   above: writes that wait are stamped above the last cut
--   empty: the map of a volume that is carried has no track
pub record AreMapsSound (s : Group) : Type 0 where
  pub above : (k : ℕ) → k < length s.controls → IsTrue (list_all (waits_above s.last.0) (control_at s k).queue.waiting)
  pub empty : (k v x : ℕ) → k < length s.controls → IsTrue (passes (λ u. u.carried) (volume_of v (control_at s k).volumes)) → maps_track v x (control_at s k) ≡ false

-- Each call leaves them sound.
abbrev pub CallsKeepMaps : Type 0
CallsKeepMaps = (s next : Group) (call : Call) (reply : Reply) → IsGroupSound s → May s call → steps s call reply next → AreMapsSound s → AreMapsSound next

-- Those of a new state are sound.
abbrev pub NewGroupsKeepMaps : Type 0
NewGroupsKeepMaps = (controls records blocks : ℕ) → AreMapsSound (new_group controls records blocks)

-- ---- over a log

-- The map of a volume that is dropped before a log, and isn't dropped in it, gets the tracks that are written meanwhile.
abbrev pub MapsGrow : Type 0
MapsGrow = (traces : List Trace) (s end : Group) (run : List Answer) (k v : ℕ) (t : Trace) → IsFedLog traces s end run → slice_get traces k ≡ Some t → owed_by_calls k v run ≡ None
    → IsTrue (is_dropped v (control_at s k).volumes) → (x : ℕ) → maps_track v x (control_at end k) ≡ (maps_track v x (control_at s k) || has_write_between t v x (floor_of s k) (floor_of end k))

-- If a volume is dropped in a log with all of its tracks, its map has every track.
abbrev pub MapsAreWhole : Type 0
MapsAreWhole = (traces : List Trace) (s end : Group) (run : List Answer) (k v n : ℕ) → IsFedLog traces s end run → k < length s.controls → owed_by_calls k v run ≡ Some true
    → IsTrue (passes (is_of_size n) (volume_of v (control_at s k).volumes)) → (x : ℕ) → x < n → maps_track v x (control_at end k) ≡ true

-- ---- over what was kept of a log

-- What a deed at a time makes of a row: the pair stays, and a row that it suspends is suspended since that time.
pub record BecomesAt (time : ℕ) (r s : PairRow) : Type 0 where
  pub keeps : KeepsPair r s
  pub since : (cause : SuspendCause) (at : Stamp) → s.state ≡ Suspended cause at → (s.state ≡ r.state) ⊎ (at.0 ≡ time)

-- So does each of these deeds in each place, at the time that is meant after it.
abbrev pub RowsGo : (time : ℕ) → List PairRow → List Deed → Type 0
RowsGo time rows [] = Unit {0}
RowsGo time rows (deed ∷ deeds) = InPlaces (BecomesAt (time_by_deed time deed)) rows (rows_by_deed deed) × RowsGo (time_by_deed time deed) (rows_by_deed deed) deeds

-- At rest the last cut is the time that is meant, and each controller that counts has reported up to it.
pub record RestsAtCut (s : Group) (time : ℕ) : Type 0 where
  pub cut : s.last.0 ≡ time
  pub told : (k : ℕ) → k < length s.controls → IsTrue (counts (control_at s k).phase) → floor_of s k ≡ time

-- A row is live before deeds. It stands duplex before them or after one of them, and is suspended after all, but not by its device.
pub record IsSuspendedBy (rows : List PairRow) (deeds : List Deed) (place : ℕ) (r z : PairRow) (cause : SuspendCause) (since : Stamp) : Type 0 where
  pub was : slice_get rows place ≡ Some r
  pub is : slice_get (rows_after_deeds deeds rows) place ≡ Some z
  pub live : is_suspended r.state ≡ false
  pub stood : stood_duplex place rows deeds ≡ true
  pub suspended : z.state ≡ Suspended cause since
  pub whole : is_by_device cause ≡ false

-- A row is suspended in a log after which its controller counts, and its volume, which was carried, is dropped there without all of its tracks.
-- Then its map has the tracks that are written from the row's suspension on.
abbrev pub MapsBegin : Type 0
MapsBegin = (size : Sizes) (traces : List Trace) (held : HeldTracks) (s end : Group) (run : List Answer) (time ended : ℕ) (rows last : List PairRow) (done known : Plans) (deeds : List Deed)
    → IsFedLog traces s end run → BeginsLog size traces held s time rows done → MakesAllDeeds time rows done (part_of_mover run) deeds ended last known
    → AreMapsSound s → RestsAtCut s time → IsTrue (none_clash rows) → RowsGo time rows deeds → LogsEntriesOf rows deeds
    → (place : ℕ) (r z : PairRow) (cause : SuspendCause) (since : Stamp) (t : Trace) → IsSuspendedBy rows deeds place r z cause since → slice_get traces r.control ≡ Some t
    → IsTrue (counts (control_at end r.control).phase) → IsTrue (passes (λ u. u.carried) (volume_of r.volume (control_at s r.control).volumes)) → owed_by_calls r.control r.volume run ≡ Some false
    → (x : ℕ) → maps_track r.volume x (control_at end r.control) ≡ has_write_between t r.volume x since.0 (floor_of end r.control)
