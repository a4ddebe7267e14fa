-- What suspended rows owe in a run, and what is mapped of their volumes: from one point of the run to another.
use Rattle.std.specs.Prelude.{◌≡◌, ◌⊎◌, ℕ, ◌<◌, ◌≤◌, ◌++◌, List, [], length, map, take, true, IsTrue}
use Rattle.std.specs.List.{Contains}
use Rattle.tod_stamp.specs.declared.stamp.Stamp.{Stamp}
use Rattle.change_map.specs.Sets.{has_track}
use Rattle.pair_table.specs.declared.row.PairRow.{PairRow}
use Rattle.pair_table.specs.declared.row.PairState.TheVariants.{Suspended}
use Rattle.pair_table.specs.declared.row.SuspendCause.{SuspendCause}
use Rattle.pair_table.specs.Rows.{is_suspended}
use Rattle.pair_table.specs.Tables.{none_clash}
use Rattle.group_state.specs.Controls.{counts}
use Rattle.group_state.specs.Groups.{Group, control_at}
use Rattle.group_state.specs.Runs.{Answer}
use Rattle.group_state.specs.Volumes.{passes, volume_of}
use Rattle.record_rows.specs.Deeds.{Deed, rows_by_deed, time_meant_after}
use Rattle.passages.specs.Points.{last_point}
use Rattle.consistency.specs.Stages.{ScriptRun, tracks_of_row}
use Rattle.consistency.specs.Leads.{Point}
use Rattle.consistency.specs.Owing.{owes_track}
use Rattle.consistency.specs.Ways.{PassedPoint}
use Rattle.fed_logs.specs.Feeds.{part_of_mover}
use Rattle.fed_logs.specs.Logs.{BeginsLog, IsFedLog, Sizes}
use Rattle.fed_logs.specs.Moves.{MakesAllDeeds, Plans}
use Rattle.fed_logs.specs.ToldTracks.{HeldTracks}
use Rattle.mover.specs.Dropping.{OwesExactly}
use Rattle.mover.specs.OwedTracks.{CarriedAsLive}
use Rattle.mover.specs.Moves.{LogsEntriesOf}
use Rattle.xrc_session.specs.Maps.{AreMapsSound, RestsAtCut, RowsGo}

-- The map of each suspended row's volume, if its controller counts, has exactly the tracks that the row owes at a point's time.
abbrev pub MapsOwed : ScriptRun → (first : Point) → List PassedPoint → Point → Group → Type 0
MapsOwed run first points p group = (r : PairRow) → Contains p.rows r → is_suspended r.state ≡ true → IsTrue (counts (control_at group r.control).phase)
    → (x : ℕ) → x < tracks_of_row r → passes (λ u. has_track u.map x) (volume_of r.volume (control_at group r.control).volumes) ≡ owes_track run first points r p.time x

-- ---- at rest

-- Suspended rows are suspended since this time at most.
abbrev pub SuspendedUpTo : (time : ℕ) → List PairRow → Type 0
SuspendedUpTo time rows = (r : PairRow) (cause : SuspendCause) (since : Stamp) → Contains rows r → r.state ≡ Suspended cause since → since.0 ≤ time

-- What maps stand on between two epochs. The state of a session that has just started has no cut yet.
pub record MapsRest (p : Point) (s : Group) : Type 0 where
  pub keeps : AreMapsSound s
  pub rests : s.last.0 ≡ p.time → RestsAtCut s p.time
  pub since : SuspendedUpTo p.time p.rows

-- ---- a log

-- A fed log of a run, with what was kept of all of its mover's calls, leads from one point to another.
--   go, entries: what the deeds make of rows, and of which rows their groups have entries
--   owed: the volume of each row is dropped exactly for what it owes more
--   times: no deed's time is above the last one's
pub record DeedsLeadTo (run : ScriptRun) (size : Sizes) (held : HeldTracks) (s end : Group) (log : List Answer) (p q : Point) (done known : Plans) (deeds : List Deed) : Type 0 where
  pub fed : IsFedLog run.traces s end log
  pub begins : BeginsLog size run.traces held s p.time p.rows done
  pub kept : MakesAllDeeds p.time p.rows done (part_of_mover log) deeds q.time q.rows known
  pub apart : IsTrue (none_clash p.rows)
  pub carried : CarriedAsLive s p.rows
  pub go : RowsGo p.time p.rows deeds
  pub entries : LogsEntriesOf p.rows deeds
  pub owed : OwesExactly p.rows q.rows (part_of_mover log) deeds
  pub times : (n : ℕ) → n ≤ length deeds → time_meant_after (take n deeds) p.time ≤ q.time

-- Points are passed by deeds: their rows are those that are meant after these.
abbrev pub HaveRowsOf : List PassedPoint → List Deed → Type 0
HaveRowsOf points deeds = map (λ n. n.point.rows) points ≡ map rows_by_deed deeds

-- A state has its last cut at this time, or there is no row.
abbrev pub HasCutOrNoRow : (time : ℕ) → List PairRow → Group → Type 0
HasCutOrNoRow time rows s = (s.last.0 ≡ time) ⊎ (rows ≡ [])

-- Where the maps have what rows owe, they do so after a log that leads to another point, once the controllers that count have reported up to its
-- time.
abbrev pub MapsOwedAfterLogs : Type 0
MapsOwedAfterLogs = (run : ScriptRun) (size : Sizes) (held : HeldTracks) (s end : Group) (log : List Answer) (first : Point) (points more : List PassedPoint) (p q : Point) (done known : Plans) (deeds : List Deed)
    → DeedsLeadTo run size held s end log p q done known deeds → (last_point first points).rows ≡ p.rows → HaveRowsOf more deeds → MapsRest p s → HasCutOrNoRow p.time p.rows s → RestsAtCut end q.time → MapsOwed run first points p s
    → MapsOwed run first (points ++ more) q end × MapsRest q end
