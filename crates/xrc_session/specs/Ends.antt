-- How a run of a session ends: done, or stopped in the work for a line.
use Rattle.std.specs.Prelude.{◌≡◌, ℕ, ◌<◌, List, [], length, None, Some, IsTrue, slice_get}
use Rattle.std.specs.List.{list_all}
use Rattle.tod_stamp.specs.Fields.{IsBytes}
use Rattle.crash_plant.specs.declared.device.Device.TheVariants.{Volume}
use Rattle.crash_plant.specs.Choices.{AtNow}
use Rattle.crash_plant.specs.Moments.{PlantState}
use Rattle.pair_table.specs.declared.row.PairRow.{PairRow}
use Rattle.pair_table.specs.declared.row.PairState.TheVariants.{Duplex}
use Rattle.primary_ctl.specs.Primaries.{primary}
use Rattle.row_changes.specs.Changes.{Timed, after_changes}
use Rattle.row_changes.specs.Spans.{is_hit_at}
use Rattle.passages.specs.Points.{last_point}
use Rattle.applier.specs.Slots.{BeginsWithTrack}
use Rattle.consistency.specs.Stages.{ScriptRun, tracks_of_row}
use Rattle.consistency.specs.Courses.{Answered, stage_at}
use Rattle.consistency.specs.Pauses.{RunGoesOn}
use Rattle.xrc_status.specs.declared.stop.Stop.{Stop}
use Rattle.xrc_status.specs.declared.stop.Stop.TheVariants.{Spent}
use Rattle.xrc_session.specs.AppliedEnds.{HasEmptyWalk}
use Rattle.xrc_session.specs.Frames.{ChangesRows, rows_passed}
use Rattle.xrc_session.specs.LinePauses.{stage_after_text}
use Rattle.xrc_session.specs.Starting.{AreOwnSpent}
use Rattle.xrc_session.specs.Stops.{IsStopped}
use Rattle.xrc_session.specs.Trails.{AreExact, GoesForth, Trail, HasBegunTrail, StandsOnTrail, first_leg}

-- ---- done

-- the rows after the last of these lines
abbrev pub rows_at_end : ScriptRun → List Answered → List PairRow
rows_at_end run lines = (stage_at run lines (length lines)).table.rows

-- After the last line no record stands after the mark. So the slot of each track of a duplex row begins with the image of its primary's track at
-- the time of the last reply.
pub record IsApplied (run : ScriptRun) (lines : List Answered) (now : PlantState) : Type 0 where
  pub walk : AtNow (HasEmptyWalk now) now
  pub slots : (place : ℕ) (r : PairRow) → slice_get (rows_at_end run lines) place ≡ Some r → r.state ≡ Duplex → IsBytes (now.bytes (Volume r.device))
      → (x : ℕ) → x < tracks_of_row r → BeginsWithTrack (now.bytes (Volume r.device)) x (Some (primary run.traces (stage_at run lines (length lines)).replied r.control r.volume x))

-- After the last line rows change by hits alone, at the time of its reply. So where no volume failed since then, they are the last line's rows.
abbrev pub StaysAtLastLine : ScriptRun → List Answered → Trail → Type 0
StaysAtLastLine run lines trail = (hits : List Timed) × IsTrue (list_all (is_hit_at (stage_at run lines (length lines)).replied) hits) × ((last_point (first_leg run lines trail).point trail.points).rows ≡ after_changes run.level hits (rows_at_end run lines))

-- The script was heard to its end, each line has its reply, and nothing else was said. In a started session all is applied and marked.
pub record IsRunDone (run : ScriptRun) (lines : List Answered) (trail : Trail) (began now : PlantState) : Type 0 where
  pub goes : RunGoesOn run lines [] began now
  pub at_end : now.script ≡ []
  pub exact : AreExact run lines trail
  pub unstarted : trail.started ≡ 0 → trail.points ≡ []
  pub begun : HasBegunTrail run lines trail
  pub on_trail : 0 < trail.started → StandsOnTrail run lines None trail None now
  pub rows : 0 < trail.started → StaysAtLastLine run lines trail
  pub goes_forth : 0 < began.clock → 0 < trail.started → GoesForth run lines None trail None began now
  pub volumes : ChangesRows (rows_passed trail.points) began now
  pub applied : IsTrue (stage_at run lines (length lines)).table.is_started → IsApplied run lines now

-- ---- stopped

-- A run stopped in the work for a line, after the answered ones. At a stop for numbers the devices tell that the session's own are spent.
pub record StopsInLine (run : ScriptRun) (lines : List Answered) (text : List ℕ) (began now : PlantState) (stop : Stop) : Type 0 where
  pub trail : Trail
  pub stopped : IsStopped run lines trail text began now stop
  pub volumes : ChangesRows (rows_passed trail.points) began now
  pub spent : stop ≡ Spent → AreOwnSpent run (stage_after_text run lines text began) began now
