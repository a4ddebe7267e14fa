-- The shared state between two epochs, and what its calls make of it with a session's rows.
use Rattle.std.specs.Prelude.{◌≡◌, ℕ, ◌<◌, ◌≤◌, ◌++◌, List, [], ◌∷◌, length, Bool, true, false, IsTrue}
use Rattle.std.specs.List.{Contains}
use Rattle.change_map.specs.Sets.{every_track}
use Rattle.copy_plan.specs.Plans.{fresh_plan}
use Rattle.crash_plant.specs.Choices.{Choice, IsChoice}
use Rattle.crash_plant.specs.Moments.{PlantState}
use Rattle.pair_table.specs.declared.row.PairRow.{PairRow}
use Rattle.pair_table.specs.declared.row.PairState.{PairState}
use Rattle.pair_table.specs.declared.row.PairState.TheVariants.{Pending}
use Rattle.pair_table.specs.Rows.{is_suspended}
use Rattle.pair_table.specs.Tables.{are_below, none_clash}
use Rattle.group_state.specs.Controls.{counts}
use Rattle.group_state.specs.Groups.{Group, control_at}
use Rattle.group_state.specs.Machine.{Call, group_after}
use Rattle.group_state.specs.Machine.Call.{Carry, Drop, Forget, Resume}
use Rattle.group_state.specs.Runs.{May}
use Rattle.group_state.specs.SoundStates.{IsGroupSound}
use Rattle.pair_table.specs.States.{is_device_suspended}
use Rattle.consistency.specs.Stages.{ScriptRun, tracks_of_row}
use Rattle.fed_logs.specs.Logs.{Sizes}
use Rattle.fed_logs.specs.Moves.{Plans}
use Rattle.consistency.specs.Leads.{Point}
use Rattle.site_store.specs.Exceptions.{Exceptions}
use Rattle.mover.specs.Working.{StandsForRows}

-- What the shared state is between two epochs: how many tracks volumes have, the tracks of which no content is told, the state, the point that
-- is meant, and the plans that are known to be done.
pub record Between : Type 0 where
  pub run : ScriptRun
  pub size : Sizes
  pub excepted : Exceptions
  pub group : Group
  pub point : Point
  pub done : Plans

-- The state stands for the rows, and is sound. A crash may leave something now.
pub record StandsBetween (start : PlantState) (b : Between) : Type 0 where
  pub rows : StandsForRows b.run b.size start b.excepted b.group b.point b.done
  pub keeps : IsGroupSound b.group
  pub some : (c : Choice) × IsChoice start start.clock c

-- The state has no volume, and nothing waits in it.
abbrev pub HasNothing : Group → Type 0
HasNothing s = (k : ℕ) → k < length s.controls → ((control_at s k).volumes ≡ []) × ((control_at s k).queue.waiting ≡ [])

-- A session begins without a row, and no plan is known to be done.
pub record MayBegin (start : PlantState) (b : Between) : Type 0 where
  pub none : b.point.rows ≡ []
  pub nothing : HasNothing b.group
  pub known : (k v : ℕ) → b.done k v ≡ false
  pub last : b.group.last.0 ≤ b.point.time
  pub keeps : IsGroupSound b.group
  pub some : (c : Choice) × IsChoice start start.clock c

-- the state after a call, with other rows, and with other plans that are known to be done
abbrev pub between_after : Call → List PairRow → Plans → Between → Between
between_after call rows done b = record b { group = group_after b.group call; point = record b.point { rows = rows }; done = done }

-- ---- a row is suspended

-- A row is suspended, and its volume is dropped: with all of its tracks, where its device failed or its plan isn't known to be done.
pub record MaySuspend (b : Between) (r : PairRow) (state : PairState) (all : Bool) : Type 0 where
  pub among : Contains b.point.rows r
  pub suspends : is_suspended state ≡ true
  pub failed : is_device_suspended state ≡ true → all ≡ true
  pub known : all ≡ false → IsTrue (b.done r.control r.volume)
  pub may : May b.group (Drop r.control r.volume all)

-- ---- a row is resumed

-- A row of a controller that counts becomes pending, and its volume, which is dropped, is carried again.
pub record MayResume (b : Between) (r : PairRow) : Type 0 where
  pub among : Contains b.point.rows r
  pub counted : IsTrue (counts (control_at b.group r.control).phase)
  pub may : May b.group (Resume r.control r.volume)

-- ---- a row is taken out

-- A row is taken out, and its volume, which is dropped, is forgotten.
pub record MayForget (b : Between) (r : PairRow) : Type 0 where
  pub among : Contains b.point.rows r
  pub may : May b.group (Forget r.control r.volume)

-- ---- a row is added

-- A pending row of a controller that counts is added. All tracks of its volume, which has the row's, are wanted.
pub record MayAdd (start : PlantState) (b : Between) (r : PairRow) : Type 0 where
  pub apart : IsTrue (none_clash (b.point.rows ++ r ∷ []))
  pub below : IsTrue (are_below start.volumes (b.point.rows ++ r ∷ []))
  pub sized : b.size r.control r.volume ≡ tracks_of_row r
  pub pending : r.state ≡ Pending
  pub counted : IsTrue (counts (control_at b.group r.control).phase)
  pub may : May b.group (Carry r.control r.volume (fresh_plan (every_track (b.size r.control r.volume))))
