-- The laws of rows between two epochs. Each is the contract of a public function.
use Rattle.std.specs.Prelude.{◌≡◌, ℕ, ◌<◌, ◌++◌, List, [], ◌∷◌, length, Bool, Option, nat_lt, Ok, true, IsTrue}
use Rattle.change_map.specs.Sets.{every_track}
use Rattle.copy_plan.specs.Plans.{fresh_plan}
use Rattle.std.specs.List.{All, Contains}
use Rattle.crash_plant.specs.Choices.{Choice, IsChoice}
use Rattle.crash_plant.specs.Moments.{PlantState}
use Rattle.pair_table.specs.declared.command.Change.{Change}
use Rattle.pair_table.specs.declared.command.Command.{Command}
use Rattle.pair_table.specs.declared.level.Level.{Level}
use Rattle.pair_table.specs.declared.row.PairRow.{PairRow}
use Rattle.pair_table.specs.declared.row.PairState.{PairState}
use Rattle.pair_table.specs.Commands.{answer, table_after}
use Rattle.pair_table.specs.Naming.{Naming}
use Rattle.pair_table.specs.Tables.{Table, none_clash, with_resumed, with_state, without_row}
use Rattle.group_state.specs.Controls.{counts}
use Rattle.group_state.specs.Groups.{Group, control_at}
use Rattle.group_state.specs.Machine.Call.{Carry, Drop, Forget, Resume}
use Rattle.record_rows.specs.Deeds.{Deed, entries_by_deed, rows_by_deed}
use Rattle.record_rows.specs.Records.{rows_with_hits}
use Rattle.consistency.specs.Stages.{tracks_of_row}
use Rattle.fed_logs.specs.Logs.{Sizes}
use Rattle.fed_logs.specs.Moves.{plans_without}
use Rattle.site_store.specs.DoneDeeds.{DoesDeeds}
use Rattle.mover.specs.OwedTracks.{ExceptedAreOwed}
use Rattle.site_store.specs.Exceptions.{excepted_after, excepted_by_deed}
use Rattle.xrc_session.specs.EpochPauses.{Between, MayAdd, MayBegin, MayForget, MayResume, MaySuspend, StandsBetween, between_after}
use Rattle.xrc_session.specs.Taking.{IfAdds, IsSoundForRows, MayTake, after_calls, calls_of_change, is_begun, plans_after_calls}

-- Without a row and without a volume the state stands for the rows.
abbrev pub FirstRowsStand : PlantState → Type 0
FirstRowsStand start = (b : Between) → MayBegin start b → StandsBetween start b

-- A row is suspended, and its volume is dropped. That its plan is done is known no longer.
abbrev pub SuspendedRowsStand : PlantState → Type 0
SuspendedRowsStand start = (b : Between) (r : PairRow) (state : PairState) (all : Bool) → StandsBetween start b → MaySuspend b r state all
    → StandsBetween start (between_after (Drop r.control r.volume all) (with_state r.device state b.point.rows) (plans_without r.control r.volume b.done) b)

-- A row becomes pending again, in whatever group, and its volume is carried again, of which the tracks in its map are wanted.
abbrev pub ResumedRowsStand : PlantState → Type 0
ResumedRowsStand start = (b : Between) (r : PairRow) (group : Option (List ℕ)) → StandsBetween start b → MayResume b r
    → StandsBetween start (between_after (Resume r.control r.volume) (with_resumed r.device group b.point.rows) b.done b)

-- A row is taken out, and its volume is forgotten.
abbrev pub ForgottenRowsStand : PlantState → Type 0
ForgottenRowsStand start = (b : Between) (r : PairRow) → StandsBetween start b → MayForget b r
    → StandsBetween start (between_after (Forget r.control r.volume) (without_row r.device b.point.rows) b.done b)

-- A row is added, and its volume begins to be carried with all tracks wanted.
abbrev pub AddedRowsStand : PlantState → Type 0
AddedRowsStand start = (b : Between) (r : PairRow) → StandsBetween start b → MayAdd start b r
    → StandsBetween start (between_after (Carry r.control r.volume (fresh_plan (every_track (b.size r.control r.volume)))) (b.point.rows ++ r ∷ []) b.done b)

-- ---- the devices

-- A deed without an entry, as a command's record or a mark is one, leaves content, so that the state stands for the rows that it brings.
abbrev pub RecordedRowsStand : (old new : PlantState) → Type 0
RecordedRowsStand old new = (b : Between) (rows : List PairRow) (deed : Deed) → StandsBetween old b → DoesDeeds b.excepted rows (deed ∷ []) old new
    → entries_by_deed deed ≡ [] → rows_by_deed deed ≡ b.point.rows → (some : (c : Choice) × IsChoice new new.clock c)
    → StandsBetween new (record b { excepted = excepted_by_deed rows deed b.excepted })

abbrev pub IsWithoutEntries : Deed → Type 0
IsWithoutEntries deed = entries_by_deed deed ≡ []

-- So do several deeds without an entry, as a mark and the record for which it is made, if the tracks that they except are owed.
abbrev pub RowsStandAfterDeeds : (old new : PlantState) → Type 0
RowsStandAfterDeeds old new = (b : Between) (rows : List PairRow) (deeds : List Deed) → StandsBetween old b → DoesDeeds b.excepted rows deeds old new → All IsWithoutEntries deeds
    → ExceptedAreOwed b.size (excepted_after rows deeds b.excepted) b.group b.point.rows → (some : (c : Choice) × IsChoice new new.clock c)
    → StandsBetween new (record b { excepted = excepted_after rows deeds b.excepted })

-- ---- a command's change

-- An added row's device is one of the plant's volumes, and its volume has the row's tracks.
pub record FitsOn (start : PlantState) (size : Sizes) (r : PairRow) : Type 0 where
  pub below : IsTrue (nat_lt r.device start.volumes)
  pub sized : size r.control r.volume ≡ tracks_of_row r

-- the state after the calls that a change makes, with the rows after it
abbrev pub between_taken : Change → (after : List PairRow) → Between → Between
between_taken change after b =
    let calls = calls_of_change change b.group b.point.rows after in
    record b { group = after_calls calls b.group; point = record b.point { rows = after }; done = plans_after_calls calls b.done }

-- If the state stands for rows, it keeps for them what a change asks.
abbrev pub StandingRowsAreKept : PlantState → Type 0
StandingRowsAreKept start = (b : Between) → StandsBetween start b → IsSoundForRows b.group b.point.rows

-- A command's change that is taken over, with suspensions after it, leaves that the state stands for the rows after it.
abbrev pub TakenRowsStand : PlantState → Type 0
TakenRowsStand start = (b : Between) (change : Change) (after : List PairRow) → StandsBetween start b → IsSoundForRows b.group b.point.rows → MayTake b.group change b.point.rows after
    → IfAdds change after (FitsOn start b.size) → StandsBetween start (between_taken change after b)

-- The controller of a row that a change adds or resumes counts.
abbrev pub BegunControlsCount : Group → Change → (rows : List PairRow) → Type 0
BegunControlsCount s change rows = (r : PairRow) → Contains rows r → is_begun change r.device ≡ true → (r.control < length s.controls) × IsTrue (counts (control_at s r.control).phase)

-- A started session's command that is answered with a change, and the hits after it, make rows that may be taken over. The controller of a row that
-- the command adds or resumes has to count.
abbrev pub CommandsMayBeTaken : Type 0
CommandsMayBeTaken = (names : Naming) (table : Table) (session : List ℕ) (command : Command) (change : Change) (at : ℕ) (level : Level) (cut : ℕ) (failed : List Bool) (s : Group)
    → table.is_started ≡ true → IsTrue (none_clash table.rows) → answer names table session command ≡ Ok change → let next = (table_after names table session command at).rows in IsTrue (none_clash next)
    → BegunControlsCount s change next → MayTake s change table.rows (rows_with_hits level cut failed next)
