-- What seats of a table of three controllers know while they read and form.
use Rattle.std.specs.Prelude.{◌≡◌, ℕ, ◌<◌, ◌≤◌, [], ◌∷◌, length, true}
use Rattle.ckd_track.specs.declared.layout.TheConstants.{BLOCKS_OF_QUEUE, WRITES_OF_RUN}
use Rattle.atomic_table.specs.Seated.{TableId}
use Rattle.group_state.specs.Groups.{Group, new_group}
use Rattle.group_state.specs.Machine.Call.{Carry}
use Rattle.turn_group.specs.Seats.{ReaderSeatState, MoverSeatState}
use Rattle.group_tests.specs.StateVectors.{after_all, none_wanted}

abbrev pub started : Group
started = after_all (new_group 3 WRITES_OF_RUN BLOCKS_OF_QUEUE) (Carry 0 0 none_wanted ∷ Carry 1 0 none_wanted ∷ Carry 2 0 none_wanted ∷ [])

-- a reader of the table that has reported up to a time
pub record ReadsUpTo (table : TableId) (time : ℕ) (seat : ReaderSeatState) : Type 0 where
  pub here : seat.table ≡ table
  pub begun : seat.first ≡ started
  pub known : seat.control < 3
  pub tells : seat.reporting ≡ true
  pub told : seat.floor.0 ≡ time

-- the mover of the table, whose last cut is at most a time
pub record MovesUpTo (table : TableId) (limit : ℕ) (seat : MoverSeatState) : Type 0 where
  pub here : seat.table ≡ table
  pub volumes : length seat.known ≡ 3
  pub all : seat.seats ≡ 4
  pub low : seat.last.0 ≤ limit
