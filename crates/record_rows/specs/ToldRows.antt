-- What records and marks may make of rows, place by place, and what is due after changes in a row.
use Rattle.std.specs.Prelude.{◌≡◌, ◌≢◌, ◌⊎◌, ℕ, List, [], ◌∷◌, Bool, false, None, IsTrue}
use Rattle.pair_table.specs.declared.level.Level.{Level}
use Rattle.pair_table.specs.declared.row.PairRow.{PairRow}
use Rattle.pair_table.specs.declared.row.PairState.TheVariants.{Pending, Duplex}
use Rattle.pair_table.specs.declared.row.SuspendCause.TheVariants.{Device}
use Rattle.pair_table.specs.Rows.{is_suspended}
use Rattle.pair_table.specs.Tables.{in_state}
use Rattle.pending_queue.specs.Groups.{FormedGroup}
use Rattle.row_changes.specs.Changes.{Due, Timed, due_after, since}
use Rattle.record_rows.specs.GroupRows.{is_shown_done, shown_break}
use Rattle.record_rows.specs.Hits.{is_down}
use Rattle.pair_table.specs.States.{is_device_suspended}

-- A relation holds between each row and the next one in its place.
abbrev pub InPlaces : (is : PairRow → PairRow → Type 0) → (rows next : List PairRow) → Type 0
InPlaces is [] [] = Unit {0}
InPlaces is [] (s ∷ next) = ⊥
InPlaces is (r ∷ rows) [] = ⊥
InPlaces is (r ∷ rows) (s ∷ next) = is r s × InPlaces is rows next

-- What telling the failed jobs at a time makes of a row. The pair stays. A row that its device suspends stays as it is, and none that is
-- suspended goes on. Devices suspend the rows of the failed jobs since that time, and no others but those that they suspended before.
pub record IsTold (failed : List Bool) (time : ℕ) (r s : PairRow) : Type 0 where
  pub same : s ≡ in_state s.state r
  pub stays : IsTrue (is_device_suspended r.state) → s.state ≡ r.state
  pub live : is_suspended s.state ≡ false → is_suspended r.state ≡ false
  pub hit : IsTrue (is_down failed r.device) → is_device_suspended r.state ≡ false → s.state ≡ since Device time
  pub by_fault : IsTrue (is_device_suspended s.state) → IsTrue (is_device_suspended r.state) ⊎ IsTrue (is_down failed r.device)

abbrev pub AreTold : (failed : List Bool) → (time : ℕ) → (rows next : List PairRow) → Type 0
AreTold failed time = InPlaces (IsTold failed time)

-- What the record of a group makes of a row. The row isn't suspended only if its controller doesn't break. It doesn't wait for its copy any
-- longer. It is duplex only if it was or if its plan is done, and then it is unless it is suspended.
pub record IsGrouped (group : FormedGroup) (r s : PairRow) : Type 0 where
  pub unbroken : is_suspended s.state ≡ false → shown_break r.control group.breaks ≡ None
  pub begun : s.state ≢ Pending
  pub duplex : s.state ≡ Duplex → (r.state ≡ Duplex) ⊎ IsTrue (is_shown_done group r)
  pub done : is_suspended s.state ≡ false → IsTrue (is_shown_done group r) → s.state ≡ Duplex

abbrev pub AreGrouped : FormedGroup → (rows next : List PairRow) → Type 0
AreGrouped group = InPlaces (IsGrouped group)

-- what is due after changes in a row
abbrev pub due_after_changes : Level → Due → List Timed → Due
due_after_changes level due [] = due
due_after_changes level due (t ∷ changes) = due_after_changes level (due_after level due t) changes
