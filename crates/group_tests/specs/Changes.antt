-- Names, a table and a shared state that take the changes of commands.
use Rattle.std.specs.Prelude.{◌≡◌, ℕ, ◌<◌, not, List, length, Bool, true, IsTrue}
use Rattle.std.specs.List.{list_all}
use Rattle.xrc_edge.specs.declared.limits.TheConstants.{MOST_CONTROLS}
use Rattle.pair_table.specs.declared.row.PairRow.{PairRow}
use Rattle.pair_table.specs.Commands.{MayCommand}
use Rattle.pair_table.specs.Naming.{Naming}
use Rattle.pair_table.specs.Rows.{is_suspended}
use Rattle.pair_table.specs.Tables.{Table}
use Rattle.group_state.specs.Controls.{counts}
use Rattle.group_state.specs.Groups.{Group, control_at}
use Rattle.xrc_session.specs.Taking.{IsSoundForRows}

-- Each controller counts.
abbrev pub AllCount : Group → Type 0
AllCount s = (k : ℕ) → k < length s.controls → IsTrue (counts (control_at s k).phase)

-- The session is started, and the state is sound for the table's rows. There are all controllers, and each counts.
pub record TakesChanges (names : Naming) (table : Table) (s : Group) : Type 0 where
  pub may : MayCommand names table.rows
  pub started : table.is_started ≡ true
  pub kept : IsSoundForRows s table.rows
  pub many : length s.controls ≡ MOST_CONTROLS
  pub counted : AllCount s

-- None of the rows is suspended.
abbrev pub are_live : List PairRow → Bool
are_live rows = list_all (λ r. not (is_suspended r.state)) rows
