-- On what the meaning of images depends, a law that is the contract of a public function without parameters; and a walk with a group at
-- its end.
use Rattle.std.specs.Prelude.{◌≡◌, ℕ, List, [], ◌∷◌, ◌++◌, true, Some, None, Ok}
use Rattle.crash_plant.specs.declared.spot.Spot.{Spot}
use Rattle.crash_plant.specs.declared.device.Device.TheVariants.{Journal}
use Rattle.control_set.specs.declared.value.Mark.{Mark}
use Rattle.pair_table.specs.declared.row.PairRow.{PairRow}
use Rattle.pair_table.specs.Tables.{with_rows}
use Rattle.state_set.specs.Slots.{Stored}
use Rattle.xrc_journal.specs.Walks.{Logged}
use Rattle.site_means.specs.declared.means.Means.{Means}
use Rattle.site_means.specs.Images.{Images, Shape}
use Rattle.site_means.specs.Walk.{Walk, first_unfit, has_entered, rows_through, walk_in}
use Rattle.site_means.specs.Meaning.{chosen_in, meaning_in, stored_in}

-- ---- on what the meaning depends

-- The images have the same chosen mark, and its state slot holds the same.
pub record AgreeOnMark (shape : Shape) (a b : Images) : Type 0 where
  pub chosen : chosen_in shape b ≡ chosen_in shape a
  pub stored : (m : Mark) → chosen_in shape a ≡ Ok (Some m) → stored_in shape b m ≡ stored_in shape a m

-- They have the same journals, too, as far as the walk over the first enters them.
pub record Agree (shape : Shape) (a b : Images) : Type 0 where
  pub mark : AgreeOnMark shape a b
  pub journals : (m : Mark) (s : Stored) → chosen_in shape a ≡ Ok (Some m) → stored_in shape a m ≡ Ok s → (j : ℕ) → has_entered j (walk_in shape a m s.rows).entered ≡ true → b (Journal j) ≡ a (Journal j)

-- The meaning depends on the chosen mark, on what its state slot holds, and on the journals that the walk enters.
abbrev pub MeaningsAgree : Type 0
MeaningsAgree = (shape : Shape) (a b : Images) → Agree shape a b → meaning_in shape b ≡ meaning_in shape a

-- ---- the end of a walk

-- the same with a group's time, and the rows changed by its items
abbrev pub with_group : Logged → Means → Means
with_group g means = record {
  session = means.session;
  level = means.level;
  time = record { 0 = g.time };
  table = with_rows means.table (rows_through g.items means.table.rows);
  from = means.from;
  ended = means.ended;
}

-- the walk with a group at its end
abbrev pub and_group : Logged → (after : Spot) → Walk → Walk
and_group g after w = record { groups = w.groups ++ g ∷ []; rows = rows_through g.items w.rows; entered = w.entered; at = after; last = g.time; bad = None }

-- ---- groups of a walk

-- The groups fit the rows, one after another.
abbrev pub FitRows : (volumes : ℕ) → List PairRow → List Logged → Type 0
FitRows volumes rows [] = Unit {0}
FitRows volumes rows (g ∷ groups) = (first_unfit volumes 0 rows g.items ≡ None) × FitRows volumes (rows_through g.items rows) groups
