-- Deeds whose rows come by timed changes.
use Rattle.std.specs.Prelude.{◌≡◌, ℕ, ◌≤◌, List, [], ◌∷◌, map}
use Rattle.std.specs.List.{All, flat_map}
use Rattle.pair_table.specs.declared.level.Level.{Level}
use Rattle.pair_table.specs.declared.row.PairRow.{PairRow}
use Rattle.row_changes.specs.Changes.{Timed, after_changes}
use Rattle.record_rows.specs.Deeds.{Deed, rows_by_deed, time_by_deed}

-- a deed, and the changes of rows that it makes
pub record DeedOfChanges : Type 0 where
  pub deed : Deed
  pub changes : List Timed

abbrev pub deeds_of : List DeedOfChanges → List Deed
deeds_of steps = map (λ s. s.deed) steps

abbrev pub changes_of : List DeedOfChanges → List Timed
changes_of steps = flat_map (λ s. s.changes) steps

-- The deed's rows are those before it after its changes, and these come from the time that is meant before it to its own.
pub record IsByChanges (level : Level) (time : ℕ) (rows : List PairRow) (step : DeedOfChanges) : Type 0 where
  pub rows_are : rows_by_deed step.deed ≡ after_changes level step.changes rows
  pub in_time : All (λ t. (time ≤ t.time) × (t.time ≤ time_by_deed time step.deed)) step.changes

abbrev pub AreByChanges : Level → (time : ℕ) → List PairRow → List DeedOfChanges → Type 0
AreByChanges level time rows [] = Unit {0}
AreByChanges level time rows (step ∷ steps) = IsByChanges level time rows step × AreByChanges level (time_by_deed time step.deed) (rows_by_deed step.deed) steps
