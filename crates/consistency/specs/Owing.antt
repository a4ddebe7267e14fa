-- Which tracks of its primary a pair owes: those that are to be copied before its device holds the primary's tracks.
use Rattle.std.specs.Prelude.{◌⊎◌, ℕ, ◌≤◌, ◌*◌, ◌==◌, ◌&&◌, ◌||◌, not, List, Bool, true, false, Some, None, count_by, nat_lt, IsTrue}
use Rattle.std.specs.List.{list_any, range_with_len}
use Rattle.crash_plant.specs.Choices.{AtMoment, Choice}
use Rattle.crash_plant.specs.Moments.{PlantState}
use Rattle.pair_table.specs.declared.row.PairRow.{PairRow}
use Rattle.pair_table.specs.declared.row.PairState.{PairState}
use Rattle.pair_table.specs.declared.row.PairState.TheVariants.{Pending, Copy, Duplex, Suspended}
use Rattle.pair_table.specs.Naming.{primary_of}
use Rattle.pair_table.specs.Refusals.{is_pair, row_of_primary}
use Rattle.pair_table.specs.Rows.{state_numbers}
use Rattle.pair_table.specs.Tables.{is_of}
use Rattle.primary_ctl.specs.Primaries.{is_on_track, writes_up_to}
use Rattle.pair_table.specs.States.{is_by_device}
use Rattle.site_means.specs.Sight.{means_of}
use Rattle.consistency.specs.Stages.{ScriptRun, names_of, tracks_of_row}
use Rattle.xrc_edge.specs.declared.limits.TheConstants.{TRACKS_OF_CYLINDER}
use Rattle.consistency.specs.Leads.{Point}
use Rattle.passages.specs.Points.{was_so}
use Rattle.consistency.specs.Ways.{PassedPoint}

-- ---- whether a pair was duplex

abbrev pub is_same_state : PairState → PairState → Bool
is_same_state a b = (state_numbers a).0 == (state_numbers b).0 && (state_numbers a).1 == (state_numbers b).1 && (state_numbers a).2 == (state_numbers b).2

-- whether the pair of a row stands among rows in this state
abbrev pub has_pair_in : PairRow → PairState → List PairRow → Bool
has_pair_in row state rows = list_any (λ r. is_of row.device r && is_pair row.primary row.secondary r && is_same_state state r.state) rows

-- Whether the pair of a row was duplex at a point of a run, and since then at each one duplex, or as it is now. The run begins at `first`.
abbrev pub was_duplex : PairRow → (first : Point) → List PassedPoint → Bool
was_duplex row first points = was_so (λ p. has_pair_in row Duplex p.rows) (λ p. has_pair_in row row.state p.rows) (has_pair_in row Duplex first.rows) points

-- ---- the same of moments

-- whether the pair of a row stands in this state in what images of a plant mean
abbrev pub is_meant_in : PairRow → PairState → PlantState → Choice → Bool
is_meant_in row state plant c = elim (means_of plant c) [
  | None ↦ false
  | Some means ↦ has_pair_in row state means.table.rows
]

-- At a moment every choice has the pair duplex, and since then every choice has it duplex, or as it is now.
pub record HasBeenDuplex (row : PairRow) (plant : PlantState) (from to : ℕ) : Type 0 where
  pub moment : ℕ
  pub since : from ≤ moment
  pub within : moment ≤ to
  pub duplex : AtMoment (λ c. IsTrue (is_meant_in row Duplex plant c)) plant moment
  pub later : (t : ℕ) → moment ≤ t → t ≤ to → AtMoment (λ c. IsTrue (is_meant_in row Duplex plant c) ⊎ IsTrue (is_meant_in row row.state plant c)) plant t

-- ---- the tracks

-- whether a track of a controller's volume has a write after one time and up to another
abbrev pub is_changed : ScriptRun → (control volume : ℕ) → (since to track : ℕ) → Bool
is_changed run control volume since to x = list_any (λ w. is_on_track control volume x w && nat_lt since w.write.stamp.0) (writes_up_to run.traces to)

-- Whether a row in a state owes a track at a time. A suspended one owes those written since, where it was duplex and its own device hasn't
-- failed. Any other owes all.
abbrev pub owes_in : ScriptRun → (was_duplex : Bool) → PairRow → PairState → (to track : ℕ) → Bool
owes_in run was row Pending to x = true
owes_in run was row Copy to x = true
owes_in run was row Duplex to x = true
owes_in run was row (Suspended cause since) to x = is_by_device cause || not was || is_changed run row.control row.volume since.0 to x

-- whether a row owes a track at a time, after these points of a run
abbrev pub owes_track : ScriptRun → (first : Point) → List PassedPoint → PairRow → (to track : ℕ) → Bool
owes_track run first points row to x = owes_in run (was_duplex row first points) row row.state to x

-- how many tracks it owes
abbrev pub tracks_owed : ScriptRun → (first : Point) → List PassedPoint → PairRow → (to : ℕ) → ℕ
tracks_owed run first points row to = count_by (owes_track run first points row to) (range_with_len 0 (tracks_of_row row))

-- The tracks to be copied for a pair of this primary that is added at a time: those that its row owes, or for a new row all of the volume.
abbrev pub tracks_asked : ScriptRun → (first : Point) → List PassedPoint → List PairRow → (primary : List ℕ) → (time : ℕ) → ℕ
tracks_asked run first points rows primary time = elim (row_of_primary primary rows) [
  | Some row ↦ tracks_owed run first points row time
  | None ↦ elim (primary_of primary (names_of run)) [ Some volume ↦ TRACKS_OF_CYLINDER * volume.cylinders | None ↦ 0 ]
]
