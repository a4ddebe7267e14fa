use Rattle.std.proofs.Common.{◌<◌, ℕ, slice_index_or}
use Rattle.crash_plant.specs.PlainPlant.{plain_state}
use Rattle.pair_table.specs.declared.row.PairRow.{PairRow}
use Rattle.workload.specs.Summaries.{HasTracks}
use Rattle.workload_tests.proofs.finished.have_tracks.Given as goal

-- the rows so far
abbrev pub invariant-loop-place : goal.invariant-loop-place
invariant-loop-place l = (k : ℕ) (d : PairRow) → k < l.place → HasTracks (plain_state l.plant) (slice_index_or l.table.rows k d)
