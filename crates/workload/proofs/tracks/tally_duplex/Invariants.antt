use Rattle.std.proofs.Common.{◌≡◌, ◌*◌, take}
use Rattle.crash_plant.specs.PlainPlant.{plain_state}
use Rattle.workload.specs.Tallies.{HasGrown, most_tracks, no_tally, with_records}
use Rattle.workload.specs.Summaries.{LeavesAsItWas, duplex_records}
use Rattle.workload.proofs.tracks.tally_duplex.Given as goal

-- the records of the pairs so far
abbrev pub invariant-loop-place : goal.invariant-loop-place
invariant-loop-place l = record {
  counts : l.tally ≡ with_records no_tally (duplex_records (plain_state l.fn.plant).bytes (take l.place l.table.rows));
  grows : HasGrown (l.place * most_tracks) no_tally l.tally;
  leaves : LeavesAsItWas (plain_state l.fn.plant) (plain_state l.plant);
}
