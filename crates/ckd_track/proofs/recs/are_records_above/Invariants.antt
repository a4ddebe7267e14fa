use Rattle.std.proofs.Common.{◌≡◌, ◌≤◌, ◌+◌, drop}
use Rattle.ckd_track.specs.Tracks.{rises_above, track_size, capacity}
use Rattle.ckd_track.proofs.recs.are_records_above.Given as goal

-- the records that are left decide the same
abbrev pub invariant-loop-rec : goal.invariant-loop-rec
invariant-loop-rec l = record {
  same : rises_above l.last (drop l.rec-index l.recs) ≡ rises_above l.low l.recs;
  sizes : l.room + track_size l.recs ≡ capacity + track_size (drop l.rec-index l.recs);
  within : l.room ≤ capacity;
}
