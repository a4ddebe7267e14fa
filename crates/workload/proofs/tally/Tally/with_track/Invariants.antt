use Rattle.std.proofs.Common.{◌≡◌, ◌≤◌, ◌+◌, ◌*◌, take}
use Rattle.std.specs.Prelude.{sum_by}
use Rattle.ckd_track.specs.Tracks.{track_size}
use Rattle.workload.specs.Tallies.{content_sum}
use Rattle.workload.proofs.tally.Tally.with_track.Given as goal

-- the records so far, whose bytes are below 256
abbrev pub invariant-loop-rec : goal.invariant-loop-rec
invariant-loop-rec l = record {
  records : l.tally.records ≡ l.fn.self.records + l.rec-index;
  sum : l.tally.sum ≡ l.fn.self.sum + sum_by content_sum (take l.rec-index l.recs);
  short : l.tally.sum ≤ l.fn.self.sum + 255 * track_size (take l.rec-index l.recs);
}
