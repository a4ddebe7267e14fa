use Rattle.std.proofs.Common.{◌≡◌, ◌-◌, ◌+◌, ◌≤◌}
use Rattle.ckd_track.specs.Tracks.{capacity}
use Rattle.ckd_track.specs.Images.{records_at}
use Rattle.ckd_track.proofs.Steps.{with_front}
use Rattle.ckd_track.proofs.decoding.decoded_records.Given as goal

-- the records that were read and those still to read are all of them, and the places stay within a track
abbrev pub invariant-loop : goal.invariant-loop
invariant-loop l = record {
  same : with_front l.recs (records_at (l.count - l.counter) l.place l.last l.room l.rest) ≡ records_at l.count l.first_place l.low capacity l.bytes;
  within : l.place + l.room ≤ l.first_place + capacity;
}
