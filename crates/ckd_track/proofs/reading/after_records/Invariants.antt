use Rattle.std.proofs.Common.{◌≡◌, ◌-◌, ◌+◌, ◌≤◌}
use Rattle.ckd_track.specs.Tracks.{capacity}
use Rattle.ckd_track.specs.Images.{records_at}
use Rattle.ckd_track.specs.Reading.{rest_of_read}
use Rattle.ckd_track.proofs.reading.after_records.Given as goal

-- what is left to read leads to the same end, and the places stay within the longest image
abbrev pub invariant-loop : goal.invariant-loop
invariant-loop l = record {
  same : rest_of_read (records_at (l.count - l.counter) l.place l.last l.room l.rest) ≡ rest_of_read (records_at l.count 2 0 capacity l.bytes);
  within : l.place + l.room ≤ 2 + capacity;
}
