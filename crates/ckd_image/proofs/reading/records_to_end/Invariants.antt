use Rattle.std.proofs.Common.{◌≡◌, ◌≤◌, ◌+◌, ◌-◌, [], length}
use Rattle.ckd_track.specs.Tracks.{last_number}
use Rattle.ckd_image.specs.ImageTracks.{records_to_end}
use Rattle.ckd_image.proofs.reading.records_to_end.Given as goal

-- the records that were read and those still to read are all of them
abbrev pub invariant-loop : goal.invariant-loop
invariant-loop l = record {
  same : records_to_end (256 - l.counter) l.number (21 + (length l.bytes - length l.rest)) l.track l.rest ≡ records_to_end 256 l.number 21 [] l.bytes;
  last : l.last ≡ last_number 0 l.track;
  shorter : length l.rest ≤ length l.bytes;
}
