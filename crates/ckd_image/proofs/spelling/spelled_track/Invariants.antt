use Rattle.std.proofs.Common.{◌≡◌, ◌++◌, take}
use Rattle.std.specs.List.{flat_map}
use Rattle.ckd_image.specs.ImageTracks.{counted_record, track_front}
use Rattle.ckd_image.proofs.spelling.spelled_track.Given as goal

abbrev pub invariant-loop-rec : goal.invariant-loop-rec
invariant-loop-rec l = l.bytes ≡ track_front l.number ++ flat_map (counted_record l.number) (take l.rec-index l.recs)
