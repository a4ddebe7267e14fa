use Rattle.std.proofs.Common.{◌≡◌, take}
use Rattle.ckd_track.specs.Tracks.{track_size}
use Rattle.ckd_track.proofs.recs.track_size.Given as goal

abbrev pub invariant-loop-rec : goal.invariant-loop-rec
invariant-loop-rec l = l.sum ≡ track_size (take l.rec-index l.recs)
