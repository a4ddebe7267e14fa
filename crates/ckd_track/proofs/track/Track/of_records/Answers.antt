use Rattle.std.proofs.Common.{nat_le, arith}
use Rattle.std.proofs.lemmas.Bool.{leb-true}
use Rattle.ckd_track.specs.Tracks.{track_size, capacity, rises_above}
use Rattle.ckd_track.proofs.ImageLaws.{both_true}
use Rattle.ckd_track.proofs.track.Track.of_records.Goals as goal

pub overflow_cast-used : goal.overflow_cast-used
overflow_cast-used c =
    let recs = c.args.recs.items in
    let parts = both_true (rises_above 0 recs) (nat_le (track_size recs) capacity) c.requires.track in
    omega (arith, leb-true (track_size recs) capacity parts.1, rw c.as_slice.ensures.value at c.track_size-used.ensures)
