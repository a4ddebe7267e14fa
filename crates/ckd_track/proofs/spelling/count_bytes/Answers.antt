use Rattle.std.proofs.Common.{arith}
use Rattle.ckd_track.proofs.Puts.{few}
use Rattle.ckd_track.proofs.spelling.count_bytes.Goals as goal

pub overflow_cast-recs : goal.overflow_cast-recs
overflow_cast-recs c = omega (arith, few c.args.recs.now c.requires.track)
