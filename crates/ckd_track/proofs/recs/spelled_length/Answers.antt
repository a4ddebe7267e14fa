use Rattle.std.proofs.Common.{arith}
use Rattle.ckd_track.proofs.Parts.{length-spellings}
use Rattle.ckd_track.proofs.Puts.{few}
use Rattle.ckd_track.proofs.recs.spelled_length.Goals as goal

pub overflow_mul-result : goal.overflow_mul-result
overflow_mul-result c = omega (arith, few c.args.recs.now c.requires.track)

pub overflow_sub-result : goal.overflow_sub-result
overflow_sub-result c = omega (arith, c.track_size.ensures, length-spellings c.args.recs.now)

pub returns : goal.returns
returns c = omega (arith, c.track_size.ensures, length-spellings c.args.recs.now)
