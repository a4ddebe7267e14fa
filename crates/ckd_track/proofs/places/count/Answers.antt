use Rattle.std.proofs.Common.{arith}
use Rattle.ckd_track.proofs.Walks.{walk_begins}
use Rattle.ckd_track.proofs.places.count.Goals as goal

pub read_u16-requires : goal.read_u16-requires
read_u16-requires c = omega (arith, (walk_begins c.args.image.now (record { is_track = c.requires.is_track; spelled = c.requires.spelled })).long)

pub returns : goal.returns
returns c = omega (arith, c.read_u16.ensures, (walk_begins c.args.image.now (record { is_track = c.requires.is_track; spelled = c.requires.spelled })).count)
