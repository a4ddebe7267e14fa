use Rattle.std.proofs.Common.{◌∙◌, ap, arith}
use Rattle.ckd_track.specs.Tracks.{track_size}
use Rattle.ckd_track.proofs.Puts.{record_fits}
use Rattle.ckd_track.proofs.RowLaws.{sizes_split, sizes_taken, track_sizes, take_every}
use Rattle.ckd_track.proofs.recs.track_size.Goals as goal

pub size-sum-requires : goal.size-sum-requires
size-sum-requires c = record { fits = record_fits c.args.recs.now c.loop-rec.rec-index c.rec-item.result c.requires.track c.loop-rec-test.true c.rec-item.is }

pub overflow_add-sum : goal.overflow_add-sum
overflow_add-sum c =
    let fits = record_fits c.args.recs.now c.loop-rec.rec-index c.rec-item.result c.requires.track c.loop-rec-test.true c.rec-item.is in
    omega (arith, c.loop-rec.invariant, c.size-sum.ensures, fits.key_fits, fits.content_fits, sizes_split c.args.recs.now c.loop-rec.rec-index, track_sizes c.args.recs.now c.requires.track)

pub loop-rec-preserved : goal.loop-rec-preserved
loop-rec-preserved c = omega (arith, c.loop-rec.invariant, c.size-sum.ensures, sizes_taken c.args.recs.now c.loop-rec.rec-index c.rec-item.result c.loop-rec-test.true c.rec-item.is)

pub returns : goal.returns
returns c = c.loop-rec.invariant ∙ ap track_size (take_every c.args.recs.now c.loop-rec.rec-index c.loop-rec-test.false)
