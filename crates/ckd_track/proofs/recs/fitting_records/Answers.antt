use Rattle.ckd_track.proofs.Puts.{record_fits}
use Rattle.std.proofs.Common.{◌-◌, ◌+◌, ◌++◌, take, drop, ap, sym, ◌∙◌}
use Rattle.ckd_track.specs.Effects.{fitting}
use Rattle.ckd_track.proofs.RowLaws.{fits_no_more, fits_more, all_fit}
use Rattle.std.proofs.Common.{arith}
use Rattle.ckd_track.proofs.recs.fitting_records.Goals as goal

pub size-size-requires : goal.size-size-requires
size-size-requires c = record { fits = record_fits c.args.recs.now c.loop-place.place c.index-recs-place.result c.requires.track c.loop-place-test.true c.index-recs-place.is }

pub returns-then-left-size : goal.returns-then-left-size
returns-then-left-size c =
    fits_no_more c.args.recs.now c.loop-place.place c.args.room c.loop-place.left c.index-recs-place.result c.loop-place-test.true c.index-recs-place.is c.loop-place.invariant (omega (arith, c.if-left-size.true, c.size-size.ensures))

pub loop-place-preserved : goal.loop-place-preserved
loop-place-preserved c =
    let on = fits_more c.args.recs.now c.loop-place.place c.args.room c.loop-place.left c.index-recs-place.result c.loop-place-test.true c.index-recs-place.is c.loop-place.invariant (omega (arith, c.if-left-size.false, c.size-size.ensures)) in
    on ∙ ap (λ n. take (c.loop-place.place + 1) c.args.recs.now ++ fitting (c.loop-place.left - n) (drop (c.loop-place.place + 1) c.args.recs.now)) (sym c.size-size.ensures)

pub returns : goal.returns
returns c = all_fit c.args.recs.now c.loop-place.place c.args.room c.loop-place.left c.loop-place-test.false c.loop-place.invariant
