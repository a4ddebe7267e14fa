use Rattle.ckd_track.proofs.RowLaws.{up_to_no_more, up_to_more, all_up_to}
use Rattle.ckd_track.proofs.recs.count_up_to.Goals as goal

pub returns-then-after-rec-clause-taken : goal.returns-then-after-rec-clause-taken
returns-then-after-rec-clause-taken c = up_to_no_more c.args.recs.now c.loop-place.place c.args.after c.index-recs-place.result c.requires.track c.loop-place-test.true c.index-recs-place.is c.loop-place.invariant c.if-after-rec.true

pub loop-place-preserved : goal.loop-place-preserved
loop-place-preserved c = up_to_more c.args.recs.now c.loop-place.place c.args.after c.index-recs-place.result c.loop-place-test.true c.index-recs-place.is c.loop-place.invariant c.if-after-rec.false

pub returns-clause-taken : goal.returns-clause-taken
returns-clause-taken c = all_up_to c.args.recs.now c.loop-place.place c.args.after c.loop-place-test.false c.loop-place.invariant
