use Rattle.std.proofs.Common.{rules}
use Rattle.applier.proofs.Places.{rises_more}
use Rattle.applier.proofs.rising.are_rising.Goals as goal

pub loop-place-preserved : goal.loop-place-preserved
loop-place-preserved g c = rises_more c.args.jobs.now c.loop-place.place c.loop-place.auto.place c.index-jobs-place-in-loop-place.result c.index-jobs-place.result c.index-jobs-place-in-loop-place.is c.index-jobs-place.is (search (c.if-jobs-place.false, rules)) c.loop-place.invariant
