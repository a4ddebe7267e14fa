use Rattle.std.proofs.Common.{List, length, ap, arith}
use Rattle.std.proofs.lemmas.List.Sums.{sum_by-take-le}
use Rattle.ckd_track.specs.Tracks.{record_size, track_size}
use Rattle.workload.proofs.Counting.{track_has_few, track_is_small}
use Rattle.workload.proofs.tally.Tally.with_track.Goals as goal

pub overflow_add-tally : goal.overflow_add-tally
overflow_add-tally c =
    let few = track_has_few c.args.track.now c.recs-recs.ensures.track in
    let same = ap (λ (l : List _). length l) c.recs-recs.ensures.recs in
    omega (arith, few, same, c.requires.records, c.loop-rec.invariant.records, c.loop-rec-test.true)

pub returns-clause-grows : goal.returns-clause-grows
returns-clause-grows c =
    let few = track_has_few c.args.track.now c.recs-recs.ensures.track in
    let small = track_is_small c.args.track.now c.recs-recs.ensures.track in
    let same = ap (λ (l : List _). length l) c.recs-recs.ensures.recs in
    let size = ap (λ (l : List _). track_size l) c.recs-recs.ensures.recs in
    record {
      records = omega (arith, few, same, c.loop-rec.invariant.records, c.loop-rec.auto.rec-index-end);
      sum = omega (arith, small, size, c.loop-rec.invariant.short, sum_by-take-le record_size c.recs-recs.result.now c.loop-rec.rec-index);
    }
