use Rattle.std.proofs.Common.{◌/◌, ◌≡◌, length, arith}
use Rattle.change_map.proofs.Lanes8.{counts_fit, lanes_kept, lanes_counted, sums_fit, all_counted, all_fits}
use Rattle.change_map.proofs.lanes.count_lanes.Goals as goal

pub overflow_add-counts : goal.overflow_add-counts
overflow_add-counts c = counts_fit c.args.words.now c.loop-k.counts c.loop-k.k c.type_inv.words c.requires c.loop-k-test.true c.loop-k.invariant.lanes c.loop-k.invariant.counted

pub loop-k-preserved : goal.loop-k-preserved
loop-k-preserved c = record {
  lanes = lanes_kept c.args.words.now c.loop-k.counts c.loop-k.k c.type_inv.words c.requires c.loop-k-test.true c.loop-k.invariant.lanes c.loop-k.invariant.counted;
  counted = lanes_counted c.args.words.now c.loop-k.counts c.loop-k.k c.type_inv.words c.requires c.loop-k-test.true c.loop-k.invariant.lanes c.loop-k.invariant.counted;
}

pub overflow_add-result : goal.overflow_add-result
overflow_add-result c = sums_fit c.args.words.now c.loop-k.counts c.loop-k.k c.type_inv.words c.requires c.loop-k.invariant.counted

pub overflow_add-result-2 : goal.overflow_add-result-2
overflow_add-result-2 c =
    let end : c.loop-k.k ≡ length c.args.words.now / 8 = omega (arith, c.loop-k-test.false, c.loop-k.auto.k-end) in
    record {
      fits = all_fits c.args.words.now c.loop-k.counts c.loop-k.k c.type_inv.words c.requires c.loop-k.invariant.counted c.count_plain.result end c.count_plain.ensures;
    }

pub returns : goal.returns
returns c =
    let end : c.loop-k.k ≡ length c.args.words.now / 8 = omega (arith, c.loop-k-test.false, c.loop-k.auto.k-end) in
    all_counted c.args.words.now c.loop-k.counts c.loop-k.k c.type_inv.words c.requires c.loop-k.invariant.counted c.count_plain.result end c.count_plain.ensures
