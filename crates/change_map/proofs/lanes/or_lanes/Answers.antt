use Rattle.std.proofs.Common.{◌≡◌, ◌*◌, ◌/◌, ◌-◌, length, refl, arith}
use Rattle.change_map.proofs.Lanes8.{put_rest, put_long, put_done, put_left}
use Rattle.change_map.proofs.lanes.or_lanes.Goals as goal

pub loop-k-preserved : goal.loop-k-preserved
loop-k-preserved c =
    let us = c.args.into.now in
    let vs = c.args.from.now in
    let ws = c.loop-k.into in
    let k = c.loop-k.k in
    let so_far = c.loop-k.invariant in
    record {
      len = put_long us vs ws k c.requires c.loop-k-test.true so_far.len so_far.done so_far.left;
      done = put_done us vs ws k c.requires c.loop-k-test.true so_far.len so_far.done so_far.left;
      left = put_left us vs ws k c.requires c.loop-k-test.true so_far.len so_far.done so_far.left;
    }

pub returns : goal.returns
returns c =
    let us = c.args.into.now in
    let vs = c.args.from.now in
    let start = length us / 8 * 8 in
    let end : c.loop-k.k ≡ length us / 8 = omega (arith, c.loop-k-test.false, c.loop-k.auto.k-end) in
    put_rest us vs c.loop-k.into c.or_plain.new.into c.loop-k.k c.requires end c.loop-k.invariant.len c.loop-k.invariant.done c.loop-k.invariant.left start (length c.loop-k.into - start) (length vs - start) (omega (arith, c.loop-k-test.false, c.loop-k.auto.k-end)) refl refl c.or_plain.ensures
