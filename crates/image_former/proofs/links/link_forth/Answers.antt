use Rattle.std.proofs.Common.{◌+◌, ◌-◌, ◌∙◌, sym, arith}
use Rattle.pending_queue.specs.Groups.{heads}
use Rattle.image_former.proofs.Linking.{none_forth, next_forth, all_forth, bucket_there}
use Rattle.image_former.proofs.links.link_forth.Goals as goal

pub loop-after-init : goal.loop-after-init
loop-after-init c = none_forth (heads c.before.args.formed.now) c.linked_count-count.result (c.linked_count-count.result - 0) c.linked_count-count.ensures.count (omega arith)

pub loop-after-preserved : goal.loop-after-preserved
loop-after-preserved c =
    let at = heads c.args.formed.now in
    let count = c.linked_count-count.result in
    let place = count - 1 - c.loop-after.after in
    next_forth at (count - c.loop-after.after) place (count - (c.loop-after.after + 1)) c.bucket_of-bucket.result c.loop-after.forth c.loop-after.next (omega (arith, c.loop-after-test.true)) (omega (arith, c.loop-after-test.true)) c.loop-after.invariant
    (bucket_there at place c.head.result c.head.ensures ∙ sym c.bucket_of-bucket.ensures.bucket) c.bucket_of-bucket.ensures.within
    (omega (arith, c.loop-after-test.true, c.linked_count-count.ensures.count)) (omega (arith, c.loop-after-test.true, c.linked_count-count.ensures.few))

pub returns : goal.returns
returns c = all_forth (heads c.args.formed.now) (c.linked_count-count.result - c.loop-after.after) c.loop-after.forth c.loop-after.next c.loop-after.invariant (omega (arith, c.loop-after-test.false))
