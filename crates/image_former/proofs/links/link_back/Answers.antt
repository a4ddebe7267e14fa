use Rattle.pending_queue.specs.Groups.{heads}
use Rattle.image_former.proofs.Linking.{none_back, more_back, all_back, bucket_there}
use Rattle.std.proofs.Common.{◌∙◌, sym, arith}
use Rattle.image_former.proofs.links.link_back.Goals as goal

pub loop-place-init : goal.loop-place-init
loop-place-init c = none_back (heads c.args.formed.now)

pub loop-place-preserved : goal.loop-place-preserved
loop-place-preserved c =
    more_back (heads c.args.formed.now) c.loop-place.place c.bucket_of-bucket.result c.loop-place.back c.loop-place.last c.loop-place.invariant
    (bucket_there (heads c.args.formed.now) c.loop-place.place c.head.result c.head.ensures ∙ sym c.bucket_of-bucket.ensures.bucket) c.bucket_of-bucket.ensures.within
    (omega (arith, c.loop-place-test.true, c.linked_count-place-end.ensures.few))

pub returns : goal.returns
returns c = all_back (heads c.args.formed.now) c.loop-place.place c.loop-place.back c.loop-place.last c.loop-place.invariant (omega (arith, c.loop-place-test.false, c.linked_count-place-end.ensures.count))
