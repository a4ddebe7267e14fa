use Rattle.std.proofs.Common.{◌++◌}
use Rattle.xrc_journal.proofs.Bodies.{image_next}
use Rattle.xrc_journal.proofs.body.Body.put_image.Goals as goal

pub put-requires-clause-next : goal.put-requires-clause-next
put-requires-clause-next c =
    image_next c.args.self.now.items c.args.device c.args.track c.args.slot.now (c.image_front.result ++ c.bytes.result.now) c.requires.early c.requires.first c.ranges.device.fits c.ranges.track.fits c.bytes.ensures.track
    (λ i. c.image_front.ensures i ++ c.bytes.ensures.image i)
