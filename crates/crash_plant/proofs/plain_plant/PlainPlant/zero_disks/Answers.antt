use Rattle.std.proofs.Common.{[], replicate}
use Rattle.crash_plant.specs.PlainPlant.{disk_bytes}
use Rattle.crash_plant.proofs.Seen.{seen_push, length_push}
use Rattle.crash_plant.proofs.plain_plant.PlainPlant.zero_disks.Goals as goal

pub loop-preserved : goal.loop-preserved
loop-preserved c = (
  length_push _ _ _ _ c.loop.invariant.0 c.in_ok-push.ensures.items,
  seen_push disk_bytes [] (λ j. replicate c.args.size 0) _ _ _ _ c.loop.invariant.0 c.in_ok-push.ensures.items c.loop.invariant.1 c.in_ok-zeros.ensures,
)
