use Rattle.std.proofs.Common.{ℕ, sym, ◌∙◌}
use Rattle.crash_plant.specs.Devices.{seen_at}
use Rattle.crash_plant.specs.Remains.{disk_remains, nothing, remains_here}
use Rattle.crash_plant.proofs.Seen.{length_push, seen_is, seen_push}
use Rattle.crash_plant.proofs.memory_disks.disks_left.Goals as goal

pub loop-i-preserved : goal.loop-i-preserved
loop-i-preserved c =
    let before = c.loop-i.invariant in
    let see = remains_here c.args.choice.now in
    record {
      number = length_push _ _ _ _ before.number c.in_ok-push.ensures.items;
      remains = seen_push disk_remains nothing (λ (k : ℕ). seen_at see nothing c.args.disks.now k) _ _ _ _ before.number c.in_ok-push.ensures.items before.remains (c.in_ok-disk_left.ensures ∙ sym (seen_is see nothing c.args.disks.now c.loop-i.i c.index-disks-i.result c.index-disks-i.is c.loop-i-test.true));
    }
