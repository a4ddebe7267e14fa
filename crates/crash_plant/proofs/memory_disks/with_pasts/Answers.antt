use Rattle.std.proofs.Common.{rules}
use Rattle.crash_plant.specs.declared.memory_disk.MemoryDisk.{MemoryDisk}
use Rattle.crash_plant.specs.declared.shelf.Shelf.TheVariants.{Here}
use Rattle.crash_plant.specs.FreshDisks.{absent, fresh_of, fresh_disk}
use Rattle.crash_plant.proofs.Seen.{row_push, same_length_push, taken}
use Rattle.crash_plant.proofs.FreshDisks.{fresh_is}
use Rattle.crash_plant.proofs.memory_disks.with_pasts.Goals as goal

pub loop-disk-preserved : goal.loop-disk-preserved
loop-disk-preserved c =
    let before = c.loop-disk.invariant in
    record {
      all = taken _ c.loop-disk.yielded _ c.in-Some.disk _ before.all (search rules);
      number = same_length_push _ _ _ _ _ before.number c.in_ok-push.ensures.items;
      fresh = row_push (λ (disk : MemoryDisk). fresh_of (Here disk)) fresh_disk absent _ _ _ _ _ before.number c.in_ok-push.ensures.items before.fresh (fresh_is c.new.result c.in-Some.disk c.new.ensures.held c.new.ensures.base c.new.ensures.past);
    }
