use Rattle.std.proofs.Common.{rules}
use Rattle.crash_plant.specs.FreshDisks.{absent, fresh_of, fresh_place}
use Rattle.crash_plant.proofs.Seen.{row_push, same_length_push, taken}
use Rattle.crash_plant.proofs.memory_disks.shelves.Goals as goal

pub loop-place-preserved : goal.loop-place-preserved
loop-place-preserved c =
    let before = c.loop-place.invariant in
    record {
      all = taken _ c.loop-place.yielded _ c.in-Some.place _ before.all (search rules);
      number = same_length_push _ _ _ _ _ before.number c.in_ok-push.ensures.items;
      fresh = row_push fresh_of fresh_place absent _ _ _ _ _ before.number c.in_ok-push.ensures.items before.fresh c.shelf_of.ensures;
    }
