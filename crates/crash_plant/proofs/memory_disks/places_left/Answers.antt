use Rattle.std.proofs.Common.{ℕ, sym, ◌∙◌}
use Rattle.crash_plant.specs.Devices.{seen_at}
use Rattle.crash_plant.specs.Remains.{place_remains, nothing, remains_of}
use Rattle.crash_plant.proofs.Seen.{length_push, seen_is, seen_push}
use Rattle.crash_plant.proofs.memory_disks.places_left.Goals as goal

pub loop-i-preserved : goal.loop-i-preserved
loop-i-preserved c =
    let before = c.loop-i.invariant in
    let see = remains_of c.args.choice.now in
    record {
      number = length_push _ _ _ _ before.number c.in_ok-push.ensures.items;
      remains = seen_push place_remains nothing (λ (k : ℕ). seen_at see nothing c.args.shelves.now k) _ _ _ _ before.number c.in_ok-push.ensures.items before.remains (c.in_ok-place_left.ensures ∙ sym (seen_is see nothing c.args.shelves.now c.loop-i.i c.index-shelves-i.result c.index-shelves-i.is c.loop-i-test.true));
    }
