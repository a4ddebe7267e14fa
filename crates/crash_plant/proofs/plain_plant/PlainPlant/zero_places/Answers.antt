use Rattle.std.proofs.Common.{[], false, replicate, refl}
use Rattle.crash_plant.specs.PlainPlant.{place_bytes, place_is_lent}
use Rattle.crash_plant.proofs.Seen.{seen_push, length_push}
use Rattle.crash_plant.proofs.plain_plant.PlainPlant.zero_places.Goals as goal

pub loop-preserved : goal.loop-preserved
loop-preserved c =
    let before = c.loop.invariant in
    record {
      number = length_push _ _ _ _ before.number c.in_ok-push.ensures.items;
      zeros = seen_push place_bytes [] (λ v. replicate c.args.size 0) _ _ _ _ before.number c.in_ok-push.ensures.items before.zeros c.in_ok-zeros.ensures;
      here = seen_push place_is_lent false (λ v. false) _ _ _ _ before.number c.in_ok-push.ensures.items before.here refl;
    }
