use Rattle.std.proofs.Common.{◌∙◌, ap, refl, arith, length, drop}
use Rattle.std.proofs.lemmas.List.{length-drop, drop_all}
use Rattle.ckd_track.specs.Slots.{track_of_image}
use Rattle.ckd_track.proofs.Walks.{walk_begins, some_left, walks_on, head_whole, place_first, place_later}
use Rattle.ckd_track.proofs.places.content_place.Goals as goal

pub split_at-requires : goal.split_at-requires
split_at-requires c = (walk_begins c.args.image.now (record { is_track = c.requires.is_track; spelled = c.requires.spelled })).long

pub first-head-requires : goal.first-head-requires
first-head-requires c = omega (arith, (some_left c.loop.counter (track_of_image c.args.image.now) c.loop.rest.now c.loop.invariant.walks (omega arith)).whole)

pub returns-then-head-number : goal.returns-then-head-number
returns-then-head-number c =
    let f = some_left c.loop.counter (track_of_image c.args.image.now) c.loop.rest.now c.loop.invariant.walks (omega arith) in
    place_first c.args.number c.loop.at c.loop.rest.now (drop c.loop.counter (track_of_image c.args.image.now)) c.first-head.result f c.first-head.ensures c.if-head-number.true ∙ c.loop.invariant.same

pub split_at-requires-in-loop : goal.split_at-requires-in-loop
split_at-requires-in-loop c =
    let f = some_left c.loop.counter (track_of_image c.args.image.now) c.loop.rest.now c.loop.invariant.walks (omega arith) in
    omega (arith, head_whole c.loop.rest.now (drop c.loop.counter (track_of_image c.args.image.now)) c.first-head.result f c.first-head.ensures)

pub loop-init : goal.loop-init
loop-init c =
    let b = walk_begins c.args.image.now (record { is_track = c.requires.is_track; spelled = c.requires.spelled }) in
    record { walks = rw c.split_at.ensures.back b.walks; same = refl; sum = omega (arith, b.long, ap length c.split_at.ensures.back, length-drop 2 c.args.image.now) }

pub loop-preserved : goal.loop-preserved
loop-preserved c =
    let track = track_of_image c.args.image.now in
    let f = some_left c.loop.counter (track_of_image c.args.image.now) c.loop.rest.now c.loop.invariant.walks (omega arith) in
    let is = c.first-head.ensures in
    let whole = head_whole c.loop.rest.now (drop c.loop.counter track) c.first-head.result f is in
    record {
      walks = walks_on c.loop.counter track c.loop.rest.now c.first-head.result c.split_at-in-loop.result.1.now f is (rw (← c.spelled_length.ensures) c.split_at-in-loop.ensures.back);
      same = rw c.spelled_length-at.ensures (place_later c.args.number c.loop.at c.loop.counter track c.loop.rest.now c.first-head.result f is c.if-head-number.false ∙ c.loop.invariant.same);
      sum = omega (arith, whole, ap length c.split_at-in-loop.ensures.back, length-drop c.spelled_length.result c.loop.rest.now);
    }

pub returns : goal.returns
returns c = rw (drop_all c.loop.counter (track_of_image c.args.image.now) (omega arith)) at c.loop.invariant.same
