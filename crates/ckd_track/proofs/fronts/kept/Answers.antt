use Rattle.std.proofs.Common.{◌∙◌, ap, arith, length, drop}
use Rattle.std.proofs.lemmas.List.{length-drop, drop_all}
use Rattle.ckd_track.specs.Slots.{track_of_image}
use Rattle.ckd_track.specs.declared.fronts.Front.{Front}
use Rattle.ckd_track.specs.Places.{front_up_to}
use Rattle.ckd_track.proofs.Walks.{walk_begins, some_left, walks_on, head_whole, up_to_stops, up_to_goes, sizes_left}
use Rattle.ckd_track.proofs.fronts.kept.Goals as goal

pub first-head-requires : goal.first-head-requires
first-head-requires c = omega (arith, (some_left c.loop.counter (track_of_image c.args.image.now) c.loop.rest.now c.loop.invariant.walks (omega arith)).whole)

pub returns-then-after-head : goal.returns-then-after-head
returns-then-after-head c =
    let f = some_left c.loop.counter (track_of_image c.args.image.now) c.loop.rest.now c.loop.invariant.walks (omega arith) in
    up_to_stops c.args.after c.loop.front c.loop.rest.now (drop c.loop.counter (track_of_image c.args.image.now)) c.first-head.result f c.first-head.ensures c.if-after-head.true ∙ c.loop.invariant.same

pub split_at-requires-in-loop : goal.split_at-requires-in-loop
split_at-requires-in-loop c =
    let f = some_left c.loop.counter (track_of_image c.args.image.now) c.loop.rest.now c.loop.invariant.walks (omega arith) in
    omega (arith, head_whole c.loop.rest.now (drop c.loop.counter (track_of_image c.args.image.now)) c.first-head.result f c.first-head.ensures)

pub with-front-requires-clause-room : goal.with-front-requires-clause-room
with-front-requires-clause-room c =
    let f = some_left c.loop.counter (track_of_image c.args.image.now) c.loop.rest.now c.loop.invariant.walks (omega arith) in
    omega (arith, sizes_left c.loop.counter (track_of_image c.args.image.now) c.loop.rest.now c.first-head.result f c.first-head.ensures, c.loop.invariant.fits)

pub loop-init : goal.loop-init
loop-init c =
    let b = walk_begins c.args.image.now (record { is_track = c.requires.is_track; spelled = c.requires.spelled }) in
    record { walks = rw c.split_at.ensures.back b.walks; same = ap (λ (front : Front). front_up_to c.args.after front (track_of_image c.args.image.now)) c.none-front.ensures; sum = omega (arith, b.long, ap length c.split_at.ensures.back, length-drop 2 c.args.image.now, ap (λ (front : Front). front.end) c.none-front.ensures); counted = ap (λ (front : Front). front.count) c.none-front.ensures; fits = omega (arith, b.walks.fits, ap (λ (front : Front). front.room) c.none-front.ensures) }

pub loop-preserved : goal.loop-preserved
loop-preserved c =
    let track = track_of_image c.args.image.now in
    let f = some_left c.loop.counter (track_of_image c.args.image.now) c.loop.rest.now c.loop.invariant.walks (omega arith) in
    let is = c.first-head.ensures in
    let whole = head_whole c.loop.rest.now (drop c.loop.counter track) c.first-head.result f is in
    record {
      walks = walks_on c.loop.counter track c.loop.rest.now c.first-head.result c.split_at-in-loop.result.1.now f is (rw (← c.spelled_length.ensures) c.split_at-in-loop.ensures.back);
      same = rw c.with-front.ensures (up_to_goes c.args.after c.loop.counter c.loop.front track c.loop.rest.now c.first-head.result f is c.if-after-head.false ∙ c.loop.invariant.same);
      sum = omega (arith, whole, ap length c.split_at-in-loop.ensures.back, length-drop c.spelled_length.result c.loop.rest.now, ap (λ (front : Front). front.end) c.with-front.ensures);
      counted = omega (arith, ap (λ (front : Front). front.count) c.with-front.ensures);
      fits = omega (arith, sizes_left c.loop.counter track c.loop.rest.now c.first-head.result f is, ap (λ (front : Front). front.room) c.with-front.ensures, c.loop.invariant.fits);
    }

pub returns : goal.returns
returns c = rw (drop_all c.loop.counter (track_of_image c.args.image.now) (omega arith)) at c.loop.invariant.same
