use Rattle.std.proofs.Common.{◌∙◌, ap, arith, length, drop}
use Rattle.std.proofs.lemmas.List.{length-drop, drop_all}
use Rattle.ckd_track.specs.Slots.{spelled_records}
use Rattle.ckd_track.specs.declared.fronts.Front.{Front}
use Rattle.ckd_track.specs.Places.{front_fitting}
use Rattle.ckd_track.proofs.Walks.{walk_of_given, some_left, walks_on, head_whole, fitting_stops, fitting_goes}
use Rattle.ckd_track.proofs.fronts.fitting_front.Goals as goal

pub first-head-requires : goal.first-head-requires
first-head-requires c = omega (arith, (some_left c.loop.counter (spelled_records c.args.count c.args.given.now) c.loop.rest.now c.loop.invariant.walks (omega (arith, c.requires.spelled.number))).whole)

pub returns-then-front-size : goal.returns-then-front-size
returns-then-front-size c =
    let f = some_left c.loop.counter (spelled_records c.args.count c.args.given.now) c.loop.rest.now c.loop.invariant.walks (omega (arith, c.requires.spelled.number)) in
    fitting_stops c.loop.front c.loop.rest.now (drop c.loop.counter (spelled_records c.args.count c.args.given.now)) c.first-head.result f c.first-head.ensures (omega arith) ∙ c.loop.invariant.same

pub split_at-requires : goal.split_at-requires
split_at-requires c =
    let f = some_left c.loop.counter (spelled_records c.args.count c.args.given.now) c.loop.rest.now c.loop.invariant.walks (omega (arith, c.requires.spelled.number)) in
    omega (arith, head_whole c.loop.rest.now (drop c.loop.counter (spelled_records c.args.count c.args.given.now)) c.first-head.result f c.first-head.ensures)

pub loop-init : goal.loop-init
loop-init c = record { walks = walk_of_given c.args.count c.args.given.now c.requires.spelled; same = ap (λ (front : Front). front_fitting front (spelled_records c.args.count c.args.given.now)) c.none-front.ensures; sum = omega (arith, ap (λ (front : Front). front.end) c.none-front.ensures); counted = ap (λ (front : Front). front.count) c.none-front.ensures }

pub loop-preserved : goal.loop-preserved
loop-preserved c =
    let track = spelled_records c.args.count c.args.given.now in
    let f = some_left c.loop.counter (spelled_records c.args.count c.args.given.now) c.loop.rest.now c.loop.invariant.walks (omega (arith, c.requires.spelled.number)) in
    let is = c.first-head.ensures in
    let whole = head_whole c.loop.rest.now (drop c.loop.counter track) c.first-head.result f is in
    record {
      walks = walks_on c.loop.counter track c.loop.rest.now c.first-head.result c.split_at.result.1.now f is (rw (← c.spelled_length.ensures) c.split_at.ensures.back);
      same = rw c.with-front.ensures (fitting_goes c.loop.counter c.loop.front track c.loop.rest.now c.first-head.result f is (omega arith) ∙ c.loop.invariant.same);
      sum = omega (arith, whole, ap length c.split_at.ensures.back, length-drop c.spelled_length.result c.loop.rest.now, ap (λ (front : Front). front.end) c.with-front.ensures);
      counted = omega (arith, ap (λ (front : Front). front.count) c.with-front.ensures);
    }

pub returns : goal.returns
returns c = rw (drop_all c.loop.counter (spelled_records c.args.count c.args.given.now) (omega (arith, c.requires.spelled.number))) at c.loop.invariant.same
