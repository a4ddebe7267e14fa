use Rattle.std.proofs.Common.{◌==◌, ℕ, sym, ap, ◌∙◌, arith}
use Rattle.crash_plant.specs.declared.device.Device.TheVariants.{Control}
use Rattle.crash_plant.specs.Moments.{on}
use Rattle.crash_plant.proofs.Steps.{works_on_trans}
use Rattle.control_set.specs.Slots.{lengths_of}
use Rattle.site_store.specs.declared.starting.SlotFront.{SlotFront}
use Rattle.site_store.proofs.Shutting.{both_follow, half_low, none_open, on_ok_both, one_follows, other_halves, other_stays}
use Rattle.site_store.proofs.starting.shut_both.Goals as goal

pub shut_gate-requires-clause-place : goal.shut_gate-requires-clause-place
shut_gate-requires-clause-place g c κs within =
    let low = half_low c.args.idle.place c.args.counted.place c.requires.places in
    omega (arith, low.0, c.requires.long)

pub shut_gate-requires-clause-gate : goal.shut_gate-requires-clause-gate
shut_gate-requires-clause-gate g c κs within told = ap (λ (f : SlotFront). f.is_open) (c.requires.fronts told).0

pub shut_gate-requires-2-clause-place : goal.shut_gate-requires-2-clause-place
shut_gate-requires-2-clause-place g c κs within =
    let low = half_low c.args.idle.place c.args.counted.place c.requires.places in
    omega (arith, low.1, c.requires.long, c.shut_gate.ensures.only.site.lengths Control)

pub shut_gate-requires-2-clause-gate : goal.shut_gate-requires-2-clause-gate
shut_gate-requires-2-clause-gate g c κs within told =
    let old = g.P.Plant.state c.args.plant.now in
    let mid = g.P.Plant.state c.shut_gate.new.plant in
    ap (λ (f : SlotFront). f.is_open) (c.requires.fronts told).1
    ∙ ap (λ (k : ℕ). k == 1) (sym (other_stays c.args.idle.place c.args.counted.place (old.bytes Control) (mid.bytes Control) c.requires.places (c.in_ok-shut_gate.ensures.torn told)))

pub returns-in_err-shut_gate-clause-moments : goal.returns-in_err-shut_gate-clause-moments
returns-in_err-shut_gate-clause-moments g c told durable =
    let old = g.P.Plant.state c.args.plant.now in
    let mid = g.P.Plant.state c.shut_gate.new.plant in
    let size = g.met.P.Plant.length_told c.args.plant.now Control told tt in
    one_follows (lengths_of old) c.args.idle.place c.args.counted.place c.requires.places c.args.idle c.args.counted (on old Control) (on mid Control) (omega (arith, size, c.requires.long)) durable
    (c.requires.fronts told).0 (c.requires.fronts told).1 c.requires.order ((c.shut_gate.ensures.only.elapses told).kept Control) (c.shut_gate.ensures.moments told durable)

pub returns-clause-moments : goal.returns-clause-moments
returns-clause-moments g c told durable =
    let old = g.P.Plant.state c.args.plant.now in
    let mid = g.P.Plant.state c.shut_gate.new.plant in
    let new = g.P.Plant.state c.shut_gate-2.new.plant in
    let size = g.met.P.Plant.length_told c.args.plant.now Control told tt in
    let mid_durable = c.in_ok-shut_gate.ensures.durable told in
    both_follow (lengths_of old) c.args.idle.place c.args.counted.place c.requires.places c.args.idle c.args.counted (on old Control) (on mid Control) (omega (arith, size, c.requires.long)) durable
    (c.requires.fronts told).0 (c.requires.fronts told).1 c.requires.order ((c.shut_gate.ensures.only.elapses told).kept Control) (c.shut_gate.ensures.moments told durable)
    (on new Control) mid_durable (c.in_ok-shut_gate.ensures.shut told) ((c.shut_gate-2.ensures.only.elapses told).kept Control) (c.shut_gate-2.ensures.moments told mid_durable)

pub returns-clause-shut : goal.returns-clause-shut
returns-clause-shut g c told =
    let mid = g.P.Plant.state c.shut_gate.new.plant in
    let new = g.P.Plant.state c.shut_gate-2.new.plant in
    on_ok_both c.shut_gate-2.result (none_open c.args.idle.place c.args.counted.place (mid.bytes Control) (new.bytes Control) c.requires.places (c.in_ok-shut_gate.ensures.shut told)) (c.shut_gate-2.ensures.shut told) (c.shut_gate-2.ensures.torn told)

pub returns-clause-only : goal.returns-clause-only
returns-clause-only g c = works_on_trans g.P.Plant.tells _ _ _ _ c.shut_gate.ensures.only c.shut_gate-2.ensures.only

pub returns-clause-idle : goal.returns-clause-idle
returns-clause-idle g c told =
    let mid = g.P.Plant.state c.shut_gate.new.plant in
    let new = g.P.Plant.state c.shut_gate-2.new.plant in
    on_ok_both c.shut_gate-2.result
    (λ off torn on. other_stays c.args.counted.place c.args.idle.place (mid.bytes Control) (new.bytes Control) (other_halves c.args.idle.place c.args.counted.place c.requires.places) torn ∙ c.in_ok-shut_gate.ensures.zero told on)
    (c.shut_gate-2.ensures.shut told) (c.shut_gate-2.ensures.torn told)
