use Rattle.std.proofs.Common.{ℕ, List, ◌∙◌, sym, subst, arith}
use Rattle.crash_plant.specs.declared.device.Device.TheVariants.{Volume}
use Rattle.crash_plant.specs.Moments.{on, Same}
use Rattle.crash_plant.proofs.Steps.{works_on_trans, follows_then}
use Rattle.copy_progress.specs.Slots.{AreProgressSlots, Clears}
use Rattle.copy_progress.proofs.Clearing.{clears_here}
use Rattle.copy_progress.proofs.noting.clear_progress.Goals as goal

pub returns-in_err-slots-clause-moments : goal.returns-in_err-slots-clause-moments
returns-in_err-slots-clause-moments g c told t from to f left =
    let step = c.read_slots.ensures.moments told t from to f left in
    (step.0, step.1, clears_here step.0 f step.2)

pub close_gates-requires-clause-slots : goal.close_gates-requires-clause-slots
close_gates-requires-clause-slots g c _ _ told =
    subst (λ (l : List ℕ). AreProgressSlots l c.in_ok-slots.slots) (sym (c.read_slots.ensures.same told)) (c.in_ok-slots.ensures.slots told)

pub close_gates-requires-clause-durable : goal.close_gates-requires-clause-durable
close_gates-requires-clause-durable g c _ _ told f now =
    let here = Volume c.args.device in
    let new = g.P.Plant.state c.read_slots.new.plant in
    let start = c.read_slots.ensures.moments told new.clock ((c.read_slots.ensures.only.elapses told).kept here).later (omega arith) f now in
    start.2 ∙ c.requires.durable told start.0 start.1 ∙ sym (c.read_slots.ensures.same told)

pub returns-clause-moments : goal.returns-clause-moments
returns-clause-moments g c told =
    let here = Volume c.args.device in
    let old = g.P.Plant.state c.args.plant.now in
    let mid = g.P.Plant.state c.read_slots.new.plant in
    let k1 = (c.read_slots.ensures.only.elapses told).kept here in
    follows_then (on old here) (on mid here) (on (g.P.Plant.state c.close_gates.new.plant) here) Same Clears Clears k1.later (c.read_slots.ensures.moments told)
    ((c.close_gates.ensures.only.elapses told).kept here) (c.close_gates.ensures.moments told)
    (λ x y there e. clears_here x y e)
    (λ x y z before there e step. subst (λ (l : List ℕ). Clears l z) e step)

pub returns-clause-only : goal.returns-clause-only
returns-clause-only g c = works_on_trans g.P.Plant.tells _ _ _ _ c.read_slots.ensures.only c.close_gates.ensures.only
