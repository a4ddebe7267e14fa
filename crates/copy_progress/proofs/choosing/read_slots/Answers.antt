use Rattle.std.proofs.Common.{ℕ, List, drop, subst}
use Rattle.crash_plant.specs.declared.device.Device.TheVariants.{Volume}
use Rattle.crash_plant.specs.Moments.{on, Same}
use Rattle.crash_plant.proofs.Steps.{works_on_trans}
use Rattle.crash_plant.proofs.BehindGates.{same_after}
use Rattle.copy_progress.specs.Slots.{IsSlotSeen}
use Rattle.copy_progress.proofs.choosing.read_slots.Goals as goal

pub returns-in_err-second-clause-moments : goal.returns-in_err-second-clause-moments
returns-in_err-second-clause-moments g c told =
    let here = Volume c.args.device in
    let s0 = on (g.P.Plant.state c.args.plant.now) here in
    let s1 = on (g.P.Plant.state c.read_slot.new.plant) here in
    let s2 = on (g.P.Plant.state c.read_slot-2.new.plant) here in
    same_after s0 s1 s2 Same ((c.read_slot.ensures.only.elapses told).kept here) (c.read_slot.ensures.moments told) ((c.read_slot-2.ensures.only.elapses told).kept here) (c.read_slot-2.ensures.moments told)

pub returns-in_err-second-clause-only : goal.returns-in_err-second-clause-only
returns-in_err-second-clause-only g c = works_on_trans g.P.Plant.tells _ _ _ _ c.read_slot.ensures.only c.read_slot-2.ensures.only

pub returns-clause-slots : goal.returns-clause-slots
returns-clause-slots g c told = record {
  first = c.in_ok-first.ensures.slot told;
  second = subst (λ (l : List ℕ). IsSlotSeen (drop 80 l) c.in_ok-second.second) (c.read_slot.ensures.same told) (c.in_ok-second.ensures.slot told);
}

pub returns-clause-moments : goal.returns-clause-moments
returns-clause-moments g c told =
    let here = Volume c.args.device in
    let s0 = on (g.P.Plant.state c.args.plant.now) here in
    let s1 = on (g.P.Plant.state c.read_slot.new.plant) here in
    let s2 = on (g.P.Plant.state c.read_slot-2.new.plant) here in
    same_after s0 s1 s2 Same ((c.read_slot.ensures.only.elapses told).kept here) (c.read_slot.ensures.moments told) ((c.read_slot-2.ensures.only.elapses told).kept here) (c.read_slot-2.ensures.moments told)

pub returns-clause-only : goal.returns-clause-only
returns-clause-only g c = works_on_trans g.P.Plant.tells _ _ _ _ c.read_slot.ensures.only c.read_slot-2.ensures.only
