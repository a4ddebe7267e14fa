use Rattle.std.proofs.Common.{ℕ, List, drop, ◌∙◌, ap}
use Rattle.crash_plant.specs.declared.device.Device.TheVariants.{Control}
use Rattle.crash_plant.specs.Moments.{on, Same}
use Rattle.crash_plant.proofs.Steps.{works_on_trans}
use Rattle.crash_plant.proofs.BehindGates.{same_after}
use Rattle.control_set.specs.Slots.{lengths_of, slot_of}
use Rattle.control_set.proofs.Lengths.{same_lengths}
use Rattle.control_set.proofs.choosing.read_slots.Goals as goal

pub returns-in_err-second-clause-moments : goal.returns-in_err-second-clause-moments
returns-in_err-second-clause-moments g c told =
    let s0 = on (g.P.Plant.state c.args.plant.now) Control in
    let s1 = on (g.P.Plant.state c.read_slot.new.plant) Control in
    let s2 = on (g.P.Plant.state c.read_slot-2.new.plant) Control in
    same_after s0 s1 s2 Same ((c.read_slot.ensures.only.elapses told).kept Control) (c.read_slot.ensures.moments told) ((c.read_slot-2.ensures.only.elapses told).kept Control) (c.read_slot-2.ensures.moments told)

pub returns-in_err-second-clause-only : goal.returns-in_err-second-clause-only
returns-in_err-second-clause-only g c = works_on_trans g.P.Plant.tells _ _ _ _ c.read_slot.ensures.only c.read_slot-2.ensures.only

pub returns-clause-slots : goal.returns-clause-slots
returns-clause-slots g c told =
    let old = g.P.Plant.state c.args.plant.now in
    let mid = g.P.Plant.state c.read_slot.new.plant in
    record {
      first = c.in_ok-first.ensures.slot told;
      second = c.in_ok-second.ensures.slot told ∙ ap (λ (ls : List ℕ). slot_of ls (drop 512 (mid.bytes Control))) (same_lengths old mid c.read_slot.ensures.only.site) ∙ ap (λ (l : List ℕ). slot_of (lengths_of old) (drop 512 l)) (c.read_slot.ensures.same told);
    }

pub returns-clause-moments : goal.returns-clause-moments
returns-clause-moments g c told =
    let s0 = on (g.P.Plant.state c.args.plant.now) Control in
    let s1 = on (g.P.Plant.state c.read_slot.new.plant) Control in
    let s2 = on (g.P.Plant.state c.read_slot-2.new.plant) Control in
    same_after s0 s1 s2 Same ((c.read_slot.ensures.only.elapses told).kept Control) (c.read_slot.ensures.moments told) ((c.read_slot-2.ensures.only.elapses told).kept Control) (c.read_slot-2.ensures.moments told)

pub returns-clause-only : goal.returns-clause-only
returns-clause-only g c = works_on_trans g.P.Plant.tells _ _ _ _ c.read_slot.ensures.only c.read_slot-2.ensures.only
