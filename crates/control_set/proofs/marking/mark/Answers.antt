use Rattle.std.proofs.Common.{ℕ, List, ◌∷◌, drop, ◌∙◌, ap, sym, subst, arith}
use Rattle.std.proofs.lemmas.Result.{on_ok_weaker}
use Rattle.crash_plant.specs.declared.device.Device.TheVariants.{Control}
use Rattle.crash_plant.specs.Bytes.{patched}
use Rattle.crash_plant.specs.Moments.{on, Same}
use Rattle.crash_plant.proofs.Steps.{works_on_trans, follows_then}
use Rattle.control_set.specs.Marks.{mark_spelling}
use Rattle.control_set.specs.Slots.{lengths_of, AreSlots, IsNext, NoGateOpen, OldOrNew, chosen_mark, free_place, slot_of}
use Rattle.control_set.proofs.Lengths.{same_lengths}
use Rattle.control_set.proofs.Chosen.{same_step, none_first}
use Rattle.control_set.proofs.marking.mark.Goals as goal

pub put_mark-requires-clause-slots : goal.put_mark-requires-clause-slots
put_mark-requires-clause-slots g c _ _ told =
    let old = g.P.Plant.state c.args.plant.now in
    let new = g.P.Plant.state c.read_slots.new.plant in
    let lens = same_lengths old new c.read_slots.ensures.only.site in
    subst (λ (l : List ℕ). AreSlots (lengths_of new) l c.in_ok-slots.slots) (sym (c.read_slots.ensures.same told)) (subst (λ (ls : List ℕ). AreSlots ls (old.bytes Control) c.in_ok-slots.slots) (sym lens) (c.in_ok-slots.ensures.slots told))

pub put_mark-requires-clause-durable : goal.put_mark-requires-clause-durable
put_mark-requires-clause-durable g c _ _ told f now =
    let new = g.P.Plant.state c.read_slots.new.plant in
    let start = c.read_slots.ensures.moments told new.clock ((c.read_slots.ensures.only.elapses told).kept Control).later (omega arith) f now in
    start.2 ∙ c.requires.durable told start.0 start.1 ∙ sym (c.read_slots.ensures.same told)

pub put_mark-requires-clause-next : goal.put_mark-requires-clause-next
put_mark-requires-clause-next g c _ _ told =
    let old = g.P.Plant.state c.args.plant.now in
    let new = g.P.Plant.state c.read_slots.new.plant in
    let lens = same_lengths old new c.read_slots.ensures.only.site in
    subst (λ (l : List ℕ). IsNext (chosen_mark (lengths_of new) l) c.args.value.now.number) (sym (c.read_slots.ensures.same told)) (subst (λ (ls : List ℕ). IsNext (chosen_mark ls (old.bytes Control)) c.args.value.now.number) (sym lens) (c.requires.next told))

pub returns-clause-moments : goal.returns-clause-moments
returns-clause-moments g c told =
    let old = g.P.Plant.state c.args.plant.now in
    let mid = g.P.Plant.state c.read_slots.new.plant in
    let m = c.args.value.now in
    let lens = same_lengths old mid c.read_slots.ensures.only.site in
    let k1 = (c.read_slots.ensures.only.elapses told).kept Control in
    let here = free_place (lengths_of old) (old.bytes Control) in
    follows_then (on old Control) (on mid Control) (on (g.P.Plant.state c.put_mark.new.plant) Control) Same (OldOrNew (lengths_of mid) m (free_place (lengths_of mid) (mid.bytes Control))) (OldOrNew (lengths_of old) m here) k1.later (c.read_slots.ensures.moments told)
    ((c.put_mark.ensures.only.elapses told).kept Control) (c.put_mark.ensures.moments told)
    (λ x y here e. same_step (lengths_of old) m (free_place (lengths_of old) (old.bytes Control)) x y e)
    (λ x y z before there e step. subst (λ (l : List ℕ). OldOrNew (lengths_of old) m here l z) e
    (subst (λ (ls : List ℕ). OldOrNew ls m (free_place ls (old.bytes Control)) y z) lens
    (subst (λ (l : List ℕ). OldOrNew (lengths_of mid) m (free_place (lengths_of mid) l) y z) (c.read_slots.ensures.same told) step)))

pub returns-clause-written : goal.returns-clause-written
returns-clause-written g c told =
    let old = g.P.Plant.state c.args.plant.now in
    let mid = g.P.Plant.state c.read_slots.new.plant in
    let lens = same_lengths old mid c.read_slots.ensures.only.site in
    let gated = 1 ∷ mark_spelling c.args.value.now in
    on_ok_weaker c.put_mark.result (λ e. e ∙ ap (λ (ls : List ℕ). patched (free_place ls (mid.bytes Control)) gated (mid.bytes Control)) lens ∙ ap (λ (l : List ℕ). patched (free_place (lengths_of old) l) gated l) (c.read_slots.ensures.same told)) (c.put_mark.ensures.written told)

pub returns-clause-chosen : goal.returns-clause-chosen
returns-clause-chosen g c told =
    let old = g.P.Plant.state c.args.plant.now in
    let mid = g.P.Plant.state c.read_slots.new.plant in
    let new = g.P.Plant.state c.put_mark.new.plant in
    let lens = same_lengths old mid c.read_slots.ensures.only.site in
    on_ok_weaker c.put_mark.result (λ e. ap (λ (ls : List ℕ). chosen_mark ls (new.bytes Control)) (sym lens) ∙ e) (c.put_mark.ensures.chosen told)

pub returns-clause-first : goal.returns-clause-first
returns-clause-first g c told none =
    let old = g.P.Plant.state c.args.plant.now in
    let mid = g.P.Plant.state c.read_slots.new.plant in
    let new = g.P.Plant.state c.put_mark.new.plant in
    let lens = same_lengths old mid c.read_slots.ensures.only.site in
    let zero_place = none_first (lengths_of mid) (mid.bytes Control) (subst (λ (l : List ℕ). NoGateOpen l) (sym (c.read_slots.ensures.same told)) none) in
    on_ok_weaker c.put_mark.result (λ e. ap (λ (ls : List ℕ). slot_of ls (new.bytes Control)) (sym lens) ∙ ap (λ (k : ℕ). slot_of (lengths_of mid) (drop k (new.bytes Control))) (sym zero_place) ∙ e) (c.put_mark.ensures.stands told)

pub returns-clause-only : goal.returns-clause-only
returns-clause-only g c = works_on_trans g.P.Plant.tells _ _ _ _ c.read_slots.ensures.only c.put_mark.ensures.only
