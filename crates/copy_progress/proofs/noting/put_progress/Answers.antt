use Rattle.std.proofs.Common.{ℕ, List, ◌∷◌, ◌∙◌, ap, sym, subst, arith}
use Rattle.std.proofs.lemmas.Result.{on_ok_weaker}
use Rattle.crash_plant.specs.declared.device.Device.TheVariants.{Volume}
use Rattle.crash_plant.specs.Bytes.{patched}
use Rattle.crash_plant.specs.Moments.{on, Same}
use Rattle.crash_plant.proofs.Steps.{works_on_trans, follows_then}
use Rattle.copy_progress.specs.Progresses.{progress_spelling}
use Rattle.copy_progress.specs.Slots.{AreProgressSlots, IsNextNumber, OldOrNext, chosen_progress, free_progress_place}
use Rattle.copy_progress.proofs.Chosen.{same_step}
use Rattle.copy_progress.proofs.noting.put_progress.Goals as goal

pub returns-in_err-slots-clause-moments : goal.returns-in_err-slots-clause-moments
returns-in_err-slots-clause-moments g c told t from to f left =
    let here = Volume c.args.device in
    let old = g.P.Plant.state c.args.plant.now in
    let step = c.read_slots.ensures.moments told t from to f left in
    (step.0, step.1, same_step c.args.value.now (free_progress_place (old.bytes here)) step.0 f step.2)

pub put_beside-requires-clause-slots : goal.put_beside-requires-clause-slots
put_beside-requires-clause-slots g c _ _ told =
    subst (λ (l : List ℕ). AreProgressSlots l c.in_ok-slots.slots) (sym (c.read_slots.ensures.same told)) (c.in_ok-slots.ensures.slots told)

pub put_beside-requires-clause-next : goal.put_beside-requires-clause-next
put_beside-requires-clause-next g c _ _ told =
    subst (λ (l : List ℕ). IsNextNumber (chosen_progress l) c.args.value.now.number) (sym (c.read_slots.ensures.same told)) (c.requires.next told)

pub put_beside-requires-clause-durable : goal.put_beside-requires-clause-durable
put_beside-requires-clause-durable g c _ _ told f now =
    let here = Volume c.args.device in
    let new = g.P.Plant.state c.read_slots.new.plant in
    let start = c.read_slots.ensures.moments told new.clock ((c.read_slots.ensures.only.elapses told).kept here).later (omega arith) f now in
    start.2 ∙ c.requires.durable told start.0 start.1 ∙ sym (c.read_slots.ensures.same told)

pub returns-clause-moments : goal.returns-clause-moments
returns-clause-moments g c told =
    let here = Volume c.args.device in
    let old = g.P.Plant.state c.args.plant.now in
    let mid = g.P.Plant.state c.read_slots.new.plant in
    let v = c.args.value.now in
    let place = free_progress_place (old.bytes here) in
    let k1 = (c.read_slots.ensures.only.elapses told).kept here in
    follows_then (on old here) (on mid here) (on (g.P.Plant.state c.put_beside.new.plant) here) Same (OldOrNext v (free_progress_place (mid.bytes here))) (OldOrNext v place) k1.later (c.read_slots.ensures.moments told)
    ((c.put_beside.ensures.only.elapses told).kept here) (c.put_beside.ensures.moments told)
    (λ x y there e. same_step v place x y e)
    (λ x y z before there e step. subst (λ (l : List ℕ). OldOrNext v place l z) e (subst (λ (l : List ℕ). OldOrNext v (free_progress_place l) y z) (c.read_slots.ensures.same told) step))

pub returns-clause-written : goal.returns-clause-written
returns-clause-written g c told =
    on_ok_weaker c.put_beside.result (λ e. e ∙ ap (λ (l : List ℕ). patched (free_progress_place l) (1 ∷ progress_spelling c.args.value.now) l) (c.read_slots.ensures.same told)) (c.put_beside.ensures.written told)

pub returns-clause-only : goal.returns-clause-only
returns-clause-only g c = works_on_trans g.P.Plant.tells _ _ _ _ c.read_slots.ensures.only c.put_beside.ensures.only
