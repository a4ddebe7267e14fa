use Rattle.std.proofs.Common.{inl, inr, ℕ, List, ◌∷◌, ◌∙◌, ap, sym, subst}
use Rattle.std.proofs.lemmas.Result.{on_ok_weaker}
use Rattle.crash_plant.specs.declared.device.Device.TheVariants.{Volume}
use Rattle.crash_plant.specs.Bytes.{patched}
use Rattle.crash_plant.specs.Moments.{on, Same}
use Rattle.crash_plant.proofs.Steps.{works_on_trans, follows_then}
use Rattle.copy_progress.specs.Progresses.{progress_spelling}
use Rattle.copy_progress.specs.Slots.{IsNextNumber, NotesNext, OldOrNext, chosen_progress, free_progress_place}
use Rattle.copy_progress.proofs.noting.sync_and_note.Goals as goal

pub returns-in_err-sync-clause-moments : goal.returns-in_err-sync-clause-moments
returns-in_err-sync-clause-moments g c told t from to f left =
    let step = c.sync.ensures.moments told t from to f left in
    (step.0, step.1, inl step.2)

pub put_progress-requires-clause-next : goal.put_progress-requires-clause-next
put_progress-requires-clause-next g c _ _ told =
    subst (λ (l : List ℕ). IsNextNumber (chosen_progress l) c.args.value.now.number) (sym (c.sync.ensures.same told)) (c.requires.next told)

pub returns-clause-moments : goal.returns-clause-moments
returns-clause-moments g c told =
    let here = Volume c.args.device in
    let old = g.P.Plant.state c.args.plant.now in
    let mid = g.P.Plant.state c.sync.new.self in
    let v = c.args.value.now in
    let start = old.bytes here in
    let k1 = (c.sync.ensures.only.elapses told).kept here in
    follows_then (on old here) (on mid here) (on (g.P.Plant.state c.put_progress.new.plant) here) Same (OldOrNext v (free_progress_place (mid.bytes here))) (NotesNext v start) k1.later (c.sync.ensures.moments told)
    ((c.put_progress.ensures.only.elapses told).kept here) (c.put_progress.ensures.moments told)
    (λ x y there e. inl e)
    (λ x y z before there e step. inr
    (subst (λ (l : List ℕ). OldOrNext v (free_progress_place l) l z) (c.sync.ensures.same told)
    (subst (λ (l : List ℕ). OldOrNext v (free_progress_place (mid.bytes here)) l z) (c.in_ok-sync.ensures.durable told y there) step)))

pub returns-clause-written : goal.returns-clause-written
returns-clause-written g c told =
    on_ok_weaker c.put_progress.result (λ e. e ∙ ap (λ (l : List ℕ). patched (free_progress_place l) (1 ∷ progress_spelling c.args.value.now) l) (c.sync.ensures.same told)) (c.put_progress.ensures.written told)

pub returns-clause-only : goal.returns-clause-only
returns-clause-only g c = works_on_trans g.P.Plant.tells _ _ _ _ c.sync.ensures.only c.put_progress.ensures.only
