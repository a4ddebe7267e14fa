use Rattle.std.proofs.Common.{rules, arith, ◌≡◌, ◌∙◌, Option, Some, Result, Err, inr, refl, sym, ap, subst}
use Rattle.std.proofs.lemmas.Result.{on_ok_weaker}
use Rattle.crash_plant.specs.declared.device.Device.TheVariants.{Volume}
use Rattle.crash_plant.specs.Moments.{on, Follows}
use Rattle.copy_progress.specs.declared.progress.Progress.{Progress}
use Rattle.copy_progress.specs.Progresses.{IsProgress}
use Rattle.copy_progress.specs.Slots.{IsNextNumber, NotesNext, chosen_progress}
use Rattle.volume_copy.specs.Copying.{IsOfCopy}
use Rattle.volume_copy.specs.Faults.{FailsAmong}
use Rattle.volume_copy.proofs.Copying.{ready_later, target_there}
use Rattle.volume_copy.proofs.Faults.{fails_one, fails_then}
use Rattle.volume_copy.proofs.Progress.{chosen_still, next_keeps, stands_next}
use Rattle.volume_copy.proofs.CopiedCylinders.{cylinder_noted, cylinder_tracks}
use Rattle.volume_copy.proofs.cylinders.copy_cylinder.Goals as goal

pub sync_and_note-requires-clause-there : goal.sync_and_note-requires-clause-there
sync_and_note-requires-clause-there g c κs within =
    let job = c.args.job.now in
    let b = g.P.Plant.state c.copy_tracks.new.plant in
    target_there b job (ready_later g.P.Plant.tells (IsOfCopy job.source job.target) job (g.P.Plant.state c.args.plant.now) b c.copy_tracks.ensures.works.only c.requires.ready)

pub sync_and_note-requires-clause-long : goal.sync_and_note-requires-clause-long
sync_and_note-requires-clause-long g c κs within = omega (arith, c.requires.ready.target_long, c.copy_tracks.ensures.works.only.site.lengths (Volume c.args.job.now.target))

pub sync_and_note-requires-clause-keeps : goal.sync_and_note-requires-clause-keeps
sync_and_note-requires-clause-keeps g c κs within = subst (λ (p : Progress). IsProgress p) (sym c.progress_after-next.ensures) (next_keeps c.args.job.now.claim c.args.cylinder c.requires.within)

pub sync_and_note-requires-clause-next : goal.sync_and_note-requires-clause-next
sync_and_note-requires-clause-next g c κs within told =
    let job = c.args.job.now in
    let before = (g.P.Plant.state c.args.plant.now).bytes (Volume job.target) in
    let after = (g.P.Plant.state c.copy_tracks.new.plant).bytes (Volume job.target) in
    let still = chosen_still c.args.cylinder before after (c.copy_tracks.ensures.works.target_bytes told).torn in
    subst (λ (o : Option Progress). IsNextNumber o c.progress_after-next.result.number) (sym still) (subst (λ (p : Progress). IsNextNumber (chosen_progress before) p.number) (sym c.progress_after-next.ensures) (c.requires.stands told).next)

pub returns-in_err-copy_tracks-clause-works : goal.returns-in_err-copy_tracks-clause-works
returns-in_err-copy_tracks-clause-works g c =
    cylinder_tracks g.P.Plant.tells c.args.job.now c.requires.ready.apart c.args.cylinder c.requires.within (g.P.Plant.state c.args.plant.now) (g.P.Plant.state c.copy_tracks.new.plant) c.requires.durable c.requires.stands c.copy_tracks.ensures.works

pub returns-in_err-copy_tracks-clause-fails : goal.returns-in_err-copy_tracks-clause-fails
returns-in_err-copy_tracks-clause-fails g c =
    let job = c.args.job.now in
    let e = c.in_err-copy_tracks.field-0.0 in
    let is : c.from_residual.result ≡ Err e = search rules in
    subst (λ (r : Result (Unit {0}) _). FailsAmong (IsOfCopy job.source job.target) (g.P.Plant.state c.args.plant.now).faults (g.P.Plant.state c.copy_tracks.new.plant).faults r) (sym is) c.in_err-copy_tracks.ensures.fails

pub returns-clause-works : goal.returns-clause-works
returns-clause-works g c =
    let job = c.args.job.now in
    let t = Volume job.target in
    let a = g.P.Plant.state c.args.plant.now in
    let b = g.P.Plant.state c.copy_tracks.new.plant in
    let d = g.P.Plant.state c.sync_and_note.new.plant in
    let note = c.sync_and_note.ensures in
    let ready = ready_later g.P.Plant.tells (IsOfCopy job.source job.target) job a b c.copy_tracks.ensures.works.only c.requires.ready in
    let there = target_there d job (ready_later g.P.Plant.tells (λ x. x ≡ t) job b d note.only ready) in
    cylinder_noted g.P.Plant.tells job c.requires.ready.apart c.args.cylinder c.requires.within a b c.requires.durable c.requires.stands c.copy_tracks.ensures.works d (λ told. c.in_ok-copy_tracks.ensures.copied told)
    (λ told. g.met.P.Plant.read_is_image c.sync_and_note.new.plant t told there) note.only
    (λ told. subst (λ (p : Progress). Follows (NotesNext p (b.bytes t)) (on b t) (on d t)) c.progress_after-next.ensures (note.moments told))

pub returns-clause-stands : goal.returns-clause-stands
returns-clause-stands g c told =
    on_ok_weaker c.sync_and_note.result (λ is. stands_next c.args.job.now.claim _ c.args.cylinder (is ∙ ap (λ (p : Progress). Some p) c.progress_after-next.ensures)) (c.sync_and_note.ensures.chosen told)

pub returns-clause-fails : goal.returns-clause-fails
returns-clause-fails g c =
    let job = c.args.job.now in
    let old = (g.P.Plant.state c.args.plant.now).faults in
    let mid = (g.P.Plant.state c.copy_tracks.new.plant).faults in
    let new = (g.P.Plant.state c.sync_and_note.new.plant).faults in
    fails_then (IsOfCopy job.source job.target) old mid new c.sync_and_note.result c.in_ok-copy_tracks.ensures.fails.ok (fails_one (IsOfCopy job.source job.target) (Volume job.target) mid new c.sync_and_note.result (inr refl) c.sync_and_note.ensures.cause (λ d other. c.sync_and_note.ensures.only.others_faults d other))
