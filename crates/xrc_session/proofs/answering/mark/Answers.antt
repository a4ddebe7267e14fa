-- A mark by which a session ends or goes on.
use Rattle.std.proofs.Common.{◌≡◌, ◌∙◌, Err, ap, subst, sym}
use Rattle.crash_plant.specs.declared.device.Device.TheVariants.{Volume}
use Rattle.site_store.proofs.Between.{may_mark}
use Rattle.xrc_status.specs.declared.stop.Stop.{Stop}
use Rattle.xrc_status.specs.declared.stop.Stop.TheVariants as stops
use Rattle.xrc_session.specs.Bringing.{IsWorkOfStore}
use Rattle.xrc_session.proofs.AnswerCalls.{mark_stops, mark_works}
use Rattle.xrc_session.proofs.AnswerMarks.{mark_begins, mark_passes}
use Rattle.xrc_session.proofs.AnswerSites.{marked_site}
use Rattle.xrc_session.proofs.AnswerWorks.{console_stop, store_fault}
use Rattle.xrc_session.proofs.answering.mark.Goals as goal

pub mark-requires-clause-may : goal.mark-requires-clause-may
mark-requires-clause-may g c κs within = may_mark g.P.Plant.tells c.args.site.now (g.P.Plant.state c.args.plant.now) c.requires.idle

pub returns-in-Ok-clause-site : goal.returns-in-Ok-clause-site
returns-in-Ok-clause-site g c =
    marked_site g.P.Plant.tells c.args.plant.now c.mark.new.plant (g.P.Plant.state c.args.plant.now) (g.P.Plant.state c.mark.new.plant) c.args.site.now c.mark.new.self c.args.ended c.requires.idle c.mark.ensures.failed.size c.in-Ok.ensures.leaves c.in-Ok.ensures.ok

pub returns-in-Ok-clause-volumes : goal.returns-in-Ok-clause-volumes
returns-in-Ok-clause-volumes g c = c.mark.ensures.moments.volumes

pub returns-in-Ok-clause-works : goal.returns-in-Ok-clause-works
returns-in-Ok-clause-works g c =
    mark_works g.P.Plant.tells c.args.site.now c.mark.new.self (g.P.Plant.state c.args.plant.now) (g.P.Plant.state c.mark.new.plant) c.args.plant.now c.mark.new.plant c.args.ended c.requires.idle c.mark.ensures.others
    c.requires.told c.mark.ensures.failed c.in-Ok.ensures.cause c.in-Ok.ensures.ok

pub returns-in-Ok-clause-marks : goal.returns-in-Ok-clause-marks
returns-in-Ok-clause-marks g c told began run stage asked l may cover =
    mark_passes g.P.Plant.tells told c.args.site.now c.mark.new.self c.args.ended (g.P.Plant.state c.args.plant.now) (g.P.Plant.state c.mark.new.plant) c.requires.idle c.requires.told c.mark.ensures.failed (λ d. c.mark.ensures.others.faults (Volume d)) run stage asked l
    (g.P.Plant.state began) may cover c.args.plant.now c.mark.new.plant c.in-Ok.ensures.ok c.in-Ok.ensures.moments

pub stop_of_store-requires : goal.stop_of_store-requires
stop_of_store-requires g c d fault = store_fault (g.P.Plant.state c.args.plant.now) (g.P.Plant.state c.mark.new.plant) c.in-Err.error c.in-Err.ensures.cause d fault

pub returns-in-Err-clause-volumes : goal.returns-in-Err-clause-volumes
returns-in-Err-clause-volumes g c = c.mark.ensures.moments.volumes

pub returns-in-Err-clause-unsaid : goal.returns-in-Err-clause-unsaid
returns-in-Err-clause-unsaid g c is = let same : c.stop_of_store.result ≡ stops.ConsoleFault = cc is in console_stop c.in-Err.error (sym c.stop_of_store.ensures ∙ same)

pub returns-in-Err-clause-works : goal.returns-in-Err-clause-works
returns-in-Err-clause-works g c =
    let old = g.P.Plant.state c.args.plant.now in
    let new = g.P.Plant.state c.mark.new.plant in
    subst (λ (s : Stop). IsWorkOfStore {T = Unit {0}} g.P.Plant.tells c.args.site.now c.mark.new.self old new (Err s)) (sym c.stop_of_store.ensures)
    (mark_stops g.P.Plant.tells c.args.site.now c.mark.new.self old new c.args.plant.now c.mark.new.plant c.args.ended c.requires.idle c.mark.ensures.others (λ same. ap g.P.Plant.state same) c.in-Err.error c.in-Err.ensures.cause c.in-Err.ensures.ok)

pub returns-in-Err-clause-marks : goal.returns-in-Err-clause-marks
returns-in-Err-clause-marks g c told began run stage asked l may cover =
    mark_begins g.P.Plant.tells told c.args.site.now c.mark.new.self c.args.ended (g.P.Plant.state c.args.plant.now) (g.P.Plant.state c.mark.new.plant) c.requires.idle c.requires.told c.mark.ensures.failed (λ d. c.mark.ensures.others.faults (Volume d)) run stage asked l
    (g.P.Plant.state began) may cover (Err c.in-Err.error) c.in-Err.ensures.moments
