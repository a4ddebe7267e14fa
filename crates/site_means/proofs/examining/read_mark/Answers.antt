use Rattle.crash_plant.specs.declared.device.Device.TheVariants.{Control}
use Rattle.control_set.specs.declared.value.Mark.{Mark}
use Rattle.site_means.specs.Answers.{IsChosen}
use Rattle.site_means.proofs.ReadAll.{durable_later, fails_then, reads_then}
use Rattle.site_means.proofs.Meanings.{same_seen, seen_mark, seen_told, spot_before}
use Rattle.site_means.proofs.examining.read_mark.Goals as goal

pub returns-clause-says : goal.returns-clause-says
returns-clause-says g c = λ told.
    let old = g.P.Plant.state c.args.plant.now in
    let mid = g.P.Plant.state c.settle.new.plant in
    let seen = same_seen g.P.Plant.tells old mid c.settle.ensures.others told in
    seen_told old mid seen (λ (m : Mark). IsChosen mid m) (λ (m : Mark). IsChosen old m) (seen_mark old mid seen) c.find_mark.result (c.find_mark.ensures.says told)

pub returns-clause-spot : goal.returns-clause-spot
returns-clause-spot g c =
    let old = g.P.Plant.state c.args.plant.now in
    let mid = g.P.Plant.state c.settle.new.plant in
    spot_before old mid c.find_mark.result c.settle.ensures.others.only.site c.find_mark.ensures.spot

pub returns-clause-durable : goal.returns-clause-durable
returns-clause-durable g c = λ told synced none.
    durable_later g.P.Plant.tells (g.P.Plant.state c.settle.new.plant) (g.P.Plant.state c.find_mark.new.plant) Control told c.find_mark.ensures.others (c.in_ok-settle.ensures.durable told synced)

pub returns-clause-cause : goal.returns-clause-cause
returns-clause-cause g c = fails_then _ _ _ c.find_mark.result (λ d. c.in_ok-settle.ensures.cause.others d (λ is. cc)) c.find_mark.ensures.cause

pub returns-clause-others : goal.returns-clause-others
returns-clause-others g c = reads_then g.P.Plant.tells _ _ _ c.settle.ensures.others c.find_mark.ensures.others
