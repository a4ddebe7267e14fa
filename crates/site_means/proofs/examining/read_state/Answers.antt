use Rattle.crash_plant.specs.declared.device.Device.TheVariants.{State}
use Rattle.pair_table.specs.declared.level.Level.{Level}
use Rattle.pair_table.specs.Tables.{Table}
use Rattle.site_means.specs.Answers.{IsStored}
use Rattle.site_means.proofs.ReadAll.{durable_later, fails_then, reads_then}
use Rattle.site_means.proofs.Meanings.{same_seen, seen_chosen, seen_slot, seen_told, below_before}
use Rattle.site_means.proofs.examining.read_state.Goals as goal

pub returns-clause-says : goal.returns-clause-says
returns-clause-says g c = λ told chosen.
    let old = g.P.Plant.state c.args.plant.now in
    let mid = g.P.Plant.state c.settle.new.plant in
    let m = c.args.mark.now in
    let seen = same_seen g.P.Plant.tells old mid c.settle.ensures.others told in
    seen_told old mid seen (λ (f : Level × Table). IsStored mid m f.0 f.1.rows) (λ (f : Level × Table). IsStored old m f.0 f.1.rows) (λ f. seen_slot old mid seen m f.0 f.1.rows) c.find_state.result (c.find_state.ensures.says told (seen_chosen old mid seen m chosen))

pub returns-clause-below : goal.returns-clause-below
returns-clause-below g c = below_before (g.P.Plant.state c.args.plant.now) (g.P.Plant.state c.settle.new.plant) c.find_state.result c.settle.ensures.others.only.site c.find_state.ensures.below

pub returns-clause-durable : goal.returns-clause-durable
returns-clause-durable g c = λ told synced none.
    durable_later g.P.Plant.tells (g.P.Plant.state c.settle.new.plant) (g.P.Plant.state c.find_state.new.plant) State told c.find_state.ensures.others (c.in_ok-settle.ensures.durable told synced)

pub returns-clause-cause : goal.returns-clause-cause
returns-clause-cause g c = fails_then _ _ _ c.find_state.result (λ d. c.in_ok-settle.ensures.cause.others d (λ is. cc)) c.find_state.ensures.cause

pub returns-clause-others : goal.returns-clause-others
returns-clause-others g c = reads_then g.P.Plant.tells _ _ _ c.settle.ensures.others c.find_state.ensures.others
