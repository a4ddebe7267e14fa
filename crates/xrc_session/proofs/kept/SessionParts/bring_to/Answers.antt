-- A session is brought to a limit by one epoch.
use Rattle.std.proofs.Common.{◌∙◌, Some, Err, refl, sym, ap, subst, arith}
use Rattle.site_store.specs.declared.store_error.StoreError.{StoreError}
use Rattle.mover.specs.declared.ends.EpochEnd.TheVariants as ends
use Rattle.xrc_status.specs.declared.stop.Stop.{Stop}
use Rattle.xrc_status.specs.declared.stop.Stop.TheVariants as stops
use Rattle.xrc_session.specs.LinePauses.{IsReadyForEpoch}
use Rattle.xrc_session.specs.Bringing.{IsWorkOfStore}
use Rattle.xrc_session.proofs.Brought.{all_went, brings_badly, brings_well, epoch_may, hits_by_counts, is_brought, lanes_few, lanes_may, none_taken, ready_again, stays_so, taken}
use Rattle.xrc_session.proofs.BroughtWorks.{works_badly, works_well, works_without}
use Rattle.xrc_session.proofs.kept.SessionParts.bring_to.Goals as goal

pub unreachable-requires : goal.unreachable-requires
unreachable-requires g c =
    none_taken (IsReadyForEpoch g.P.Plant.tells c.args.traces.now c.args.site.now (g.P.Plant.state c.args.plant.now)) c.args.self.now.group (sym c.take.ensures.value ∙ c.in_default.is) c.requires.ready

pub unreachable-unreachable : goal.unreachable-unreachable
unreachable-unreachable g c = c.unreachable.result

pub epoch-requires-clause-lanes : goal.epoch-requires-clause-lanes
epoch-requires-clause-lanes g c κs within =
    let plant = g.P.Plant.state c.args.plant.now in
    let ready = taken (IsReadyForEpoch g.P.Plant.tells c.args.traces.now c.args.site.now plant) c.args.self.now.group c.in-Some.group (sym c.take.ensures.value ∙ c.in-Some.is) c.requires.ready in
    lanes_may g.P.Plant.tells c.args.limit.0 c.args.traces.now c.args.site.now plant c.in-Some.group c.requires.later.1 ready

pub epoch-requires-clause-may : goal.epoch-requires-clause-may
epoch-requires-clause-may g c κs within =
    let plant = g.P.Plant.state c.args.plant.now in
    let ready = taken (IsReadyForEpoch g.P.Plant.tells c.args.traces.now c.args.site.now plant) c.args.self.now.group c.in-Some.group (sym c.take.ensures.value ∙ c.in-Some.is) c.requires.ready in
    epoch_may g.P.Plant.tells c.args.limit.0 c.args.traces.now c.args.site.now plant c.in-Some.group c.requires.later.1 ready

-- ---- the site can't go on

pub stop_of_store-requires : goal.stop_of_store-requires
stop_of_store-requires g c d fault = (c.in-Store.ensures.works.cause.counts.fault d (ap (λ (e : StoreError). Err e) fault)).0

pub returns-in-Store-clause-went : goal.returns-in-Store-clause-went
returns-in-Store-clause-went g c =
    all_went g.P.Plant.tells g.S.Source.left g.S.Source.faults c.args.limit.0 c.in-Some.group c.args.traces.now c.epoch.new.lanes c.args.site.now c.epoch.new.site (g.P.Plant.state c.args.plant.now) (g.P.Plant.state c.epoch.new.plant) (ends.Store c.in-Store.error)
    c.in-Store.ensures.goes c.epoch.auto.lanes

pub returns-in-Store-clause-works : goal.returns-in-Store-clause-works
returns-in-Store-clause-works g c =
    let old = g.P.Plant.state c.args.plant.now in
    let new = g.P.Plant.state c.epoch.new.plant in
    subst (λ (s : Stop). IsWorkOfStore g.P.Plant.tells c.args.site.now c.epoch.new.site old new (Err s)) (sym c.stop_of_store.ensures) (works_badly g.P.Plant.tells c.args.site.now c.epoch.new.site old new c.in-Store.error c.in-Store.ensures.works)

pub returns-in-Store-clause-brings : goal.returns-in-Store-clause-brings
returns-in-Store-clause-brings g c told began =
    let old = g.P.Plant.state c.args.plant.now in
    let new = g.P.Plant.state c.epoch.new.plant in
    let ready = taken (IsReadyForEpoch g.P.Plant.tells c.args.traces.now c.args.site.now old) c.args.self.now.group c.in-Some.group (sym c.take.ensures.value ∙ c.in-Some.is) c.requires.ready in
    let may = epoch_may g.P.Plant.tells c.args.limit.0 c.args.traces.now c.args.site.now old c.in-Some.group c.requires.later.1 ready in
    brings_badly g.P.Plant.tells g.S.Source.left g.S.Source.faults c.args.limit.0 c.in-Some.group c.args.traces.now c.epoch.new.lanes c.args.site.now c.epoch.new.site old new (ends.Store c.in-Store.error) c.in-Store.ensures.goes told (g.P.Plant.state began) c.args.self.now
    c.args.self.now c.stop_of_store.result (sym c.take.ensures.value ∙ c.in-Some.is) may c.requires.goes_on c.in-Store.ensures.works

pub returns-in-Store-clause-starts : goal.returns-in-Store-clause-starts
returns-in-Store-clause-starts g c told =
    let old = g.P.Plant.state c.args.plant.now in
    let new = g.P.Plant.state c.epoch.new.plant in
    let ready = taken (IsReadyForEpoch g.P.Plant.tells c.args.traces.now c.args.site.now old) c.args.self.now.group c.in-Some.group (sym c.take.ensures.value ∙ c.in-Some.is) c.requires.ready in
    let may = epoch_may g.P.Plant.tells c.args.limit.0 c.args.traces.now c.args.site.now old c.in-Some.group c.requires.later.1 ready in
    stays_so g.P.Plant.tells g.S.Source.left g.S.Source.faults c.args.limit.0 c.in-Some.group c.args.traces.now c.epoch.new.lanes c.args.site.now c.epoch.new.site old new (ends.Store c.in-Store.error) c.in-Store.ensures.goes may c.requires.goes_on told

-- ---- there is no memory

pub returns-in-NoMemory-clause-went : goal.returns-in-NoMemory-clause-went
returns-in-NoMemory-clause-went g c =
    all_went g.P.Plant.tells g.S.Source.left g.S.Source.faults c.args.limit.0 c.in-Some.group c.args.traces.now c.epoch.new.lanes c.args.site.now c.epoch.new.site (g.P.Plant.state c.args.plant.now) (g.P.Plant.state c.epoch.new.plant) ends.NoMemory
    c.in-NoMemory.ensures.goes c.epoch.auto.lanes

pub returns-in-NoMemory-clause-works : goal.returns-in-NoMemory-clause-works
returns-in-NoMemory-clause-works g c = works_without g.P.Plant.tells c.args.site.now c.epoch.new.site (g.P.Plant.state c.args.plant.now) (g.P.Plant.state c.epoch.new.plant) c.in-NoMemory.ensures.works

pub returns-in-NoMemory-clause-brings : goal.returns-in-NoMemory-clause-brings
returns-in-NoMemory-clause-brings g c told began =
    let old = g.P.Plant.state c.args.plant.now in
    let new = g.P.Plant.state c.epoch.new.plant in
    let ready = taken (IsReadyForEpoch g.P.Plant.tells c.args.traces.now c.args.site.now old) c.args.self.now.group c.in-Some.group (sym c.take.ensures.value ∙ c.in-Some.is) c.requires.ready in
    let may = epoch_may g.P.Plant.tells c.args.limit.0 c.args.traces.now c.args.site.now old c.in-Some.group c.requires.later.1 ready in
    brings_badly g.P.Plant.tells g.S.Source.left g.S.Source.faults c.args.limit.0 c.in-Some.group c.args.traces.now c.epoch.new.lanes c.args.site.now c.epoch.new.site old new ends.NoMemory c.in-NoMemory.ensures.goes told (g.P.Plant.state began) c.args.self.now
    c.args.self.now stops.NoMemory (sym c.take.ensures.value ∙ c.in-Some.is) may c.requires.goes_on c.in-NoMemory.ensures.works

pub returns-in-NoMemory-clause-starts : goal.returns-in-NoMemory-clause-starts
returns-in-NoMemory-clause-starts g c told =
    let old = g.P.Plant.state c.args.plant.now in
    let new = g.P.Plant.state c.epoch.new.plant in
    let ready = taken (IsReadyForEpoch g.P.Plant.tells c.args.traces.now c.args.site.now old) c.args.self.now.group c.in-Some.group (sym c.take.ensures.value ∙ c.in-Some.is) c.requires.ready in
    let may = epoch_may g.P.Plant.tells c.args.limit.0 c.args.traces.now c.args.site.now old c.in-Some.group c.requires.later.1 ready in
    stays_so g.P.Plant.tells g.S.Source.left g.S.Source.faults c.args.limit.0 c.in-Some.group c.args.traces.now c.epoch.new.lanes c.args.site.now c.epoch.new.site old new ends.NoMemory c.in-NoMemory.ensures.goes may c.requires.goes_on told

-- ---- at the limit

pub name_broken-requires : goal.name_broken-requires
name_broken-requires g c =
    let plant = g.P.Plant.state c.args.plant.now in
    let ready = taken (IsReadyForEpoch g.P.Plant.tells c.args.traces.now c.args.site.now plant) c.args.self.now.group c.in-Some.group (sym c.take.ensures.value ∙ c.in-Some.is) c.requires.ready in
    lanes_few g.P.Plant.tells c.args.traces.now c.epoch.new.lanes c.args.site.now plant c.in-Some.group ready c.epoch.auto.lanes

pub prove-unreachable-requires : goal.prove-unreachable-requires
prove-unreachable-requires g c =
    let few = c.len.ensures.rules.few in
    omega (arith, c.if-prove.true, c.from.ensures, c.len.ensures.count, few)

pub unreachable-prove : goal.unreachable-prove
unreachable-prove g c = c.prove-unreachable.result

pub returns-clause-ready : goal.returns-clause-ready
returns-clause-ready g c =
    let old = g.P.Plant.state c.args.plant.now in
    let ready = taken (IsReadyForEpoch g.P.Plant.tells c.args.traces.now c.args.site.now old) c.args.self.now.group c.in-Some.group (sym c.take.ensures.value ∙ c.in-Some.is) c.requires.ready in
    ready_again g.P.Plant.tells g.S.Source.left g.S.Source.faults c.args.limit.0 c.in-Some.group c.in-Reached.group c.args.traces.now c.epoch.new.lanes c.args.site.now c.epoch.new.site old (g.P.Plant.state c.epoch.new.plant) c.in-Reached.ensures.goes
    c.in-Reached.ensures.reached ready

pub returns-clause-cut : goal.returns-clause-cut
returns-clause-cut g c = c.in-Reached.ensures.reached.cut

pub returns-clause-site : goal.returns-clause-site
returns-clause-site g c =
    is_brought g.P.Plant.tells g.S.Source.left g.S.Source.faults c.args.limit.0 c.in-Some.group c.in-Reached.group c.args.traces.now c.epoch.new.lanes c.args.site.now c.epoch.new.site (g.P.Plant.state c.args.plant.now) (g.P.Plant.state c.epoch.new.plant)
    c.in-Reached.ensures.goes c.in-Reached.ensures.reached c.requires.goes_on (c.table.ensures.told c.in-Reached.ensures.reached.begins.rests.level)

pub returns-clause-names : goal.returns-clause-names
returns-clause-names g c = c.name_broken.ensures

pub returns-clause-went : goal.returns-clause-went
returns-clause-went g c =
    all_went g.P.Plant.tells g.S.Source.left g.S.Source.faults c.args.limit.0 c.in-Some.group c.args.traces.now c.epoch.new.lanes c.args.site.now c.epoch.new.site (g.P.Plant.state c.args.plant.now) (g.P.Plant.state c.epoch.new.plant) (ends.Reached c.in-Reached.group)
    c.in-Reached.ensures.goes c.epoch.auto.lanes

pub returns-clause-works : goal.returns-clause-works
returns-clause-works g c =
    let old = g.P.Plant.state c.args.plant.now in
    let new = g.P.Plant.state c.epoch.new.plant in
    works_well g.P.Plant.tells c.args.site.now c.epoch.new.site old new c.in-Reached.ensures.works
    (hits_by_counts g.P.Plant.tells g.S.Source.left g.S.Source.faults c.args.limit.0 c.in-Some.group c.in-Reached.group c.args.traces.now c.epoch.new.lanes c.args.site.now c.epoch.new.site old new c.in-Reached.ensures.goes c.in-Reached.ensures.reached c.requires.goes_on)

pub returns-clause-brings : goal.returns-clause-brings
returns-clause-brings g c told began =
    let old = g.P.Plant.state c.args.plant.now in
    let new = g.P.Plant.state c.epoch.new.plant in
    let ready = taken (IsReadyForEpoch g.P.Plant.tells c.args.traces.now c.args.site.now old) c.args.self.now.group c.in-Some.group (sym c.take.ensures.value ∙ c.in-Some.is) c.requires.ready in
    let may = epoch_may g.P.Plant.tells c.args.limit.0 c.args.traces.now c.args.site.now old c.in-Some.group c.requires.later.1 ready in
    brings_well g.P.Plant.tells g.S.Source.left g.S.Source.faults c.args.limit.0 c.in-Some.group c.in-Reached.group c.args.traces.now c.epoch.new.lanes c.args.site.now c.epoch.new.site old new c.in-Reached.ensures.goes c.in-Reached.ensures.reached told (g.P.Plant.state began)
    c.args.self.now (record c.args.self.now { group = Some c.in-Reached.group }) (sym c.take.ensures.value ∙ c.in-Some.is) refl may c.requires.goes_on c.in-Reached.ensures.works (λ told d there. g.met.P.Plant.read_is_image c.epoch.new.plant d told there)

pub returns-clause-broke : goal.returns-clause-broke
returns-clause-broke g c traces before up turns broke = c.in-Reached.ensures.reached.broken traces before c.requires.later.0 up turns broke

pub returns-clause-same : goal.returns-clause-same
returns-clause-same g c = c.in-Reached.ensures.reached.same

pub returns-clause-starts : goal.returns-clause-starts
returns-clause-starts g c told =
    let old = g.P.Plant.state c.args.plant.now in
    let new = g.P.Plant.state c.epoch.new.plant in
    let ready = taken (IsReadyForEpoch g.P.Plant.tells c.args.traces.now c.args.site.now old) c.args.self.now.group c.in-Some.group (sym c.take.ensures.value ∙ c.in-Some.is) c.requires.ready in
    let may = epoch_may g.P.Plant.tells c.args.limit.0 c.args.traces.now c.args.site.now old c.in-Some.group c.requires.later.1 ready in
    stays_so g.P.Plant.tells g.S.Source.left g.S.Source.faults c.args.limit.0 c.in-Some.group c.args.traces.now c.epoch.new.lanes c.args.site.now c.epoch.new.site old new (ends.Reached c.in-Reached.group) c.in-Reached.ensures.goes may c.requires.goes_on told
