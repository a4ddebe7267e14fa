use Rattle.std.proofs.Common.{refl, ap, Ok}
use Rattle.crash_plant.proofs.Steps.{works_on_here}
use Rattle.applier.proofs.Works.{lent_of_works}
use Rattle.mover.specs.declared.ends.EpochEnd.TheVariants as ends
use Rattle.mover.specs.Moves.{IsOfMover}
use Rattle.mover.specs.Rounds.{store_result}
use Rattle.mover.proofs.EpochEnds.{goes_by, reached_by, seats_home}
use Rattle.mover.proofs.EpochNone.{none_goes}
use Rattle.mover.proofs.WorkedOn.{no_work}
use Rattle.mover.proofs.epochs.epoch.Goals as goal

pub returns-in_default-clause-goes : goal.returns-in_default-clause-goes
returns-in_default-clause-goes g c =
    none_goes g.P.Plant.tells g.S.Source.left g.S.Source.faults c.args.limit.0 c.args.group c.args.lanes.now c.args.site.now (g.P.Plant.state c.args.plant.now) c.requires.lanes c.requires.may.knows.below

pub returns-in_default-clause-works : goal.returns-in_default-clause-works
returns-in_default-clause-works g c =
    let tells = g.P.Plant.tells in
    let site = c.args.site.now in
    let plant = g.P.Plant.state c.args.plant.now in
    no_work tells site plant (Ok tt) (lent_of_works tells (IsOfMover site) plant plant (works_on_here tells (IsOfMover site) plant)) refl

pub close-state-requires-clause-readers : goal.close-state-requires-clause-readers
close-state-requires-clause-readers g c = seats_home c.in-Ok.table c.rounds-end.new.seat c.rounds-end.new.seats c.rounds-end.ensures.seats

pub returns-in-Reached-clause-goes : goal.returns-in-Reached-clause-goes
returns-in-Reached-clause-goes g c =
    let e = c.rounds-end.ensures in
    goes_by g.P.Plant.tells g.S.Source.left g.S.Source.faults c.args.limit.0 c.args.group c.in-Ok.table c.in-Ok.ensures.group c.args.lanes.now c.rounds-end.new.lanes c.in-Ok.seat c.rounds-end.new.seat c.in-Ok.ensures.mover c.rounds-end.new.seats c.close-state.result
    c.args.site.now c.rounds-end.new.site (g.P.Plant.state c.args.plant.now) (g.P.Plant.state c.rounds-end.new.plant) c.requires.lanes c.requires.may c.rounds-end.result e.lanes e.moved e.seats e.limited c.close-state.ensures.history
    (ends.Reached c.close-state.result) (ap store_result c.in-Reached.is) refl e.numbers

pub returns-in-Reached-clause-reached : goal.returns-in-Reached-clause-reached
returns-in-Reached-clause-reached g c =
    let e = c.rounds-end.ensures in
    reached_by g.P.Plant.tells g.S.Source.left g.S.Source.faults c.args.limit.0 c.args.group c.in-Ok.table c.in-Ok.ensures.group c.args.lanes.now c.rounds-end.new.lanes c.in-Ok.seat c.rounds-end.new.seat c.in-Ok.ensures.mover c.rounds-end.new.seats c.close-state.result
    c.args.site.now c.rounds-end.new.site (g.P.Plant.state c.args.plant.now) (g.P.Plant.state c.rounds-end.new.plant) c.requires.lanes c.requires.may c.rounds-end.result e.lanes e.moved e.seats e.limited c.close-state.ensures.history
    (e.reached c.in-Reached.is) (e.may c.in-Reached.is) c.close-state.ensures.known c.rounds-end.auto.lanes (ap store_result c.in-Reached.is)

pub returns-in-Store-clause-goes : goal.returns-in-Store-clause-goes
returns-in-Store-clause-goes g c =
    let e = c.rounds-end.ensures in
    goes_by g.P.Plant.tells g.S.Source.left g.S.Source.faults c.args.limit.0 c.args.group c.in-Ok.table c.in-Ok.ensures.group c.args.lanes.now c.rounds-end.new.lanes c.in-Ok.seat c.rounds-end.new.seat c.in-Ok.ensures.mover c.rounds-end.new.seats c.close-state.result
    c.args.site.now c.rounds-end.new.site (g.P.Plant.state c.args.plant.now) (g.P.Plant.state c.rounds-end.new.plant) c.requires.lanes c.requires.may c.rounds-end.result e.lanes e.moved e.seats e.limited c.close-state.ensures.history
    (ends.Store c.in-Store.error) (ap store_result c.in-Store.is) tt e.numbers

pub returns-in-NoMemory-clause-goes : goal.returns-in-NoMemory-clause-goes
returns-in-NoMemory-clause-goes g c =
    let e = c.rounds-end.ensures in
    goes_by g.P.Plant.tells g.S.Source.left g.S.Source.faults c.args.limit.0 c.args.group c.in-Ok.table c.in-Ok.ensures.group c.args.lanes.now c.rounds-end.new.lanes c.in-Ok.seat c.rounds-end.new.seat c.in-Ok.ensures.mover c.rounds-end.new.seats c.close-state.result
    c.args.site.now c.rounds-end.new.site (g.P.Plant.state c.args.plant.now) (g.P.Plant.state c.rounds-end.new.plant) c.requires.lanes c.requires.may c.rounds-end.result e.lanes e.moved e.seats e.limited c.close-state.ensures.history
    ends.NoMemory (ap store_result c.in-NoMemory.is) tt e.numbers
