use Rattle.std.proofs.Common.{length, refl}
use Rattle.xrc_session.proofs.Made.{early_by_site, new_between, opens_at_last, opens_by_header, opens_by_site}
use Rattle.xrc_session.proofs.Numbered.{given_on}
use Rattle.xrc_session.proofs.run.SessionRun.make.Goals as goal

pub returns-in_err-check_site-clause-opens : goal.returns-in_err-check_site-clause-opens
returns-in_err-check_site-clause-opens g c =
    let e = c.in_err-check_site.field-0.0 in
    let result = c.from_residual.result in
    opens_by_site g.S.Source.left g.S.Source.faults c.args.storage c.args.traces.now (g.P.Plant.state c.args.plant.now) result e (given_on result e c.from_residual.ensures) ((c.check_site.ensures.stops e).0 c.in_err-check_site.was)

pub returns-in_err-check_site-clause-stops : goal.returns-in_err-check_site-clause-stops
returns-in_err-check_site-clause-stops g c =
    let e = c.in_err-check_site.field-0.0 in
    let result = c.from_residual.result in
    early_by_site result c.args.storage (length c.args.traces.now) (g.P.Plant.state c.args.plant.now) e (given_on result e c.from_residual.ensures) ((c.check_site.ensures.stops e).0 c.in_err-check_site.was)

pub returns-in_err-open_lanes-clause-opens : goal.returns-in_err-open_lanes-clause-opens
returns-in_err-open_lanes-clause-opens g c =
    let e = c.in_err-open_lanes.field-0.0 in
    let result = c.from_residual-in_err-open_lanes.result in
    opens_by_header g.S.Source.left g.S.Source.faults c.args.storage c.args.traces.now (g.P.Plant.state c.args.plant.now) result c.open_lanes.new.traces c.in_ok-check_site.ensures.none c.open_lanes.result c.open_lanes.ensures.stops e c.in_err-open_lanes.was
    (given_on result e c.from_residual-in_err-open_lanes.ensures) c.in_err-open_lanes.ensures.only c.open_lanes.ensures.fault

pub returns-clause-opens : goal.returns-clause-opens
returns-clause-opens g c =
    opens_at_last g.S.Source.left g.S.Source.faults c.args.storage c.args.traces.now (g.P.Plant.state c.args.plant.now) _ c.open_lanes.new.traces c.in_ok-check_site.ensures.none c.open_lanes.result c.open_lanes.ensures.stops c.in_ok-open_lanes.field-0 _
    c.in_ok-open_lanes.was refl

pub returns-clause-between : goal.returns-clause-between
returns-clause-between g c =
    new_between g.P.Plant.tells g.S.Source.left g.S.Source.faults c.args.session c.args.storage c.open_lanes.new.names c.in_ok-names.names c.args.traces.now c.open_lanes.new.traces (g.P.Plant.state c.args.plant.now) c.requires.storage c.requires.home
    c.in_ok-check_site.ensures.lengths c.in_ok-names.ensures c.in_ok-open_lanes.ensures.named c.in_ok-open_lanes.ensures.opened c.in_ok-open_lanes.ensures.headed c.in_ok-make.field-0.names c.in_ok-make.field-0.group c.in_ok-make-2.field-0 c.in_ok-make.ensures.names c.in_ok-make.ensures.group
    c.in_ok-make-2.ensures
