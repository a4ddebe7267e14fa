use Rattle.std.proofs.Common.{ℕ, Err, sym, ap, subst}
use Rattle.xrc_status.specs.declared.stop.Stop.{Stop}
use Rattle.xrc_recovery.specs.Queries.{EndsQuery}
use Rattle.xrc_recovery.proofs.Querying.{query_done, query_stopped}
use Rattle.xrc_recovery.proofs.command.query_site.Goals as goal

pub returns-in-Ok : goal.returns-in-Ok
returns-in-Ok g c = query_done g.P.Plant.tells c.args.session (g.P.Plant.state c.args.plant.now) (g.P.Plant.state c.run_query.new.plant) c.in-Ok.field-0 c.in-Ok.ensures.queries

pub returns-in-Err : goal.returns-in-Err
returns-in-Err g c =
    let a = g.P.Plant.state c.args.plant.now in
    let b = g.P.Plant.state c.run_query.new.plant in
    let d = g.P.Plant.state c.say_stop.new.plant in
    let stop = c.in-Err.stop in
    subst (λ (n : ℕ). EndsQuery g.P.Plant.tells c.args.session a d n) (sym c.say_stop.ensures.status)
    (query_stopped g.P.Plant.tells c.args.session a b d stop c.in-Err.ensures.queries c.say_stop.ensures.said
    (λ bad. ap g.P.Plant.state (c.in-Err.ensures.untouched (ap (λ (s : Stop). Err s) bad))) (λ console. ap g.P.Plant.state (c.say_stop.ensures.silent console)))
