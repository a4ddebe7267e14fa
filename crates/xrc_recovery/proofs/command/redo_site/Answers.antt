use Rattle.std.proofs.Common.{ℕ, Err, sym, ap, subst}
use Rattle.xrc_status.specs.declared.stop.Stop.{Stop}
use Rattle.xrc_recovery.specs.Statuses.{EndsRecovery}
use Rattle.xrc_recovery.proofs.Lasting.{ends_done, ends_stopped}
use Rattle.xrc_recovery.proofs.command.redo_site.Goals as goal

pub returns-in-Ok : goal.returns-in-Ok
returns-in-Ok g c = ends_done g.P.Plant.tells c.args.labelling c.args.session (g.P.Plant.state c.args.plant.now) (g.P.Plant.state c.run_recovery.new.plant) c.in-Ok.field-0 c.in-Ok.ensures.recovers

pub returns-in-Err : goal.returns-in-Err
returns-in-Err g c =
    let a = g.P.Plant.state c.args.plant.now in
    let b = g.P.Plant.state c.run_recovery.new.plant in
    let d = g.P.Plant.state c.say_stop.new.plant in
    let stop = c.in-Err.stop in
    subst (λ (n : ℕ). EndsRecovery g.P.Plant.tells c.args.labelling c.args.session a d n) (sym c.say_stop.ensures.status)
    (ends_stopped g.P.Plant.tells c.args.labelling c.args.session a b d stop c.in-Err.ensures.recovers c.say_stop.ensures.said
    (λ bad. ap g.P.Plant.state (c.in-Err.ensures.untouched (ap (λ (s : Stop). Err s) bad))) (λ console. ap g.P.Plant.state (c.say_stop.ensures.silent console)))
