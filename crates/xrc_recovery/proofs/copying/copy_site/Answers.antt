use Rattle.std.proofs.Common.{ℕ, Err, sym, ap, subst}
use Rattle.xrc_recovery.specs.declared.copying.CopyStop.{CopyStop}
use Rattle.xrc_recovery.specs.Copies.{EndsCopy}
use Rattle.xrc_recovery.proofs.CopyStatuses.{copy_done, copy_ends}
use Rattle.xrc_recovery.proofs.copying.copy_site.Goals as goal

pub returns-in-Ok : goal.returns-in-Ok
returns-in-Ok g c = copy_done g.P.Plant.tells c.args.session c.args.shift (g.P.Plant.state c.args.plant.now) (g.P.Plant.state c.run_copy.new.plant) c.in-Ok.field-0 c.in-Ok.ensures.copies

pub returns-in-Err : goal.returns-in-Err
returns-in-Err g c =
    let a = g.P.Plant.state c.args.plant.now in
    let b = g.P.Plant.state c.run_copy.new.plant in
    let d = g.P.Plant.state c.say_copy_stop.new.plant in
    subst (λ (n : ℕ). EndsCopy g.P.Plant.tells c.args.session c.args.shift a d n) (sym c.say_copy_stop.ensures.status)
    (copy_ends g.P.Plant.tells c.args.session c.args.shift a b d c.in-Err.stop c.in-Err.ensures.copies c.say_copy_stop.ensures.said
    (λ bad. ap g.P.Plant.state (c.in-Err.ensures.untouched (ap (λ (s : CopyStop). Err s) bad))) (λ console. ap g.P.Plant.state (c.say_copy_stop.ensures.silent console)))
