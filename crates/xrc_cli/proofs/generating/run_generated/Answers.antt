use Rattle.std.proofs.Common.{rules, ℕ, sym, subst}
use Rattle.xrc_cli.specs.Generating.{EndsGenerating}
use Rattle.xrc_cli.specs.Generating.EndsGenerating.{WantsMemory}
use Rattle.xrc_cli.proofs.Generated.{said}
use Rattle.xrc_cli.proofs.generating.run_generated.Goals as goal

pub returns-in-Ok : goal.returns-in-Ok
returns-in-Ok g c =
    said g.P.Plant.tells c.args.number c.in-Ok.line (g.P.Plant.state c.args.plant.now) (g.P.Plant.state c.say_done.new.plant) c.say_done.result c.in-Ok.ensures (search rules)

pub returns-in-Err : goal.returns-in-Err
returns-in-Err g c =
    subst (λ (n : ℕ). EndsGenerating g.P.Plant.tells c.args.number (g.P.Plant.state c.args.plant.now) (g.P.Plant.state c.say_stop.new.plant) n) (sym c.say_stop.ensures.status) (WantsMemory c.say_stop.ensures.said)
