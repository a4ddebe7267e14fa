use Rattle.std.proofs.Common.{rules, ℕ, sym, subst}
use Rattle.xrc_cli.specs.Labelling.{EndsLabelling}
use Rattle.xrc_cli.proofs.LabelEnds.{labelled, no_volume, not_written}
use Rattle.xrc_cli.proofs.labelling.label_volume.Goals as goal

pub returns-then-not-has_volume : goal.returns-then-not-has_volume
returns-then-not-has_volume g c =
    subst (λ (n : ℕ). EndsLabelling g.P.Plant.tells c.args.device c.args.label.now (g.P.Plant.state c.args.plant.now) (g.P.Plant.state c.say_stop.new.plant) n) (sym c.say_stop.ensures.status)
    (no_volume g.P.Plant.tells c.args.device c.args.label.now (g.P.Plant.state c.args.plant.now) (g.P.Plant.state c.say_stop.new.plant) (λ has. search rules) c.say_stop.ensures.said)

pub returns-in-Ok : goal.returns-in-Ok
returns-in-Ok g c =
    let w = c.write_label.ensures in let s = c.in-Ok.ensures in
    labelled g.P.Plant.tells c.args.device c.args.label.now (g.P.Plant.state c.args.plant.now) (g.P.Plant.state c.write_label.new.plant) (g.P.Plant.state c.say_done.new.plant)
    (search rules) (search rules) w.others w.moments w.torn s.cause.ok s.durable s.begins (λ told. s.stands told (search rules)) c.say_done.result (search rules)

pub returns-in-Err : goal.returns-in-Err
returns-in-Err g c =
    let w = c.write_label.ensures in
    subst (λ (n : ℕ). EndsLabelling g.P.Plant.tells c.args.device c.args.label.now (g.P.Plant.state c.args.plant.now) (g.P.Plant.state c.say_stop-in-Err.new.plant) n) (sym c.say_stop-in-Err.ensures.status)
    (not_written g.P.Plant.tells c.args.device c.args.label.now (g.P.Plant.state c.args.plant.now) (g.P.Plant.state c.write_label.new.plant) (g.P.Plant.state c.say_stop-in-Err.new.plant)
    (search rules) (search rules) w.others w.moments w.torn c.in-Err.ensures.cause.failed w.cause.by_one c.say_stop-in-Err.ensures.said)
