use Rattle.xrc_session.proofs.JoinsCommands.{rests_after}
use Rattle.xrc_session.proofs.joins.rests_after_commands.Goals as goal

pub returns : goal.returns
returns g c = rests_after g.P.Plant.tells c.args.old.now c.args.new.now c.args.lanes.now (g.P.Plant.state c.args.old.now) (g.P.Plant.state c.args.new.now)
