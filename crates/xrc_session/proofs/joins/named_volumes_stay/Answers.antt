use Rattle.xrc_session.proofs.JoinsLanes.{named_volumes_stay}
use Rattle.xrc_session.proofs.joins.named_volumes_stay.Goals as goal

pub returns : goal.returns
returns g c = named_volumes_stay c.args.old.now c.args.new.now
