use Rattle.consistency.proofs.Moments.{points_stay}
use Rattle.consistency.proofs.points.points_stay_passed.Goals as goal

pub returns : goal.returns
returns g c = points_stay (g.P.Plant.state c.args.old.now) (g.P.Plant.state c.args.new.now)
