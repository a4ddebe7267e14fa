use Rattle.mover.proofs.Passing.{begun_deeds_bear, begun_deeds_pass_points, done_deeds_pass_points}
use Rattle.mover.proofs.borne.begun_deeds_bear.Goals as goal

pub returns-clause-moments : goal.returns-clause-moments
returns-clause-moments g c = begun_deeds_bear (g.P.Plant.state c.args.old.now) (g.P.Plant.state c.args.new.now)

pub returns-clause-begun : goal.returns-clause-begun
returns-clause-begun g c = begun_deeds_pass_points (g.P.Plant.state c.args.old.now) (g.P.Plant.state c.args.new.now)

pub returns-clause-done : goal.returns-clause-done
returns-clause-done g c = done_deeds_pass_points (g.P.Plant.state c.args.old.now) (g.P.Plant.state c.args.new.now)
