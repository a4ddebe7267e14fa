use Rattle.consistency.proofs.Between.{passages_go_on, replies_fail, replies_go_on, runs_begin, works_go_on}
use Rattle.consistency.proofs.points.runs_go_on.Goals as goal

pub returns-clause-begins : goal.returns-clause-begins
returns-clause-begins g c = runs_begin (g.P.Plant.state c.args.plant.now)

pub returns-clause-works : goal.returns-clause-works
returns-clause-works g c first old = works_go_on (g.P.Plant.state first) (g.P.Plant.state old) (g.P.Plant.state c.args.plant.now)

pub returns-clause-passages : goal.returns-clause-passages
returns-clause-passages g c first old = passages_go_on (g.P.Plant.state first) (g.P.Plant.state old) (g.P.Plant.state c.args.plant.now)

pub returns-clause-replies : goal.returns-clause-replies
returns-clause-replies g c told first old run lines from points a goes reply works says =
    replies_go_on run lines from points a (g.P.Plant.state first) (g.P.Plant.state old) (g.P.Plant.state c.args.plant.now) goes reply g.P.Plant.tells told works says

pub returns-clause-fail : goal.returns-clause-fail
returns-clause-fail g c told first old run lines from points a goes reply works says =
    replies_fail run lines from points a (g.P.Plant.state first) (g.P.Plant.state old) (g.P.Plant.state c.args.plant.now) goes reply g.P.Plant.tells told works says
