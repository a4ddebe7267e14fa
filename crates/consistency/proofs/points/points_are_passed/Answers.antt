use Rattle.crash_plant.specs.Choices.{Choice, IsChoice}
use Rattle.site_means.specs.Images.{shape_of}
use Rattle.consistency.specs.Bearing.{ShowsPoint}
use Rattle.consistency.specs.Leads.{Point}
use Rattle.consistency.specs.Ways.{Way}
use Rattle.passages.proofs.InARow.{in_a_row, some_shown}
use Rattle.consistency.proofs.Moments.{points_bear_throughout}
use Rattle.consistency.proofs.points.points_are_passed.Goals as goal

pub returns-clause-row : goal.returns-clause-row
returns-clause-row g c run from mid to p xs ys next first then =
    let plant = g.P.Plant.state c.args.plant.now in
    in_a_row Point Way Choice (IsChoice plant) (ShowsPoint run (shape_of plant)) from mid to p xs ys next first then

pub returns-clause-seen : goal.returns-clause-seen
returns-clause-seen g c run from to p points goes =
    let plant = g.P.Plant.state c.args.plant.now in
    some_shown Point Way Choice (IsChoice plant) (ShowsPoint run (shape_of plant)) from to p points goes

pub returns-clause-bear : goal.returns-clause-bear
returns-clause-bear g c = points_bear_throughout (g.P.Plant.state c.args.plant.now)
