use Rattle.mover_tests.proofs.Homes.{goes_said}
use Rattle.mover_tests.proofs.commands.say.Goals as goal

pub returns : goal.returns
returns g c =
    let course = c.args.course.now in
    record { may = goes_said g.P.Plant.tells c.args.at.0 course.names course.lanes.items course.group course.site (g.P.Plant.state c.args.plant.now) (g.P.Plant.state c.say.new.self) c.say.ensures.only c.requires.may }
