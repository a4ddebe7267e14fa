use Rattle.applier.proofs.Moving.{worked_on}
use Rattle.plant_tests.proofs.loans.run.Goals as goal

pub give_back_all-requires-clause-out : goal.give_back_all-requires-clause-out
give_back_all-requires-clause-out g c κs within =
    let state = g.P.Plant.state in
    (c.args.plant.now, c.lend_all.new.jobs, worked_on g.P.Plant.tells g.P.Volume.Disk.tells g.P.Volume.Disk.state (state c.args.plant.now) (state c.lend_all.new.plant) c.lend_all.new.jobs c.lend_all.new.jobs c.work_all.new.jobs c.lend_all.ensures.out c.work_all.ensures)
