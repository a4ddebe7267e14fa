use Rattle.applier.proofs.Moving.{worked_on}
use Rattle.applier.proofs.Worked.{applied_worked, synced_worked}
use Rattle.plant_tests.proofs.appliers.work_lent.Goals as goal

pub give_back_all-requires-clause-out : goal.give_back_all-requires-clause-out
give_back_all-requires-clause-out g c κs within =
    let tells = g.P.Plant.tells in
    let own = g.P.Volume.Disk.tells in
    let disk = g.P.Volume.Disk.state in
    let start = g.P.Plant.state c.args.plant.now in
    let plant = g.P.Plant.state c.lend_all.new.plant in
    let lent = c.lend_all.new.jobs in
    let applied = c.apply_all.new.jobs in
    let synced = c.sync_all.new.jobs in
    let out = worked_on tells own disk start plant lent lent applied c.lend_all.ensures.out (applied_worked disk own c.args.body.now.items lent applied c.apply_all.ensures.same c.apply_all.ensures.each) in
    (c.args.plant.now, lent, worked_on tells own disk start plant lent applied synced out (synced_worked disk own applied synced c.sync_all.ensures.same c.sync_all.ensures.each))
