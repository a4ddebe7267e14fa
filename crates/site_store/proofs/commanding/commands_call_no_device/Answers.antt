use Rattle.site_store.proofs.Commanded.{changes_may, commands_leave, put_rows_leave}
use Rattle.site_store.proofs.commanding.commands_call_no_device.Goals as goal

pub returns-clause-commands : goal.returns-clause-commands
returns-clause-commands g c = commands_leave g.P.Plant.tells (g.P.Plant.state c.args.plant.now)

pub returns-clause-rows : goal.returns-clause-rows
returns-clause-rows g c = put_rows_leave g.P.Plant.tells (g.P.Plant.state c.args.plant.now)

pub returns-clause-next : goal.returns-clause-next
returns-clause-next g c = changes_may g.P.Plant.tells (g.P.Plant.state c.args.plant.now)
